-- The lines that tell faults.
use Rattle.std.specs.Prelude.{◌++◌, codes}
use Rattle.desk_base.specs.Names.{Text}
use Rattle.desk_base.specs.Shown.{shown}
use Rattle.desk_faults.specs.declared.fault.Fault.{Fault}
use Rattle.desk_faults.specs.declared.fault.Tried.{Tried}
use Rattle.desk_faults.specs.declared.fault.Tried.TheVariants.{Placing, Listing, Reading, Making, Writing, Opening, Keeping}

-- what was tried, as it is told
abbrev pub tried_text : Tried → Text
tried_text Placing = codes "finding the place of"
tried_text Listing = codes "listing"
tried_text Reading = codes "reading"
tried_text Making = codes "making"
tried_text Writing = codes "writing"
tried_text Opening = codes "opening the ledger"
tried_text Keeping = codes "writing the ledger"

-- a fault: what was tried, the path, and why it failed
abbrev pub fault_text : Fault → Text
fault_text f = codes "migrate: " ++ (tried_text f.tried ++ (codes " " ++ (shown f.path ++ (codes ": " ++ (f.words ++ codes "\n")))))

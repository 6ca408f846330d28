-- When a rule set isn't built.
use Rattle.std.specs.Prelude.{◌≡◌, ⊤, Result, Err}
use Rattle.desk_base.specs.Names.{Text}
use Rattle.desk_entries.specs.declared.faults.EntryFault.{EntryFault}
use Rattle.desk_rules.specs.Reads.{fault_at}
use Rattle.desk_rules.specs.declared.RuleFault.{RuleFault}
use Rattle.desk_rules.specs.declared.BuildFault.{BuildFault}
use Rattle.desk_rules.specs.declared.BuildFault.TheVariants.{Rules, Memory}

-- the fault of what was read; want of memory comes freely
abbrev pub IsFaultOf : {A : Type 0} → Result A RuleFault → BuildFault → Type 0
IsFaultOf read (Rules fault) = read ≡ Err fault
IsFaultOf read Memory = ⊤

-- what was read is a fault of this entry
pub record IsFaultAt {A : Type 0} (file key : Text) (read : Result A EntryFault) (fault : RuleFault) : Type 0 where
  pub at : EntryFault
  pub read_is : read ≡ Err at
  pub fault_is : fault ≡ fault_at file key at

-- the fault of an entry of a file; want of memory comes freely
abbrev pub IsEntryFault : {A : Type 0} → Text → Text → Result A EntryFault → BuildFault → Type 0
IsEntryFault file key read (Rules fault) = IsFaultAt file key read fault
IsEntryFault file key read Memory = ⊤

-- What a walker does with a reader: it hands over the uses of the tree, and builds no tree.
use Rattle.std.specs.Prelude.{◌≡◌, ℕ, List, ◌++◌, Result, Ok, Err}
use Rattle.desk_base.specs.declared.faults.ReadFault.{ReadFault}
use Rattle.desk_base.specs.declared.faults.ReadFault.TheVariants as read_faults
use Rattle.desk_base.specs.Spot.{Spot}
use Rattle.desk_base.specs.declared.kinds.Used.{Used}
use Rattle.desk_format.specs.Trees.{uses}
use Rattle.desk_format.specs.Reading.{Got, Failed, Reader, fence_fault}

-- the uses that were handed over, and where the cursor stands
pub record Walk : Type 0 where
  pub uses : List Used
  pub at : ℕ
  pub left : List ℕ

abbrev pub walk_at : List Used → Spot → Walk
walk_at us spot = record { uses = us; at = spot.at; left = spot.left }

abbrev pub walked : List Used → Result Got Failed → Result Walk Failed
walked us (Ok got) = Ok (record { uses = us ++ uses got.tree; at = got.at; left = got.left })
walked us (Err e) = Err (record { fault = e.fault; before = us ++ e.before })

unfoldable pub walk : Reader → Walk → Result Walk Failed
walk reader w = walked w.uses (reader w.at w.left)

-- A walker ends as the reading says, unless memory ran out.
abbrev pub Stops : ReadFault → Result Walk Failed → List Used → Type 0
Stops (read_faults.Malformed f) reading us = reading ≡ Err (record { fault = f; before = us })
Stops read_faults.Memory reading us = Unit {0}

abbrev pub Walks : {T : Type 0} → Result T ReadFault → Result Walk Failed → Spot → List Used → Type 0
Walks (Ok _) reading spot us = reading ≡ Ok (walk_at us spot)
Walks (Err e) reading spot us = Stops e reading us

-- a fault in a fence, as seen from outside
abbrev pub fault_in_fence : ℕ → ReadFault → ReadFault
fault_in_fence at (read_faults.Malformed f) = read_faults.Malformed (fence_fault at f)
fault_in_fence at read_faults.Memory = read_faults.Memory

-- A one-byte tag that was read, and what is read behind it.
use Rattle.std.specs.Prelude.{◌≡◌, ℕ, List, Some, None, Err}
use Rattle.desk_base.specs.Spot.{Spot}
use Rattle.desk_base.specs.Entries.{Pool}
use Rattle.desk_base.specs.declared.kinds.Used.{Used}
use Rattle.desk_base.specs.declared.faults.FaultKind.{FaultKind}
use Rattle.desk_format.specs.Layouts.{Layout, Check}
use Rattle.desk_format.specs.Reading.{read}
use Rattle.desk_format.specs.Walk.{walk, walk_at}

-- A tag was read between two spots. A choice by a tag is then read as the layout that this tag selects, from the new spot;
-- where the tag is out of its range, the fault stands at the old one.
pub record ReadsTag (old new : Spot) (tag : ℕ) : Type 0 where
  pub selects : (us : List Used) (pool : Pool) (check : Check) (branch : ℕ → Layout) → check tag ≡ None
      → walk (read pool (Layout.tagged check branch)) (walk_at us old) ≡ walk (read pool (branch tag)) (walk_at us new)
  pub refuses : (us : List Used) (pool : Pool) (check : Check) (branch : ℕ → Layout) (kind : FaultKind) → check tag ≡ Some kind
      → walk (read pool (Layout.tagged check branch)) (walk_at us old) ≡ Err (record { fault = record { kind = kind; at = old.at }; before = us })

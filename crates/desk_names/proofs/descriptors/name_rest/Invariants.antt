use Rattle.std.specs.Prelude.{◌≡◌, ◌≤◌, ◌-◌, drop, length}
use Rattle.desk_base.specs.Descriptors.{Position, Awaited, run}
use Rattle.desk_names.proofs.descriptors.name_rest.Given as goal

abbrev pub invariant-loop-at : goal.invariant-loop-at
invariant-loop-at l = (l.fn.from ≤ l.at) × (l.at ≤ length l.text) × ((place : Position) → run (Awaited.name_rest place l.inside) (drop l.at l.text) ≡ run (Awaited.name_rest place l.fn.begun) (drop l.fn.from l.text))

abbrev pub decreases-loop-at : goal.decreases-loop-at
decreases-loop-at l = length l.text - l.at

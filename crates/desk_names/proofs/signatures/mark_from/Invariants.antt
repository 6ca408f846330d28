use Rattle.std.specs.Prelude.{◌≡◌, ◌+◌, ◌≤◌, ◌-◌, drop, length}
use Rattle.desk_names.specs.SignatureScan.{mark_place}
use Rattle.desk_names.proofs.signatures.mark_from.Given as goal

abbrev pub invariant-loop-at : goal.invariant-loop-at
invariant-loop-at l = (l.at ≤ length l.text) × (l.at + mark_place (drop l.at l.text) ≡ l.fn.from + mark_place (drop l.fn.from l.text))

abbrev pub decreases-loop-at : goal.decreases-loop-at
decreases-loop-at l = length l.text - l.at

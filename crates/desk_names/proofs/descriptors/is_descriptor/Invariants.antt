use Rattle.std.specs.Prelude.{◌≡◌, ◌≤◌, ◌-◌, drop, length}
use Rattle.desk_base.specs.Descriptors.{run, start}
use Rattle.desk_names.specs.States.{wanted_kind, awaited_of}
use Rattle.desk_names.proofs.descriptors.is_descriptor.Given as goal

abbrev pub invariant-loop-at : goal.invariant-loop-at
invariant-loop-at l = (l.at ≤ length l.text) × (run (awaited_of l.state) (drop l.at l.text) ≡ run (start (wanted_kind l.fn.want)) l.text)

abbrev pub decreases-loop-at : goal.decreases-loop-at
decreases-loop-at l = length l.text - l.at

use Rattle.std.proofs.Common.{◌-◌, ◌≤◌, length}
use Rattle.desk_base.specs.Utf8.{AreSingle}
use Rattle.desk_base.proofs.utf8.single_front.Given as goal

abbrev pub invariant-loop-at : goal.invariant-loop-at
invariant-loop-at l = (l.at ≤ length l.bytes) × AreSingle l.bytes 0 l.at

abbrev pub decreases-loop-at : goal.decreases-loop-at
decreases-loop-at l = length l.bytes - l.at

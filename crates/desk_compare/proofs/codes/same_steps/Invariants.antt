use Rattle.std.proofs.Common.{◌≡◌, length}
use Rattle.desk_compare.proofs.SameSteps.{Behind}
use Rattle.desk_compare.proofs.codes.same_steps.Given as goal

abbrev pub invariant-loop-one : goal.invariant-loop-one
invariant-loop-one l = (l.known ≡ l.initial.known) × Behind l.initial.known.left l.initial.known.right l.left_code l.right_code l.one l.other

abbrev pub decreases-loop-one : goal.decreases-loop-one
decreases-loop-one l = length l.one

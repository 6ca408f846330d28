use Rattle.std.proofs.Common.{length}
use Rattle.test_cases.proofs.shown.ShownDisplay.fmt.Given as goal

abbrev pub decreases-loop-first : goal.decreases-loop-first
decreases-loop-first g l = length l.left

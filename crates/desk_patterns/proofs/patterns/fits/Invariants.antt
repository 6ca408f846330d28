use Rattle.desk_patterns.specs.Tries.{IsTry, room}
use Rattle.desk_patterns.proofs.patterns.fits.Given as goal

abbrev pub invariant-loop-at : goal.invariant-loop-at
invariant-loop-at l = IsTry l.pattern l.path l.at

abbrev pub decreases-loop-at : goal.decreases-loop-at
decreases-loop-at l = room l.pattern l.path l.at

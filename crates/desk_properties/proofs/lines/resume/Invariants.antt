use Rattle.std.proofs.Common.{◌-◌, length}
use Rattle.desk_properties.proofs.Skips.{IsResumedSoFar}
use Rattle.desk_properties.proofs.lines.resume.Given as goal

abbrev pub invariant-loop-size : goal.invariant-loop-size
invariant-loop-size l = IsResumedSoFar l.file l.from l.at

abbrev pub decreases-loop-size : goal.decreases-loop-size
decreases-loop-size l = length l.file - l.at

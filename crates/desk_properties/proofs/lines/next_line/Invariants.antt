use Rattle.std.proofs.Common.{◌-◌, length}
use Rattle.desk_properties.proofs.Skips.{IsPassedOver}
use Rattle.desk_properties.proofs.lines.next_line.Given as goal

abbrev pub invariant-loop-at : goal.invariant-loop-at
invariant-loop-at l = IsPassedOver l.file l.from l.at

abbrev pub decreases-loop-at : goal.decreases-loop-at
decreases-loop-at l = length l.file - l.at

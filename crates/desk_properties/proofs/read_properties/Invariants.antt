use Rattle.std.proofs.Common.{◌-◌, length}
use Rattle.desk_properties.proofs.Files.{IsReadSoFar}
use Rattle.desk_properties.proofs.read_properties.Given as goal

abbrev pub invariant-loop-at : goal.invariant-loop-at
invariant-loop-at l = IsReadSoFar l.bytes l.entries.entries l.at

abbrev pub decreases-loop-at : goal.decreases-loop-at
decreases-loop-at l = length l.bytes - l.at

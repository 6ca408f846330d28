use Rattle.std.proofs.Common.{◌-◌, length}
use Rattle.desk_properties.proofs.Parts.{IsPartSoFar}
use Rattle.desk_properties.proofs.entries.read_part.Given as goal

abbrev pub invariant-loop-part : goal.invariant-loop-part
invariant-loop-part l = IsPartSoFar l.file l.part l.from l.text l.next

abbrev pub decreases-loop-part : goal.decreases-loop-part
decreases-loop-part l = length l.file - l.next

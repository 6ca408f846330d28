use Rattle.std.proofs.Common.{◌≡◌, map, take}
use Rattle.desk_format.specs.Members.{named_in}
use Rattle.desk_class.specs.Marks.{named_mark}
use Rattle.desk_class.proofs.twins.marks_of.Given as goal

abbrev pub invariant-loop-member : goal.invariant-loop-member
invariant-loop-member l = l.marks.items ≡ map (λ m. named_mark (named_in l.pool.entries m)) (take l.member-index l.members)

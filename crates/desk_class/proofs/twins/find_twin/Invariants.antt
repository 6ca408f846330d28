use Rattle.desk_class.proofs.Pairs.{Seen}
use Rattle.desk_class.proofs.twins.find_twin.Given as goal

abbrev pub invariant-loop-member : goal.invariant-loop-member
invariant-loop-member l = Seen l.pool.entries l.members l.member-index l.numbers l.seen

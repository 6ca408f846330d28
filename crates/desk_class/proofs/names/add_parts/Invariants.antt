use Rattle.desk_class.proofs.Sets.{Adding}
use Rattle.desk_class.proofs.names.add_parts.Given as goal

abbrev pub invariant-loop-part : goal.invariant-loop-part
invariant-loop-part l = Adding l.fn.names l.initial.part-iterator l.names l.part-iterator l.rest

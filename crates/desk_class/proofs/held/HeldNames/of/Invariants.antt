use Rattle.desk_class.specs.Found.{texts}
use Rattle.desk_class.proofs.Packing.{Packing}
use Rattle.desk_class.proofs.held.HeldNames.of.Given as goal

abbrev pub invariant-loop-name : goal.invariant-loop-name
invariant-loop-name l = Packing (texts l.names) l.name-index l.bytes.items l.ends.items

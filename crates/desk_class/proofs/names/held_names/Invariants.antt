use Rattle.desk_class.proofs.Sets.{Holding, AreHeld}
use Rattle.desk_class.proofs.names.held_names.Given as goal

abbrev pub invariant-loop-used : goal.invariant-loop-used
invariant-loop-used l = record { held : Holding l.pool.entries l.uses l.used-index l.names; noted : AreHeld l.pool.entries l.noted l.names }

use Rattle.desk_paths.proofs.Walked.{IsWalked}
use Rattle.desk_paths.proofs.places.walk_over.Given as goal

abbrev pub invariant-loop-i : goal.invariant-loop-i
invariant-loop-i l = IsWalked l.path l.walk l.i

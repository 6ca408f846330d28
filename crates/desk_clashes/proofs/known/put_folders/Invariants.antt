use Rattle.desk_clashes.proofs.Sets.{IsPutting}
use Rattle.desk_clashes.proofs.known.put_folders.Given as goal

abbrev pub invariant-loop-place : goal.invariant-loop-place
invariant-loop-place l = IsPutting l.initial.set l.set l.text l.place

use Rattle.std.proofs.Common.{◌≡◌, ◌++◌, drop}
use Rattle.desk_class.specs.Found.{texts}
use Rattle.desk_graph.proofs.scanned.copied_names.Given as goal

abbrev pub invariant-loop-place : goal.invariant-loop-place
invariant-loop-place l = texts l.names.items ++ drop l.place l.held ≡ l.held

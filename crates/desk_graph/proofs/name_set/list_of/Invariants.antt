use Rattle.std.proofs.Common.{◌≡◌, ◌++◌}
use Rattle.desk_graph.proofs.name_set.list_of.Given as goal

abbrev pub invariant-loop-name : goal.invariant-loop-name
invariant-loop-name l = l.list.items ++ l.name-iterator ≡ l.initial.name-iterator

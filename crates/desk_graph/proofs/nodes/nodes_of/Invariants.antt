use Rattle.std.proofs.Common.{◌≡◌, ◌++◌, ◌≤◌, drop}
use Rattle.desk_graph.specs.Nodes.{nodes_from}
use Rattle.desk_graph.specs.Tables.{holds}
use Rattle.desk_graph.proofs.nodes.nodes_of.Given as goal

abbrev pub invariant-loop-name : goal.invariant-loop-name
invariant-loop-name l = (l.nodes.items ++ nodes_from (holds l.defined) l.count (drop l.name-index l.names) ≡ nodes_from (holds l.defined) 0 l.names) × (l.count ≤ l.name-index)

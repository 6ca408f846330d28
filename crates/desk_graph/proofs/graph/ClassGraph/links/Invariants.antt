use Rattle.desk_graph.proofs.Links.{Linked}
use Rattle.desk_graph.specs.Nodes.{firsts, defined_of}
use Rattle.desk_graph.proofs.graph.ClassGraph.links.Given as goal

abbrev pub invariant-loop-name : goal.invariant-loop-name
invariant-loop-name l = Linked (defined_of (firsts l.known) l.nodes) l.name-items l.name-index l.links.items

use Rattle.std.proofs.Common.{refl, get_or, None, arith}
use Rattle.desk_graph.specs.Nodes.{firsts}
use Rattle.desk_graph.proofs.Numbering.{node_is, unknown, nodes_long, firsts_long}
use Rattle.desk_graph.proofs.nodes.node_in.Goals as goal

pub bounds-nodes-place : goal.bounds-nodes-place
bounds-nodes-place c = omega (arith, nodes_long 0 (firsts c.args.known.now) c.args.nodes.now c.requires.numbered, firsts_long c.args.known.now, c.in-Some.ensures.0)

pub returns-in-Some : goal.returns-in-Some
returns-in-Some c = node_is c.args.known.now c.args.nodes.now c.requires c.args.name.now c.in-Some.place c.in-Some.ensures (get_or c.args.nodes.now c.in-Some.place None) refl

pub returns-in-None : goal.returns-in-None
returns-in-None c = unknown c.args.known.now c.args.nodes.now c.requires c.args.name.now c.in-None.ensures

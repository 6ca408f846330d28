use Rattle.std.proofs.Common.{◌<◌, ◌∙◌, sym, length, arith}
use Rattle.desk_graph.specs.Nodes.{firsts}
use Rattle.desk_graph.proofs.Numbering.{nodes_long, firsts_long}
use Rattle.desk_graph.proofs.Clashing.{none_left, passed, found_here, not_found_here}
use Rattle.desk_graph.proofs.clashes.first_clash.Goals as goal
use Rattle.desk_graph.proofs.clashes.first_clash.Goals.{then-is_some+else-is_some-2, else-is_some}

pub bounds-nodes-place : goal.bounds-nodes-place
bounds-nodes-place c = omega (arith, nodes_long 0 (firsts c.args.known.now) c.args.nodes.now c.requires.numbered, firsts_long c.args.known.now)

pub returns-then-is_some-2-clause-pair : goal.returns-then-is_some-2-clause-pair
returns-then-is_some-2-clause-pair c = λ f by.
    let within : c.loop-place.place < length c.args.nodes.now = omega (arith, nodes_long 0 (firsts c.args.known.now) c.args.nodes.now c.requires.numbered, firsts_long c.args.known.now) in
    found_here f c.args.known.now by c.args.nodes.now c.loop-place.place c.loop-place-test.true within c.index-known-place.result c.index-known-place.is (sym c.is_some.ensures ∙ c.if-is_some.true)
    c.clash_of-clash.result c.clash_of-clash.ensures.pair (sym c.is_some-then-is_some.ensures ∙ c.if-is_some-2.true)
    ∙ c.loop-place.invariant f by

pub loop-place-preserved : goal.loop-place-preserved
loop-place-preserved c = λ f by.
    let within : c.loop-place.place < length c.args.nodes.now = omega (arith, nodes_long 0 (firsts c.args.known.now) c.args.nodes.now c.requires.numbered, firsts_long c.args.known.now) in
    elim c.if-is_some.branch [
      | then-is_some+else-is_some-2 w ↦
          not_found_here f c.args.known.now by c.args.nodes.now c.loop-place.place c.loop-place-test.true within w.index-known-place.result w.index-known-place.is (sym c.is_some.ensures ∙ w.if-is_some.true)
          w.clash_of-clash.result w.clash_of-clash.ensures.pair (sym w.is_some-then-is_some.ensures ∙ w.if-is_some-2.false)
          ∙ c.loop-place.invariant f by
      | else-is_some w ↦
          passed f c.args.known.now c.args.nodes.now c.loop-place.place c.loop-place-test.true within (sym c.is_some.ensures ∙ w.if-is_some.false) ∙ c.loop-place.invariant f by
    ]

pub returns-clause-pair : goal.returns-clause-pair
returns-clause-pair c = λ f by. none_left f c.args.known.now c.args.nodes.now c.loop-place.place (omega arith) ∙ c.loop-place.invariant f by

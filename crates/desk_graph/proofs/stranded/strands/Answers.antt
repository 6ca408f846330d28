use Rattle.std.proofs.Common.{◌∙◌, sym, ap, Bool, ◌&&◌, not, [], get_or, arith}
use Rattle.std.specs.Str.{bytes_eq}
use Rattle.std.proofs.lemmas.List.{get_or_default}
use Rattle.desk_graph.specs.Application.{Pair}
use Rattle.desk_graph.specs.Nodes.{firsts}
use Rattle.desk_graph.proofs.Numbering.{nodes_long, firsts_long}
use Rattle.desk_graph.proofs.Stranding.{strands_known, strands_unknown}
use Rattle.desk_graph.proofs.stranded.strands.Goals as goal

pub bounds-nodes-place : goal.bounds-nodes-place
bounds-nodes-place c = omega (arith, nodes_long 0 (firsts c.args.known.now) c.args.nodes.now c.requires.numbered, firsts_long c.args.known.now, c.in-Some.ensures.0)

pub returns-then-is_some : goal.returns-then-is_some
returns-then-is_some c = λ f by.
    let one = c.index-known-place.result in
    c.changes.ensures
    ∙ ap (λ (b : Bool). b && not (bytes_eq one.1 one.0)) (sym c.if-is_some.true ∙ c.is_some.ensures)
    ∙ strands_known f c.args.known.now c.args.nodes.now c.in-Some.place one c.args.name.now c.requires by c.in-Some.ensures c.index-known-place.is

pub returns-else-is_some : goal.returns-else-is_some
returns-else-is_some c = λ f by.
    let one : Pair = get_or c.args.known.now c.in-Some.place ([], []) in
    c.if-is_some.false
    ∙ ap (λ (b : Bool). b && not (bytes_eq one.1 one.0)) (sym c.if-is_some.false ∙ c.is_some.ensures)
    ∙ strands_known f c.args.known.now c.args.nodes.now c.in-Some.place one c.args.name.now c.requires by c.in-Some.ensures (get_or_default c.args.known.now c.in-Some.place ([], []) one c.in-Some.ensures.0)

pub returns-in-None : goal.returns-in-None
returns-in-None c = λ f by. strands_unknown f c.args.known.now c.args.nodes.now c.args.name.now c.requires c.in-None.ensures

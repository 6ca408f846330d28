use Rattle.std.proofs.Common.{◌≡◌, ◌+◌, ◌<◌, true, length, take, drop, get_or, sym, ap, ◌∙◌, arith}
use Rattle.std.specs.Str.{bytes_eq}
use Rattle.std.proofs.lemmas.List.{take_rest}
use Rattle.desk_base.specs.Names.{Text}
use Rattle.desk_sites.specs.Packages.{lies_in}
use Rattle.desk_sites.proofs.Segments.{lies_on, from_not}
use Rattle.desk_sites.proofs.packages.lies_in.Goals as goal

pub loop-segment-preserved : goal.loop-segment-preserved
loop-segment-preserved c =
    let rest = c.loop-segment.rest.now in
    let scope = c.args.scope.now in
    let i = c.loop-segment.segment-index in
    let end = c.slash_place-end.result in
    let segment = c.segment-item.result in
    let cut : end < length rest = omega (arith, c.slash_place-end.ensures.inside, c.if-end-rest.false) in
    let item : bytes_eq (get_or scope i segment) (take end rest) ≡ true =
    ap (λ (t : Text). bytes_eq t (take end rest)) (sym c.segment-item.is) ∙ ap (λ (t : Text). bytes_eq t (take end rest)) (sym c.as_bytes.ensures) ∙ from_not _ c.if-ne.ensures in
    ap (lies_in (drop (i + 1) scope)) (take_rest rest (end + 1))
    ∙ sym (lies_on rest scope i end segment c.loop-segment-test.true c.slash_place-end.ensures.place cut item)
    ∙ c.loop-segment.invariant

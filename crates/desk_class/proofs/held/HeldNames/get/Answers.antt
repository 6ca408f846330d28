use Rattle.std.proofs.Common.{◌≡◌, ◌∙◌, sym, ap, List, [], length, get_or, take, drop, ◌-◌, ◌<◌, arith}
use Rattle.desk_base.specs.Names.{Text}
use Rattle.std.proofs.lemmas.List.{get_or_default}
use Rattle.desk_class.proofs.Packing.{cut_long, Cut, cut, first_start, next_start}
use Rattle.desk_class.proofs.held.HeldNames.get.Goals as goal
use Rattle.desk_class.proofs.held.HeldNames.get.Goals.{then-place-eq0, else-place-eq0}

pub index-requires : goal.index-requires
index-requires c =
    let h = c.self.inside in
    let long : length c.args.self.now ≡ length h.ends.items = ap length (sym c.self.view_is) ∙ cut_long h.bytes.items 0 h.ends.items in
    omega (arith, long, h.ends.ok.0)

pub index-end-requires : goal.index-end-requires
index-end-requires c =
    let h = c.self.inside in
    let long : length c.args.self.now ≡ length h.ends.items = ap length (sym c.self.view_is) ∙ cut_long h.bytes.items 0 h.ends.items in
    omega (arith, long, h.ends.ok.0)

-- what lies between both ends
here : (c : goal.After-row_known-3-1) → Cut c.self.inside.bytes.items c.self.inside.ends.items c.args.place c.if-place-eq0.start c.index-end.result.now
here c =
    let h = c.self.inside in
    let long : length c.args.self.now ≡ length h.ends.items = ap length (sym c.self.view_is) ∙ cut_long h.bytes.items 0 h.ends.items in
    let within : c.args.place < length h.ends.items = omega (arith, long) in
    cut h.bytes.items h.ends.items c.args.place c.if-place-eq0.start c.index-end.result.now c.self.invariant within
    (elim c.if-place-eq0.branch [
      | then-place-eq0 w ↦ first_start h.ends.items c.args.place c.if-place-eq0.start w.if-place-eq0.true w.start-is
      | else-place-eq0 w ↦ next_start h.ends.items c.args.place c.if-place-eq0.start w.index.result.now w.if-place-eq0.false within (w.start-is ∙ w.index.ensures)
    ])
    (c.index-end.ensures ∙ get_or_default h.ends.items c.args.place c.index-end.result.now 0 within)

pub slice_bounds-result-count : goal.slice_bounds-result-count
slice_bounds-result-count c = (here c).order

pub slice_bounds-result-start : goal.slice_bounds-result-start
slice_bounds-result-start c = let k = here c in omega (arith, k.order, k.within, c.deref.ensures.len, c.self.inside.bytes.ok.0, ap length c.deref.ensures.value)

pub slice_bounds-result-end : goal.slice_bounds-result-end
slice_bounds-result-end c = let k = here c in omega (arith, k.order, k.within, c.deref.ensures.len, c.self.inside.bytes.ok.0, ap length c.deref.ensures.value)

pub returns : goal.returns
returns c =
    let h = c.self.inside in
    let long : length c.args.self.now ≡ length h.ends.items = ap length (sym c.self.view_is) ∙ cut_long h.bytes.items 0 h.ends.items in
    let within : c.args.place < length h.ends.items = omega (arith, long) in
    let k = cut h.bytes.items h.ends.items c.args.place c.if-place-eq0.start c.index-end.result.now c.self.invariant within
    (elim c.if-place-eq0.branch [
      | then-place-eq0 w ↦ first_start h.ends.items c.args.place c.if-place-eq0.start w.if-place-eq0.true w.start-is
      | else-place-eq0 w ↦ next_start h.ends.items c.args.place c.if-place-eq0.start w.index.result.now w.if-place-eq0.false within (w.start-is ∙ w.index.ensures)
    ])
    (c.index-end.ensures ∙ get_or_default h.ends.items c.args.place c.index-end.result.now 0 within) in
    ap (λ (t : Text). take (c.index-end.result.now - c.if-place-eq0.start) (drop c.if-place-eq0.start t)) c.deref.ensures.value
    ∙ k.text
    ∙ ap (λ (ts : List Text). get_or ts c.args.place []) c.self.view_is

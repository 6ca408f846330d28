use Rattle.std.proofs.Common.{◌≡◌, ◌<◌, ◌∙◌, length, refl, sym, ap, arith}
use Rattle.std.proofs.Math.ListN.{set, length-set}
use Rattle.std.proofs.lemmas.List.{get_or_default}
use Rattle.desk_graph.specs.Alike.{AreAlike}
use Rattle.desk_graph.specs.declared.scanned.Scanned.{Scanned}
use Rattle.desk_graph.proofs.Alike.{joined, path_set}
use Rattle.desk_graph.proofs.scanned.without_paths.Goals as goal
use Rattle.desk_graph.proofs.scanned.without_paths.Goals.{then-index, else-index}

pub loop-place-preserved : goal.loop-place-preserved
loop-place-preserved c =
    let within : c.loop-place.place < length c.loop-place.kept.items = omega (arith, c.loop-place.invariant.1) in
    elim c.if-index.branch [
      | then-index w ↦
          let one : Scanned = w.index_mut.result.now in
          let same : one ≡ c.index.result.now = w.index_mut.ensures.value ∙ get_or_default c.loop-place.kept.items c.loop-place.place one c.index.result.now within ∙ sym c.index.ensures in
          let new : Scanned = record { path = w.empty.result; selected = one.selected; name = one.name; held = one.held } in
          let alike : AreAlike (set c.loop-place.kept.items c.loop-place.place new) c.loop-place.kept.items =
          path_set c.loop-place.kept.items c.loop-place.place new one within w.index_mut.ensures.value refl refl refl (ap (λ (s : Scanned). s.selected) same ∙ w.if-index.true) in
          rw w.kept-is (joined _ c.loop-place.kept.items c.args.classes.items alike c.loop-place.invariant.0, length-set c.loop-place.kept.items c.loop-place.place new ∙ c.loop-place.invariant.1)
      | else-index w ↦ rw w.kept-is c.loop-place.invariant
    ]

use Rattle.std.proofs.Common.{◌≡◌, ℕ, ◌+◌, ◌<◌, length, get_or, ap, sym, ◌∙◌, arith}
use Rattle.std.proofs.lemmas.List.Sums.{count_by_more_yes, count_by_more_no}
use Rattle.desk_new_pool.proofs.Wanted.{want_at, place_within}
use Rattle.desk_new_pool.specs.declared.wants.WantedText.{WantedText}
use Rattle.desk_rewrite.specs.Wanting.{has_other}
use Rattle.desk_rewrite.proofs.counts.renamed_uses.Goals as goal
use Rattle.desk_rewrite.proofs.counts.renamed_uses.Goals.{then-is_some, else-is_some}

pub loop-place-preserved : goal.loop-place-preserved
loop-place-preserved c =
    let w : WantedText = c.get.result in
    let lt : c.loop-place.place < length c.args.wants.now = place_within c.args.wants.now c.loop-place.place w c.get.ensures in
    let is : has_other (get_or c.args.wants.now c.loop-place.place w) ≡ has_other w = ap has_other (want_at c.args.wants.now c.loop-place.place w c.get.ensures) in
    elim c.if-is_some.branch [
      | then-is_some v ↦ record {
        counted = v.renamed-is ∙ ap (λ (n : ℕ). n + 1) c.loop-place.invariant.counted
            ∙ sym (count_by_more_yes has_other c.args.wants.now c.loop-place.place w lt (is ∙ sym c.is_some.ensures ∙ v.if-is_some.true));
        few = omega (arith, v.renamed-is, c.loop-place.invariant.few);
      }
      | else-is_some v ↦ record {
        counted = v.renamed-is ∙ c.loop-place.invariant.counted
            ∙ sym (count_by_more_no has_other c.args.wants.now c.loop-place.place w lt (is ∙ sym c.is_some.ensures ∙ v.if-is_some.false));
        few = omega (arith, v.renamed-is, c.loop-place.invariant.few);
      }
    ]

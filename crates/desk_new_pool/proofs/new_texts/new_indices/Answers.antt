use Rattle.std.proofs.Common.{ℕ, [], ◌∷◌, ◌++◌, ap, ◌∙◌}
use Rattle.desk_base.specs.Misfits.{or_else}
use Rattle.desk_new_pool.specs.Places.{not_kept, index_by, place_in}
use Rattle.desk_new_pool.specs.declared.wants.WantedText.{WantedText}
use Rattle.desk_new_pool.proofs.Wanted.{made_more}
use Rattle.desk_new_pool.proofs.new_texts.new_indices.Goals as goal

pub loop-place-preserved : goal.loop-place-preserved
loop-place-preserved c =
    made_more (λ (w : WantedText). index_by (λ t. or_else (place_in c.args.kept.now t) (place_in c.args.added.now t)) w.used.index (not_kept c.args.texts.now w)) c.args.wants.now c.loop-place.place c.get.result c.loop-place.indices.items c.push.new.self.items c.get.ensures c.loop-place.invariant
    (c.in_ok-push.ensures.items ∙ ap (λ (n : ℕ). c.loop-place.indices.items ++ n ∷ []) c.new_index.ensures)

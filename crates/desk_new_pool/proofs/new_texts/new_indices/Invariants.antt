use Rattle.std.proofs.Common.{◌≡◌, map, take}
use Rattle.desk_base.specs.Misfits.{or_else}
use Rattle.desk_new_pool.specs.Places.{not_kept, index_by, place_in}
use Rattle.desk_new_pool.specs.declared.wants.WantedText.{WantedText}
use Rattle.desk_new_pool.proofs.new_texts.new_indices.Given as goal

abbrev pub invariant-loop-place : goal.invariant-loop-place
invariant-loop-place l = l.indices.items ≡ map (λ (w : WantedText). index_by (λ t. or_else (place_in l.kept t) (place_in l.added t)) w.used.index (not_kept l.texts w)) (take l.place l.wants)

use Rattle.std.proofs.Common.{◌≡◌, All, take, None}
use Rattle.desk_new_pool.specs.Places.{not_kept}
use Rattle.desk_new_pool.specs.declared.wants.WantedText.{WantedText}
use Rattle.desk_new_pool.proofs.new_texts.any_not_kept.Given as goal

abbrev pub invariant-loop-place : goal.invariant-loop-place
invariant-loop-place l = All (λ (w : WantedText). not_kept l.texts w ≡ None) (take l.place l.wants)

use Rattle.std.proofs.Common.{◌≡◌, map, take}
use Rattle.desk_new_pool.specs.declared.wants.WantedText.{WantedText}
use Rattle.desk_new_pool.proofs.new_texts.own_indices.Given as goal

abbrev pub invariant-loop-place : goal.invariant-loop-place
invariant-loop-place l = l.indices.items ≡ map (λ (w : WantedText). w.used.index) (take l.place l.wants)

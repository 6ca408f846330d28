use Rattle.std.proofs.Common.{◌≡◌, map, take}
use denote.Ref.{Bor}
use Rattle.desk_base.specs.Names.{Text}
use Rattle.desk_rewrite.proofs.wants.images_in.Given as goal

abbrev pub invariant-loop-text : goal.invariant-loop-text
invariant-loop-text l = map (λ (t : Bor Text). t.now) l.images.items ≡ take l.text-index l.texts

use Rattle.std.proofs.Common.{◌≡◌, map}
use Rattle.desk_words.proofs.packages.parts_at_dots.Given as goal

abbrev pub invariant-loop-part : goal.invariant-loop-part
invariant-loop-part l = l.list ≡ map (λ x. x.now) l.yielded

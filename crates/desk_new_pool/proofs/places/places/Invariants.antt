use Rattle.std.proofs.Common.{◌≡◌, ◌+◌, cond, drop, None}
use Rattle.desk_base.specs.Names.{Text}
use Rattle.desk_format.specs.Split.{holds}
use Rattle.desk_new_pool.specs.Places.{least, place_in}
use Rattle.desk_new_pool.proofs.places.places.Given as goal

abbrev pub invariant-loop-place : goal.invariant-loop-place
invariant-loop-place l = (t : Text) → place_in l.places t ≡ cond (holds l.sought t) (least (l.from + l.place) (drop l.place l.texts) t) None

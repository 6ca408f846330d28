use Rattle.std.proofs.Common.{◌≡◌, ◌++◌, map, filter}
use Rattle.std.specs.Option.{is_none}
use Rattle.desk_new_pool.specs.Places.{place_in}
use Rattle.desk_new_pool.proofs.sought.SoughtImages.without_place.Given as goal

abbrev pub invariant-loop-image : goal.invariant-loop-image
invariant-loop-image l =
    map (λ t. t.now) l.missing.items ++ filter (λ t. is_none (place_in l.places t)) (map (λ t. t.now) l.image-iterator)
    ≡ filter (λ t. is_none (place_in l.places t)) (map (λ t. t.now) l.initial.image-iterator)

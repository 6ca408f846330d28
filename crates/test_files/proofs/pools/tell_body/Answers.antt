use Rattle.std.proofs.Common.{[], ◌∷◌, refl}
use Rattle.test_files.proofs.pools.tell_body.Goals as goal

pub append_body-requires-clause-stands : goal.append_body-requires-clause-stands
append_body-requires-clause-stands c = (9 ∷ [], (8 ∷ 0 ∷ 5 ∷ 7 ∷ [], (refl, (refl, (8 ∷ [], (7 ∷ [], (refl, (refl, tt))))))))

-- Whether two members are of one kind.
use Rattle.std.proofs.Common.{◌≡◌, Bool, true, false, refl}
use Rattle.std.specs.Ordering.{is_eq, bool_cmp}
use Rattle.desk_format.specs.Members.{same_kind}

pub is_eq-bool_cmp : (a b : Bool) → is_eq (bool_cmp a b) ≡ same_kind a b
is_eq-bool_cmp true true = refl
is_eq-bool_cmp true false = refl
is_eq-bool_cmp false true = refl
is_eq-bool_cmp false false = refl

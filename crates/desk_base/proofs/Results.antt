-- What a value says of a `Result` or an `Option`.
use Rattle.std.proofs.Common.{◌≡◌, ℕ, Option, Some, None, Result, Ok, Err, OnErr, refl, subst}
use Rattle.std.specs.Prelude.{IfSome}
use Rattle.std.specs.Option.{option_copied}
use denote.Ref.{Bor}

pub on_err : {T E P : Type 0} (r : Result T E) → P → OnErr r P
on_err (Ok x) p = tt
on_err (Err e) p = p

-- what is said of a value that is there
pub at_some : {A : Type 0} (P : A → Type 0) (o : Option A) (x : A) → o ≡ Some x → IfSome o P → P x
at_some P o x e h = subst (λ v. IfSome v P) e h

pub never_copied : (o : Option (Bor ℕ)) → ((x : Bor ℕ) → o ≡ Some x → ⊥) → option_copied o ≡ None
never_copied None h = refl
never_copied (Some x) h = absurd (h x refl)

-- Outcomes whose answers are the same.
use Rattle.std.proofs.Common.{◌≡◌, ◌↔◌, Result, Ok, Err, IfOk, refl, subst}

-- what holds of the answer of one holds of the answer of the other
pub same_answer : {T E F : Type 0} (r : Result T E) (o : Result T F) (P : T → Type 0) → ((x : T) → (r ≡ Ok x) ↔ (o ≡ Ok x)) → IfOk o P → IfOk r P
same_answer (Ok x) o P same h = let is : o ≡ Ok x = (same x).0 refl in subst (λ t. IfOk t P) is h
same_answer (Err e) o P same h = tt

-- A text with some of its bytes exchanged.
use Rattle.std.proofs.Common.{◌≡◌, ◌≤◌, ◌+◌, ◌-◌, ℕ, zero, suc, [], ◌∷◌, ◌++◌, take, drop, refl, sym, ap, ◌∙◌, arith, append_assoc}
use Rattle.std.proofs.lemmas.List.{drop-drop}
use Rattle.desk_base.specs.Names.{Text}
use Rattle.desk_clauses.specs.Edits.{between, IsEdited}
use Rattle.desk_clauses.specs.declared.edits.Edits.{Edits}

-- the first bytes of a text, cut in two
take_nil : (n : ℕ) → take {A = ℕ} n [] ≡ []
take_nil zero = refl
take_nil (suc n) = refl

take_more_of : (m n : ℕ) (t : Text) → take (m + n) t ≡ take m t ++ take n (drop m t)
take_more_of zero n t = let e : 0 + n ≡ n = omega arith in ap (λ (k : ℕ). take k t) e
take_more_of (suc m) n [] = let e : suc m + n ≡ suc (m + n) = omega arith in ap (λ (k : ℕ). take {A = ℕ} k []) e ∙ sym (take_nil n)
take_more_of (suc m) n (b ∷ t) =
    let e : suc m + n ≡ suc (m + n) = omega arith in
    ap (λ (k : ℕ). take k (b ∷ t)) e ∙ ap (λ (s : Text). b ∷ s) (take_more_of m n t)

pub kept : (text : Text) (edits : Edits) (from to : ℕ) → edits.copied ≤ from → from ≤ to → IsEdited text edits edits from to (between from to text)
kept text edits from to h g =
    let sum : to - edits.copied ≡ (from - edits.copied) + (to - from) = omega arith in
    let place : edits.copied + (from - edits.copied) ≡ from = omega arith in
    record {
      order = omega arith;
      stands = ap (λ (t : Text). edits.image ++ t)
          (ap (λ (n : ℕ). take n (drop edits.copied text)) sum
          ∙ take_more_of (from - edits.copied) (to - from) (drop edits.copied text)
          ∙ ap (λ (t : Text). take (from - edits.copied) (drop edits.copied text) ++ take (to - from) t) (drop-drop (from - edits.copied) edits.copied text ∙ ap (λ (n : ℕ). drop n text) place))
          ∙ sym (append_assoc edits.image (take (from - edits.copied) (drop edits.copied text)) (between from to text));
    }

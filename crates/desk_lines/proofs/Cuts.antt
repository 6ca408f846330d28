-- Texts cut at a byte are put together again, and what was put together is cut as it was.
use Rattle.std.proofs.Common.{◌≡◌, ◌<◌, ◌≤◌, ◌+◌, ℕ, zero, suc, Bool, true, false, cond, not, [], ◌∷◌, ◌++◌, length, take, drop, get_or, refl, ap, sym, ◌∙◌, arith, length-append}
use Rattle.std.specs.List.{list_all}
use Rattle.std.proofs.lemmas.Bool.{and_parts, and_from, not-true}
use Rattle.std.proofs.lemmas.List.{take_at, drop_at}
use Rattle.desk_base.specs.Names.{Text}
use Rattle.desk_lines.specs.Cuts.{until, onward, stops}

-- a text of bytes that fail a test
abbrev pub fails : (ℕ → Bool) → Text → Bool
fails p = list_all (λ b. not (p b))

pub until-onward : (p : ℕ → Bool) (t : Text) → until p t ++ onward p t ≡ t
until-onward p [] = refl
until-onward p (b ∷ t) = elim (p b) as (λ (c : Bool). cond c [] (b ∷ until p t) ++ cond c (b ∷ t) (onward p t) ≡ b ∷ t) [
  | true ↦ refl
  | false ↦ ap (λ (s : Text). b ∷ s) (until-onward p t)
]

pub fails-until : (p : ℕ → Bool) (t : Text) → fails p (until p t) ≡ true
fails-until p [] = refl
fails-until p (b ∷ t) = elim (p b) as (λ (c : Bool). p b ≡ c → fails p (cond c [] (b ∷ until p t)) ≡ true) [
  | true ↦ λ h. refl
  | false ↦ λ h. and_from _ _ (ap not h) (fails-until p t)
] refl

pub stops-onward : (p : ℕ → Bool) (t : Text) → stops p (onward p t) ≡ true
stops-onward p [] = refl
stops-onward p (b ∷ t) = elim (p b) as (λ (c : Bool). p b ≡ c → stops p (cond c (b ∷ t) (onward p t)) ≡ true) [
  | true ↦ λ h. h
  | false ↦ λ h. stops-onward p t
] refl

pub until-append : (p : ℕ → Bool) (x y : Text) → fails p x ≡ true → stops p y ≡ true → until p (x ++ y) ≡ x
until-append p [] [] h g = refl
until-append p [] (b ∷ y) h g = ap (λ (c : Bool). cond c [] (b ∷ until p y)) g
until-append p (b ∷ x) y h g =
    ap (λ (c : Bool). cond c [] (b ∷ until p (x ++ y))) (not-true (p b) (and_parts _ _ h).0)
    ∙ ap (λ (s : Text). b ∷ s) (until-append p x y (and_parts _ _ h).1 g)

pub onward-append : (p : ℕ → Bool) (x y : Text) → fails p x ≡ true → stops p y ≡ true → onward p (x ++ y) ≡ y
onward-append p [] [] h g = refl
onward-append p [] (b ∷ y) h g = ap (λ (c : Bool). cond c (b ∷ y) (onward p y)) g
onward-append p (b ∷ x) y h g =
    ap (λ (c : Bool). cond c (b ∷ (x ++ y)) (onward p (x ++ y))) (not-true (p b) (and_parts _ _ h).0)
    ∙ onward-append p x y (and_parts _ _ h).1 g

-- the first byte that passes ends what stands before it
pub until_length : (p : ℕ → Bool) (t : Text) (i : ℕ) → i ≤ length t → ((k : ℕ) → k < i → p (get_or t k 0) ≡ false) → (i < length t → p (get_or t i 0) ≡ true) → i ≡ length (until p t)
until_length p [] i within before at = omega arith
until_length p (b ∷ t) zero within before at = ap (λ (c : Bool). length (cond c [] (b ∷ until p t))) (sym (at (omega arith)))
until_length p (b ∷ t) (suc i) within before at =
    ap suc (until_length p t i (omega arith) (λ k h. before (suc k) (omega arith)) (λ h. at (omega arith)))
    ∙ ap (λ (c : Bool). length (cond c [] (b ∷ until p t))) (sym (before 0 (omega arith)))

pub take_until : (p : ℕ → Bool) (t : Text) → take (length (until p t)) t ≡ until p t
take_until p t = ap (take (length (until p t))) (sym (until-onward p t)) ∙ take_at (until p t) (onward p t) (length (until p t)) refl

pub drop_until : (p : ℕ → Bool) (t : Text) → drop (length (until p t)) t ≡ onward p t
drop_until p t = ap (drop (length (until p t))) (sym (until-onward p t)) ∙ drop_at (until p t) (onward p t) (length (until p t)) refl

pub until_within : (p : ℕ → Bool) (t : Text) → length (until p t) + length (onward p t) ≡ length t
until_within p t = sym (length-append (until p t) (onward p t)) ∙ ap length (until-onward p t)

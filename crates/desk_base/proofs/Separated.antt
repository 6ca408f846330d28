-- Texts and the parts between their separators; class names.
use mathlib.Core.Bool.{and-true}
use Rattle.std.proofs.Common.{◌≡◌, ℕ, Bool, true, false, cond, not, ◌==◌, List, [], ◌∷◌, ◌++◌, refl, sym, ap, subst, ◌∙◌, ◌⊎◌, inl, inr}
use Rattle.std.specs.List.{All, list_all, slice_split, onto_first, starts_with}
use Rattle.std.proofs.lemmas.Bool.{and_parts, and_from, cases_Bool, eq-eqb, eqb-false, eqb-true, false_from_ne_true, ne_eqb, not-true, not_from_false}
use Rattle.std.proofs.lemmas.List.Elements.{All-nil, All-cons}
use Rattle.desk_base.specs.Names.{Text, Package, segments, front, simple, is_class_name, is_empty, is_part, is_whole, slash}
use Rattle.desk_base.specs.Referents.{begins_array}

-- no byte of a text without a separator is one
pub none_is : (separator : ℕ) (t : Text) → is_whole separator t ≡ true → All (λ b. (b == separator) ≡ false) t
none_is separator [] h = All-nil (λ b. (b == separator) ≡ false)
none_is separator (b ∷ t) h =
    All-cons (λ b. (b == separator) ≡ false) b t (not-true _ (and_parts _ _ h).0) (none_is separator t (and_parts _ _ h).1)

onto_whole : (s b : ℕ) (ps : Package) → (b == s) ≡ false → list_all (is_whole s) ps ≡ true → list_all (is_whole s) (onto_first b ps) ≡ true
onto_whole s b [] e h = and_from _ _ (and_from _ _ (not_from_false _ e) refl) refl
onto_whole s b (p ∷ ps) e h = and_from _ _ (and_from _ _ (not_from_false _ e) (and_parts _ _ h).0) (and_parts _ _ h).1

-- the parts of a text hold no separator
pub split_whole : (s : ℕ) (t : Text) → list_all (is_whole s) (slice_split (λ b. b == s) t) ≡ true
split_whole s [] = refl
split_whole s (b ∷ t) = elim (b == s) as (λ (x : Bool). (b == s) ≡ x → list_all (is_whole s) (cond x ([] ∷ slice_split (λ b. b == s) t) (onto_first b (slice_split (λ b. b == s) t))) ≡ true) [
  | true ↦ λ e. split_whole s t
  | false ↦ λ e. onto_whole s b (slice_split (λ b. b == s) t) e (split_whole s t)
] refl

onto_filled : (b : ℕ) (ps : List Text) → not (is_empty (onto_first b ps)) ≡ true
onto_filled b [] = refl
onto_filled b (p ∷ ps) = refl

-- there is a part
pub split_filled : (s : ℕ) (t : Text) → not (is_empty (slice_split (λ b. b == s) t)) ≡ true
split_filled s [] = refl
split_filled s (b ∷ t) = elim (b == s) as (λ (x : Bool). not (is_empty (cond x ([] ∷ slice_split (λ b. b == s) t) (onto_first b (slice_split (λ b. b == s) t)))) ≡ true) [
  | true ↦ refl
  | false ↦ onto_filled b (slice_split (λ b. b == s) t)
]

pub front-push : (p : Package) (x : Text) → front (p ++ x ∷ []) ≡ p
front-push [] x = refl
front-push (a ∷ []) x = refl
front-push (a ∷ b ∷ p) x = ap (λ (ps : Package). a ∷ ps) (front-push (b ∷ p) x)

pub simple-push : (p : Package) (x : Text) → simple (p ++ x ∷ []) ≡ x
simple-push [] x = refl
simple-push (a ∷ []) x = refl
simple-push (a ∷ b ∷ p) x = simple-push (b ∷ p) x

-- ---- class names

no_array_parts : (ps : Package) → list_all is_part (onto_first 91 ps) ≡ true → ⊥
no_array_parts [] h = cc
no_array_parts (p ∷ ps) h = cc

-- a class name does not begin with `[`
pub no_array : (t : Text) → is_class_name t ≡ true → begins_array t ≡ false
no_array [] named = refl
no_array (b ∷ t) named = false_from_ne_true (b == 91) (λ e.
    let P : ℕ → Type 0 = λ c. list_all is_part (segments slash (c ∷ t)) ≡ true in
    no_array_parts (slice_split (λ c. c == slash) t) (subst P (eqb-true b 91 e) (and_parts _ _ named).1))

-- what tells an array in code
pub starts_array : (text : Text) → starts_with ◌==◌ text (91 ∷ []) ≡ begins_array text
starts_array [] = refl
starts_array (b ∷ t) = and-true (91 == b) ∙ turned (cases_Bool (b == 91))
  where
    turned : ((b == 91) ≡ true) ⊎ ((b == 91) ≡ false) → (91 == b) ≡ (b == 91)
    turned (inl e) = eq-eqb 91 b (sym (eqb-true b 91 e)) ∙ sym e
    turned (inr e) = ne_eqb 91 b (λ h. eqb-false b 91 e (sym h)) ∙ sym e

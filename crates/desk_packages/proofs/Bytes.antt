-- Which bytes stand in identifiers and in parts of class names.
use Rattle.std.proofs.Common.{◌≡◌, ℕ, true, false, not, ◌==◌, [], ◌∷◌, refl, inl, inr}
use Rattle.std.proofs.lemmas.Bool.{cases_Bool, and_parts, or_cases, or_parts, eqb-true, not_from_false, not-true, both_ways}
use Rattle.desk_base.specs.Names.{is_whole, Text, is_part, is_identifier, is_identifier_byte, is_reserved}
use Rattle.desk_base.proofs.Lists.{all_weaker}

-- no byte of an identifier is reserved in class names
reserved_not_identifier : (b : ℕ) → is_reserved b ≡ true → is_identifier_byte b ≡ false
reserved_not_identifier b h = elim (or_cases _ _ h) [
  | inl h3 ↦ elim (or_cases _ _ h3) [
    | inl h2 ↦ elim (or_cases _ _ h2) [
      | inl e ↦ rw (eqb-true b 46 e) refl
      | inr e ↦ rw (eqb-true b 59 e) refl
    ]
    | inr e ↦ rw (eqb-true b 91 e) refl
  ]
  | inr e ↦ rw (eqb-true b 47 e) refl
]

pub unreserved : (b : ℕ) → is_identifier_byte b ≡ true → not (is_reserved b) ≡ true
unreserved b h = elim (cases_Bool (is_reserved b)) [
  | inl e ↦ absurd (both_ways _ (reserved_not_identifier b e) h)
  | inr e ↦ not_from_false _ e
]

pub undotted : (b : ℕ) → is_identifier_byte b ≡ true → not (b == 46) ≡ true
undotted b h = elim (cases_Bool (b == 46)) [
  | inl e ↦ absurd (both_ways (is_identifier_byte b) (rw (eqb-true b 46 e) refl) h)
  | inr e ↦ not_from_false _ e
]

pub unslashed : (b : ℕ) → not (is_reserved b) ≡ true → not (b == 47) ≡ true
unslashed b h = not_from_false _ (or_parts _ _ (not-true _ h)).1

pub identifier_part : (t : Text) → is_identifier t ≡ true → is_part t ≡ true
identifier_part [] h = absurd cc
identifier_part (b ∷ t) h = all_weaker is_identifier_byte (λ b. not (is_reserved b)) unreserved (b ∷ t) (and_parts _ _ h).1

pub part_whole : (t : Text) → is_part t ≡ true → is_whole 47 t ≡ true
part_whole [] h = refl
part_whole (b ∷ t) h = all_weaker (λ b. not (is_reserved b)) (λ b. not (b == 47)) unslashed (b ∷ t) h

pub identifier_whole : (t : Text) → is_identifier t ≡ true → is_whole 46 t ≡ true
identifier_whole [] h = refl
identifier_whole (b ∷ t) h = all_weaker is_identifier_byte (λ b. not (b == 46)) undotted (b ∷ t) (and_parts _ _ h).1

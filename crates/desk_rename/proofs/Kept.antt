-- Class names with their packages exchanged are class names, and exchanged once alone.
use Rattle.std.proofs.Common.{◌≡◌, ℕ, true, false, not, ◌==◌, List, [], ◌∷◌, refl, sym, ap, ◌∙◌, inl, inr}
use Rattle.std.specs.List.{list_all}
use Rattle.std.proofs.lemmas.Bool.{and_parts, or_from, both_ways, not-true, not_from_false, or_parts, cases_Bool, eqb-true}
use Rattle.desk_base.specs.Names.{Text, is_part, is_identifier, is_identifier_byte, is_whole, slash}
use Rattle.desk_base.specs.Signatures.{is_mark, is_signature_identifier}
use Rattle.desk_base.proofs.Lists.{all_weaker}
use Rattle.desk_packages.specs.Renames.{Renaming, is_rename}
use Rattle.desk_packages.proofs.Bytes.{unreserved, unslashed}
use Rattle.desk_rules.proofs.Forms.{Parts, name_image_named}
use Rattle.desk_names.specs.Laws.{KeepsClassNames, KeepsSignatureNames}
use Rattle.desk_rules.proofs.Laws.{class_parts}
use Rattle.desk_rename.specs.Images.{repackaged}

other_byte : (c : ℕ) → is_identifier_byte c ≡ false → (b : ℕ) → is_identifier_byte b ≡ true → (b == c) ≡ false
other_byte c strange b h = elim (cases_Bool (b == c)) [
  | inl e ↦ absurd (both_ways (is_identifier_byte c) strange (ap is_identifier_byte (sym (eqb-true b c e)) ∙ h))
  | inr e ↦ e
]

-- no byte of an identifier is a mark
unmarked : (b : ℕ) → is_identifier_byte b ≡ true → is_mark b ≡ false
unmarked b h = or_from _ _ (or_from _ _ (or_from _ _ (not-true _ (unreserved b h)) (other_byte 60 refl b h)) (other_byte 62 refl b h)) (other_byte 58 refl b h)

-- no mark is a slash
unslashed_mark : (b : ℕ) → not (is_mark b) ≡ true → not (b == slash) ≡ true
unslashed_mark b h = unslashed b (not_from_false _ (or_parts _ _ (or_parts _ _ (or_parts _ _ (not-true _ h)).0).0).0)

pub signature_parts : Parts slash is_signature_identifier
signature_parts = record { known = known; cuts = record { filled = refl; whole = whole } }
  where
    known : (t : Text) → is_identifier t ≡ true → is_signature_identifier t ≡ true
    known [] h = absurd cc
    known (b ∷ t) h = all_weaker is_identifier_byte (λ b. not (is_mark b)) (λ b k. not_from_false _ (unmarked b k)) (b ∷ t) (and_parts _ _ h).1

    whole : (t : Text) → is_signature_identifier t ≡ true → is_whole slash t ≡ true
    whole [] h = refl
    whole (b ∷ t) h = all_weaker (λ b. not (is_mark b)) (λ b. not (b == slash)) unslashed_mark (b ∷ t) h

-- class names stay class names
pub keeps_class_names : (rs : List Renaming) → list_all is_rename rs ≡ true → KeepsClassNames (repackaged rs)
keeps_class_names rs formed name named = name_image_named slash is_part class_parts rs formed name named

pub keeps_signature_names : (rs : List Renaming) → list_all is_rename rs ≡ true → KeepsSignatureNames (repackaged rs)
keeps_signature_names rs formed name named = name_image_named slash is_signature_identifier signature_parts rs formed name named

-- What each byte of a dotted name passes.
use Rattle.std.proofs.Common.{◌≡◌, ℕ, Bool, true, false, [], ◌∷◌, refl, sym, ap, ◌∙◌}
use Rattle.std.specs.List.{list_all}
use Rattle.std.proofs.lemmas.Bool.{and_parts, and_from}
use Rattle.std.proofs.lemmas.List.Folds.{list_all-append}
use Rattle.desk_base.specs.Names.{Text, Package, segments, written, is_identifier, is_identifier_byte, is_dotted, is_empty, dot}
use Rattle.desk_base.proofs.Lists.{all_weaker}
use Rattle.desk_packages.proofs.Cuts.{written-segments}

pub identifier_bytes : (t : Text) → is_identifier t ≡ true → list_all is_identifier_byte t ≡ true
identifier_bytes [] h = absurd cc
identifier_bytes (b ∷ t) h = (and_parts _ _ h).1

-- of a written package
pub written_bytes : (p : ℕ → Bool) → p dot ≡ true → ((b : ℕ) → is_identifier_byte b ≡ true → p b ≡ true) → (ps : Package) → list_all is_identifier ps ≡ true → list_all p (written dot ps) ≡ true
written_bytes p at_dot known [] h = refl
written_bytes p at_dot known (x ∷ []) h = all_weaker is_identifier_byte p known x (identifier_bytes x (and_parts _ _ h).0)
written_bytes p at_dot known (x ∷ y ∷ ps) h =
    list_all-append p x (dot ∷ written dot (y ∷ ps))
    ∙ and_from _ _ (all_weaker is_identifier_byte p known x (identifier_bytes x (and_parts _ _ h).0)) (and_from _ _ at_dot (written_bytes p at_dot known (y ∷ ps) (and_parts _ _ h).1))

-- a test that the dot and each byte of identifiers pass
pub dotted_bytes : (p : ℕ → Bool) → p dot ≡ true → ((b : ℕ) → is_identifier_byte b ≡ true → p b ≡ true) → (t : Text) → is_dotted t ≡ true → list_all p t ≡ true
dotted_bytes p at_dot known t named = ap (list_all p) (sym (written-segments dot t)) ∙ written_bytes p at_dot known (segments dot t) (and_parts _ _ named).1

pub dotted_filled : (t : Text) → is_dotted t ≡ true → is_empty t ≡ false
dotted_filled [] named = absurd cc
dotted_filled (b ∷ t) named = refl

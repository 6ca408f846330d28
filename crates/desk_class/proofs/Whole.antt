-- The class names that stand in a descriptor are those among its parts.
use Rattle.std.proofs.Common.{◌≡◌, ℕ, ◌-◌, Bool, true, false, ◌==◌, List, [], ◌∷◌, ◌++◌, refl, sym, ap, ◌∙◌, append_assoc, append-nil, if◌then◌else◌}
use Rattle.std.specs.List.{list_all}
use Rattle.std.proofs.Common.{inl, inr}
use Rattle.std.proofs.lemmas.Bool.{and_parts, or_cases, ne_eqb}
use Rattle.desk_base.specs.Names.{Text, is_reserved, is_class_name}
use Rattle.desk_base.specs.Referents.{begins_array}
use Rattle.desk_base.specs.declared.kinds.Role.TheVariants as roles
use Rattle.desk_base.specs.Descriptors.{FieldType, Returned, Descriptor, DescriptorKind, type_text, types_text, returned_text, text_with, as_is, print, type_names, types_names, returned_names, names_of, is_base, is_type, is_returned, is_formed, is_descriptor}
use Rattle.desk_names.specs.Pieces.{pieces, names_in}
use Rattle.desk_names.proofs.Bytes.{name_from, class_name_is}
use Rattle.desk_names.proofs.Cuts.{goes}
use Rattle.desk_names.proofs.Takes.{other}
use Rattle.desk_names.proofs.PieceNames.{names_are}
use Rattle.desk_names.proofs.Scanned.{tree_of}
use Rattle.desk_class.specs.Formed.{IsFormed}
use Rattle.desk_class.specs.Held.{names_of as held_of}
use Rattle.desk_class.specs.Standing.{standing, standing_in}
use Rattle.desk_class.proofs.Formed.{descriptor_named, array_field, array_named}

plain : (c : ℕ) (t : Text) → (c == 76) ≡ false → standing_in (c ∷ t) ≡ standing_in t
unfolding standing
plain c t h = ap (λ (w : Bool). if w then standing true [] t else standing false [] t) h

name_on : (i : Bool) (seen n t : Text) → name_from is_reserved i n ≡ true → standing true seen (n ++ 59 ∷ t) ≡ (seen ++ n) ∷ standing_in t
unfolding standing
name_on i seen [] t h = ap (λ (l : Text). l ∷ standing_in t) (sym (append-nil seen))
name_on i seen (b ∷ n) t h =
    let g = goes is_reserved i b n h in
    ap (λ (w : Bool). if w then seen ∷ standing false [] (n ++ 59 ∷ t) else standing true (seen ++ b ∷ []) (n ++ 59 ∷ t)) (ne_eqb b 59 (g.on 59 refl refl))
    ∙ name_on g.inside (seen ++ b ∷ []) n t g.more
    ∙ ap (λ (l : Text). l ∷ standing_in t) (append_assoc seen (b ∷ []) n)

class_on : (n s : Text) → is_class_name n ≡ true → standing_in (76 ∷ (n ++ 59 ∷ s)) ≡ n ∷ standing_in s
unfolding standing
class_on n s h = name_on false [] n s (sym (class_name_is n) ∙ h)

type_on : (m : ℕ) (t : FieldType) (s : Text) → is_type m t ≡ true → standing_in (type_text as_is t s) ≡ type_names t (standing_in s)
unfolding type_text is_type type_names
type_on m (FieldType.base c) s h = plain c s (other is_base false c 76 h refl)
type_on m (FieldType.class n) s h = class_on n s h
type_on m (FieldType.array t) s h = plain 91 (type_text as_is t s) refl ∙ type_on (m - 1) t s (and_parts _ _ h).1

types_on : (ts : List FieldType) (s : Text) → list_all (is_type 255) ts ≡ true → standing_in (types_text as_is ts s) ≡ types_names ts (standing_in s)
unfolding types_text types_names
types_on [] s h = refl
types_on (t ∷ ts) s h = type_on 255 t (types_text as_is ts s) (and_parts _ _ h).0 ∙ ap (type_names t) (types_on ts s (and_parts _ _ h).1)

nothing : standing_in [] ≡ []
unfolding standing
nothing = refl

returned_on : (r : Returned) → is_returned r ≡ true → standing_in (returned_text as_is r) ≡ returned_names r
unfolding returned_text is_returned returned_names
returned_on Returned.void h = plain 86 [] refl ∙ nothing
returned_on (Returned.value t) h = type_on 255 t [] h ∙ ap (type_names t) nothing

all_on : (d : Descriptor) → is_formed d ≡ true → standing_in (print d) ≡ names_of d
unfolding text_with is_formed names_of
all_on (Descriptor.field t) h = type_on 255 t [] h ∙ ap (type_names t) nothing
all_on (Descriptor.method ts r) h =
    let p = and_parts _ _ h in
    plain 40 _ refl ∙ types_on ts (41 ∷ returned_text as_is r) (and_parts _ _ p.0).0 ∙ ap (types_names ts) (plain 41 (returned_text as_is r) refl ∙ returned_on r p.1)
all_on (Descriptor.returned r) h = returned_on r h

standing_are : (kind : DescriptorKind) (text : Text) → is_descriptor kind text ≡ true → standing_in text ≡ names_in (pieces text)
standing_are kind text h =
    let t = tree_of kind text h in
    ap standing_in (sym t.1.prints) ∙ all_on t.0 t.1.formed ∙ sym (names_are kind text t.0 t.1)

-- in a text that has its form
pub descriptor_stands : (t : Text) → IsFormed roles.Descriptor t → standing_in t ≡ held_of roles.Descriptor t
unfolding IsFormed
descriptor_stands t h =
    elim (or_cases (is_descriptor DescriptorKind.return t) (is_descriptor DescriptorKind.method t) h) [
      | inl e ↦ standing_are DescriptorKind.return t e
      | inr e ↦ standing_are DescriptorKind.method t e
    ] ∙ sym (descriptor_named t h)

pub array_stands : (t : Text) → begins_array t ≡ true → IsFormed roles.Class t → standing_in t ≡ held_of roles.Class t
array_stands t array h = standing_are DescriptorKind.field t (array_field t array h) ∙ sym (array_named t array h)

-- The class names among the parts of a descriptor are those of its tree.
use Rattle.std.proofs.Common.{◌≡◌, ℕ, ◌-◌, Bool, true, false, ◌==◌, List, [], ◌∷◌, ◌++◌, refl, sym, ap, ◌∙◌, append_assoc, append-nil}
use Rattle.std.specs.Prelude.{if◌then◌else◌}
use Rattle.std.specs.List.{list_all}
use Rattle.std.proofs.lemmas.Bool.{and_parts, ne_eqb}
use Rattle.desk_base.specs.Names.{Text, is_reserved, is_class_name, is_part}
use Rattle.desk_base.specs.Descriptors.{FieldType, Returned, Descriptor, DescriptorKind, IsDescriptor, type_text, types_text, returned_text, text_with, as_is, print, type_names, types_names, returned_names, names_of, is_base, is_type, is_returned, is_formed}
use Rattle.desk_names.specs.ClassNames.{package_of, simple_of, class_name}
use Rattle.desk_names.specs.Pieces.{Piece, class_piece, cut, pieces, names_in}
use Rattle.desk_names.proofs.Bytes.{name_from, class_name_is}
use Rattle.desk_names.proofs.Cuts.{goes}
use Rattle.desk_names.proofs.LastPart.{rejoined}
use Rattle.desk_names.proofs.Takes.{other}

named : Text → Text → List Text
named seen t = names_in (cut false seen t)

-- what was seen holds no name
unseen : (seen t : Text) → named seen t ≡ named [] t
unfolding named cut names_in
unseen [] [] = refl
unseen (a ∷ seen) [] = refl
unseen seen (b ∷ t) = go (b == 76) (unseen (seen ++ b ∷ []) t) (unseen (b ∷ []) t)
  where
    go : (c : Bool) → names_in (cut false (seen ++ b ∷ []) t) ≡ names_in (cut false [] t) → names_in (cut false (b ∷ []) t) ≡ names_in (cut false [] t) → names_in (if c then Piece.other (seen ++ b ∷ []) ∷ cut true [] t else cut false (seen ++ b ∷ []) t) ≡ names_in (if c then Piece.other (b ∷ []) ∷ cut true [] t else cut false (b ∷ []) t)
    go true whole one = refl
    go false whole one = whole ∙ sym one

plain : (c : ℕ) (t : Text) → (c == 76) ≡ false → named [] (c ∷ t) ≡ named [] t
unfolding named cut names_in
plain c t h = ap (λ (w : Bool). names_in (if w then Piece.other (c ∷ []) ∷ cut true [] t else cut false (c ∷ []) t)) h ∙ unseen (c ∷ []) t

again : Text → Text
again n = class_name (package_of n) (simple_of n)

name_on : (i : Bool) (seen n t : Text) → name_from is_reserved i n ≡ true → names_in (cut true seen (n ++ 59 ∷ t)) ≡ again (seen ++ n) ∷ named [] t
unfolding named cut names_in again
name_on i seen [] t h = ap (λ (l : List Text). again seen ∷ l) (unseen (59 ∷ []) t) ∙ ap (λ (l : Text). again l ∷ named [] t) (sym (append-nil seen))
name_on i seen (b ∷ n) t h =
    let g = goes is_reserved i b n h in
    let other_byte : (b == 59) ≡ false = ne_eqb b 59 (g.on 59 refl refl) in
    ap (λ (w : Bool). names_in (if w then class_piece seen ∷ cut false (b ∷ []) (n ++ 59 ∷ t) else cut true (seen ++ b ∷ []) (n ++ 59 ∷ t))) other_byte
    ∙ name_on g.inside (seen ++ b ∷ []) n t g.more
    ∙ ap (λ (l : Text). again l ∷ named [] t) (append_assoc seen (b ∷ []) n)

class_on : (n s : Text) → is_class_name n ≡ true → named [] (76 ∷ (n ++ 59 ∷ s)) ≡ n ∷ named [] s
unfolding named cut names_in again
class_on n s h = name_on false [] n s (sym (class_name_is n) ∙ h) ∙ ap (λ (l : Text). l ∷ named [] s) (rejoined is_part refl n h)

type_on : (m : ℕ) (t : FieldType) (s : Text) → is_type m t ≡ true → named [] (type_text as_is t s) ≡ type_names t (named [] s)
unfolding type_text is_type type_names
type_on m (FieldType.base c) s h = plain c s (other is_base false c 76 h refl)
type_on m (FieldType.class n) s h = class_on n s h
type_on m (FieldType.array t) s h = plain 91 (type_text as_is t s) refl ∙ type_on (m - 1) t s (and_parts _ _ h).1

types_on : (ts : List FieldType) (s : Text) → list_all (is_type 255) ts ≡ true → named [] (types_text as_is ts s) ≡ types_names ts (named [] s)
unfolding types_text types_names
types_on [] s h = refl
types_on (t ∷ ts) s h = type_on 255 t (types_text as_is ts s) (and_parts _ _ h).0 ∙ ap (type_names t) (types_on ts s (and_parts _ _ h).1)

none_on : named [] [] ≡ []
unfolding named cut names_in
none_on = refl

returned_on : (r : Returned) → is_returned r ≡ true → named [] (returned_text as_is r) ≡ returned_names r
unfolding returned_text is_returned returned_names
returned_on Returned.void h = plain 86 [] refl ∙ none_on
returned_on (Returned.value t) h = type_on 255 t [] h ∙ ap (type_names t) none_on

names_on : (d : Descriptor) → is_formed d ≡ true → named [] (print d) ≡ names_of d
unfolding text_with is_formed names_of
names_on (Descriptor.field t) h = type_on 255 t [] h ∙ ap (type_names t) none_on
names_on (Descriptor.method ts r) h =
    let p = and_parts _ _ h in
    plain 40 _ refl ∙ types_on ts (41 ∷ returned_text as_is r) (and_parts _ _ p.0).0 ∙ ap (types_names ts) (plain 41 (returned_text as_is r) refl ∙ returned_on r p.1)
names_on (Descriptor.returned r) h = returned_on r h

pub names_are : (kind : DescriptorKind) (text : Text) (d : Descriptor) → IsDescriptor kind text d → names_in (pieces text) ≡ names_of d
unfolding named
names_are kind text d r = ap (λ (t : Text). names_in (pieces t)) (sym r.prints) ∙ names_on d r.formed

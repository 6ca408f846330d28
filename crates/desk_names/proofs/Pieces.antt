-- The parts of a descriptor's text, with each class name spelled by f, are the tree's text with each class name spelled by f.
use Rattle.std.proofs.Common.{◌≡◌, ℕ, ◌+◌, ◌-◌, nat_le, Bool, true, false, ◌==◌, List, [], ◌∷◌, ◌++◌, refl, sym, ap, ◌∙◌, append_assoc, append-nil}
use Rattle.std.specs.Prelude.{if◌then◌else◌}
use Rattle.std.specs.List.{list_all}
use Rattle.std.proofs.lemmas.Bool.{and_parts, and_from, ne_eqb}
use Rattle.desk_base.specs.Names.{Text, is_reserved, is_class_name}
use Rattle.desk_names.proofs.Bytes.{name_from, class_name_is}
use Rattle.desk_base.specs.Descriptors.{FieldType, Returned, Descriptor, type_text, types_text, returned_text, text_with, as_is, print, map_type, map_types, map_returned, renamed, is_base, is_type, units, units_of, is_returned, is_formed, kind_of, DescriptorKind, IsDescriptor}
use Rattle.desk_names.specs.Pieces.{Piece, class_piece, cut, pieces, joined}
use Rattle.desk_names.proofs.Cuts.{goes}
use Rattle.desk_base.specs.Names.{is_part}
use Rattle.desk_names.specs.ClassNames.{package_of, simple_of, class_name}
use Rattle.desk_names.proofs.LastPart.{rejoined}
use Rattle.desk_names.proofs.Takes.{other}

module _ (f : Text → Text) where
  pub spelled : Text → Text → Text
  spelled seen t = joined f (cut false seen t)

  -- what was seen stands in front
  seen_first : (seen t : Text) → spelled seen t ≡ seen ++ spelled [] t
  unfolding spelled cut joined
  seen_first [] t = refl
  seen_first (b ∷ seen) [] = refl
  seen_first (a ∷ seen) (b ∷ t) = go (b == 76) (seen_first (a ∷ (seen ++ b ∷ [])) t) (seen_first (b ∷ []) t)
    where
      go : (c : Bool) → joined f (cut false (a ∷ (seen ++ b ∷ [])) t) ≡ (a ∷ (seen ++ b ∷ [])) ++ joined f (cut false [] t) → joined f (cut false (b ∷ []) t) ≡ b ∷ joined f (cut false [] t) → joined f (if c then Piece.other ((a ∷ seen) ++ b ∷ []) ∷ cut true [] t else cut false ((a ∷ seen) ++ b ∷ []) t) ≡ (a ∷ seen) ++ joined f (if c then Piece.other (b ∷ []) ∷ cut true [] t else cut false (b ∷ []) t)
      go true whole one = append_assoc (a ∷ seen) (b ∷ []) (joined f (cut true [] t))
      go false whole one = whole ∙ append_assoc (a ∷ seen) (b ∷ []) (joined f (cut false [] t)) ∙ ap (λ (l : Text). (a ∷ seen) ++ l) (sym one)

  -- a byte that is no `L` stays
  plain : (c : ℕ) (t : Text) → (c == 76) ≡ false → spelled [] (c ∷ t) ≡ c ∷ spelled [] t
  unfolding spelled cut joined
  plain c t h = ap (λ (w : Bool). joined f (if w then Piece.other (c ∷ []) ∷ cut true [] t else cut false (c ∷ []) t)) h ∙ seen_first (c ∷ []) t

  again : Text → Text
  again n = class_name (package_of n) (simple_of n)

  name_on : (i : Bool) (seen n t : Text) → name_from is_reserved i n ≡ true → joined f (cut true seen (n ++ 59 ∷ t)) ≡ f (again (seen ++ n)) ++ 59 ∷ spelled [] t
  unfolding spelled cut joined again
  name_on i seen [] t h = ap (λ (l : Text). f (again seen) ++ l) (seen_first (59 ∷ []) t) ∙ ap (λ (l : Text). f (again l) ++ 59 ∷ spelled [] t) (sym (append-nil seen))
  name_on i seen (b ∷ n) t h =
      let g = goes is_reserved i b n h in
      let no : (b == 59) ≡ false = ne_eqb b 59 (g.on 59 refl refl) in
      ap (λ (w : Bool). joined f (if w then class_piece seen ∷ cut false (b ∷ []) (n ++ 59 ∷ t) else cut true (seen ++ b ∷ []) (n ++ 59 ∷ t))) no
      ∙ name_on g.inside (seen ++ b ∷ []) n t g.more
      ∙ ap (λ (l : Text). f (again l) ++ 59 ∷ spelled [] t) (append_assoc seen (b ∷ []) n)

  class_on : (n s : Text) → is_class_name n ≡ true → spelled [] (76 ∷ (n ++ 59 ∷ s)) ≡ 76 ∷ (f n ++ 59 ∷ spelled [] s)
  unfolding spelled cut joined again
  class_on n s h = ap (λ (l : Text). 76 ∷ l) (name_on false [] n s (sym (class_name_is n) ∙ h) ∙ ap (λ (l : Text). f l ++ 59 ∷ spelled [] s) (rejoined is_part refl n h))

  type_on : (m : ℕ) (t : FieldType) (s : Text) → is_type m t ≡ true → spelled [] (type_text as_is t s) ≡ type_text f t (spelled [] s)
  unfolding type_text is_type
  type_on m (FieldType.base c) s h = plain c s (other is_base false c 76 h refl)
  type_on m (FieldType.class n) s h = class_on n s h
  type_on m (FieldType.array t) s h = plain 91 (type_text as_is t s) refl ∙ ap (λ (l : Text). 91 ∷ l) (type_on (m - 1) t s (and_parts _ _ h).1)

  types_on : (ts : List FieldType) (s : Text) → list_all (is_type 255) ts ≡ true → spelled [] (types_text as_is ts s) ≡ types_text f ts (spelled [] s)
  unfolding types_text
  types_on [] s h = refl
  types_on (t ∷ ts) s h = type_on 255 t (types_text as_is ts s) (and_parts _ _ h).0 ∙ ap (type_text f t) (types_on ts s (and_parts _ _ h).1)

  none_on : spelled [] [] ≡ []
  unfolding spelled cut joined
  none_on = refl

  returned_on : (r : Returned) → is_returned r ≡ true → spelled [] (returned_text as_is r) ≡ returned_text f r
  unfolding returned_text is_returned
  returned_on Returned.void h = plain 86 [] refl ∙ ap (λ (l : Text). 86 ∷ l) none_on
  returned_on (Returned.value t) h = type_on 255 t [] h ∙ ap (type_text f t) none_on

  exchanged : (d : Descriptor) → is_formed d ≡ true → spelled [] (print d) ≡ text_with f d
  unfolding text_with is_formed
  exchanged (Descriptor.field t) h = type_on 255 t [] h ∙ ap (type_text f t) none_on
  exchanged (Descriptor.method ts r) h =
      let p = and_parts _ _ h in
      plain 40 _ refl ∙ ap (λ (l : Text). 40 ∷ l) (types_on ts (41 ∷ returned_text as_is r) (and_parts _ _ p.0).0 ∙ ap (types_text f ts) (plain 41 (returned_text as_is r) refl ∙ ap (λ (l : Text). 41 ∷ l) (returned_on r p.1)))
  exchanged (Descriptor.returned r) h = returned_on r h

  -- Printing with each class name exchanged is printing the exchanged tree.
  type_map : (t : FieldType) (s : Text) → type_text f t s ≡ type_text as_is (map_type f t) s
  unfolding type_text map_type
  type_map (FieldType.base c) s = refl
  type_map (FieldType.class n) s = refl
  type_map (FieldType.array t) s = ap (λ (l : Text). 91 ∷ l) (type_map t s)

  types_map : (ts : List FieldType) (s : Text) → types_text f ts s ≡ types_text as_is (map_types f ts) s
  unfolding types_text map_types
  types_map [] s = refl
  types_map (t ∷ ts) s = ap (type_text f t) (types_map ts s) ∙ type_map t (types_text as_is (map_types f ts) s)

  returned_map : (r : Returned) → returned_text f r ≡ returned_text as_is (map_returned f r)
  unfolding returned_text map_returned
  returned_map Returned.void = refl
  returned_map (Returned.value t) = type_map t []

  text_map : (d : Descriptor) → text_with f d ≡ print (renamed f d)
  unfolding text_with renamed
  text_map (Descriptor.field t) = type_map t []
  text_map (Descriptor.method ts r) = ap (λ (l : Text). 40 ∷ l) (ap (λ (l : Text). types_text f ts (41 ∷ l)) (returned_map r) ∙ types_map ts _)
  text_map (Descriptor.returned r) = returned_map r

  pub parts_print : (d : Descriptor) → is_formed d ≡ true → joined f (pieces (print d)) ≡ print (renamed f d)
  unfolding spelled
  parts_print d h = exchanged d h ∙ text_map d

  -- The exchanged tree has the form and the kind of the tree.
  module _ (keeps : (n : Text) → is_class_name n ≡ true → is_class_name (f n) ≡ true) where
    type_kept : (m : ℕ) (t : FieldType) → is_type m t ≡ true → is_type m (map_type f t) ≡ true
    unfolding is_type map_type
    type_kept m (FieldType.base c) h = h
    type_kept m (FieldType.class n) h = keeps n h
    type_kept m (FieldType.array t) h = and_from _ _ (and_parts _ _ h).0 (type_kept (m - 1) t (and_parts _ _ h).1)

    units_kept : (t : FieldType) → units (map_type f t) ≡ units t
    unfolding units map_type
    units_kept (FieldType.base c) = refl
    units_kept (FieldType.class n) = refl
    units_kept (FieldType.array t) = refl

    all_units_kept : (ts : List FieldType) → units_of (map_types f ts) ≡ units_of ts
    unfolding units_of map_types
    all_units_kept [] = refl
    all_units_kept (t ∷ ts) = ap (λ (n : ℕ). n + units_of (map_types f ts)) (units_kept t) ∙ ap (λ (n : ℕ). units t + n) (all_units_kept ts)

    types_kept : (ts : List FieldType) → list_all (is_type 255) ts ≡ true → list_all (is_type 255) (map_types f ts) ≡ true
    unfolding map_types
    types_kept [] h = refl
    types_kept (t ∷ ts) h = and_from _ _ (type_kept 255 t (and_parts _ _ h).0) (types_kept ts (and_parts _ _ h).1)

    returned_kept : (r : Returned) → is_returned r ≡ true → is_returned (map_returned f r) ≡ true
    unfolding is_returned map_returned
    returned_kept Returned.void h = refl
    returned_kept (Returned.value t) h = type_kept 255 t h

    pub kept : (d : Descriptor) → is_formed d ≡ true → is_formed (renamed f d) ≡ true
    unfolding is_formed renamed
    kept (Descriptor.field t) h = type_kept 255 t h
    kept (Descriptor.method ts r) h =
        let p = and_parts _ _ h in
        let q = and_parts _ _ p.0 in
        and_from _ _ (and_from _ _ (types_kept ts q.0) (ap (λ (n : ℕ). nat_le n 255) (all_units_kept ts) ∙ q.1)) (returned_kept r p.1)
    kept (Descriptor.returned r) h = returned_kept r h

    pub kind_kept : (d : Descriptor) → kind_of (renamed f d) ≡ kind_of d
    unfolding kind_of renamed
    kind_kept (Descriptor.field t) = refl
    kind_kept (Descriptor.method ts r) = refl
    kind_kept (Descriptor.returned r) = refl

pub prints_exchanged : (f : Text → Text) (kind : DescriptorKind) (text : Text) (d : Descriptor) → IsDescriptor kind text d → joined f (pieces text) ≡ print (renamed f d)
prints_exchanged f kind text d r = ap (λ (t : Text). joined f (pieces t)) (sym r.prints) ∙ parts_print f d r.formed

pub kept_exchanged : (f : Text → Text) → ((name : Text) → is_class_name name ≡ true → is_class_name (f name) ≡ true) → (kind : DescriptorKind) (text : Text) (d : Descriptor) → IsDescriptor kind text d → IsDescriptor kind (joined f (pieces text)) (renamed f d)
kept_exchanged f keeps kind text d r = record { kind = kind_kept f keeps d ∙ r.kind; formed = kept f keeps d r.formed; prints = sym (prints_exchanged f kind text d r) }

-- the parts of a descriptor are its text
pub joins_text : (kind : DescriptorKind) (text : Text) (d : Descriptor) → IsDescriptor kind text d → joined as_is (pieces text) ≡ text
unfolding joined spelled
joins_text kind text d r = ap (λ (t : Text). joined as_is (pieces t)) (sym r.prints) ∙ exchanged as_is d r.formed ∙ r.prints

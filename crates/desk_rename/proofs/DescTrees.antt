-- Exchanging the class names of a descriptor's tree.
use Rattle.std.proofs.Common.{◌≡◌, ℕ, ◌-◌, true, List, [], ◌∷◌, map, refl, sym, ap, ◌∙◌}
use Rattle.std.specs.List.{list_all}
use Rattle.std.proofs.lemmas.Bool.{and_parts}
use Rattle.desk_base.specs.Names.{Text, is_class_name}
use Rattle.desk_base.specs.Descriptors.{FieldType, Returned, Descriptor, map_type, map_types, map_returned, renamed, type_names, types_names, returned_names, names_of, is_type, is_returned, is_formed}

-- the names of an exchanged tree are the exchanged names

type_mapped : (f : Text → Text) (t : FieldType) (more : List Text) → type_names (map_type f t) (map f more) ≡ map f (type_names t more)
unfolding map_type type_names
type_mapped f (FieldType.base c) more = refl
type_mapped f (FieldType.class n) more = refl
type_mapped f (FieldType.array t) more = type_mapped f t more

types_mapped : (f : Text → Text) (ts : List FieldType) (more : List Text) → types_names (map_types f ts) (map f more) ≡ map f (types_names ts more)
unfolding map_types types_names
types_mapped f [] more = refl
types_mapped f (t ∷ ts) more = ap (type_names (map_type f t)) (types_mapped f ts more) ∙ type_mapped f t (types_names ts more)

returned_mapped : (f : Text → Text) (r : Returned) → returned_names (map_returned f r) ≡ map f (returned_names r)
unfolding map_returned returned_names
returned_mapped f Returned.void = refl
returned_mapped f (Returned.value t) = type_mapped f t []

pub names_mapped : (f : Text → Text) (d : Descriptor) → names_of (renamed f d) ≡ map f (names_of d)
unfolding renamed names_of
names_mapped f (Descriptor.field t) = type_mapped f t []
names_mapped f (Descriptor.method ts r) = ap (types_names (map_types f ts)) (returned_mapped f r) ∙ types_mapped f ts (returned_names r)
names_mapped f (Descriptor.returned r) = returned_mapped f r

-- one exchange behind another, where both come to a third at class names
abbrev pub ComesTo : (Text → Text) → (Text → Text) → (Text → Text) → Type 0
ComesTo f g h = (n : Text) → is_class_name n ≡ true → f (g n) ≡ h n

type_twice : (f g h : Text → Text) → ComesTo f g h → (m : ℕ) (t : FieldType) → is_type m t ≡ true → map_type f (map_type g t) ≡ map_type h t
unfolding map_type is_type
type_twice f g h same m (FieldType.base c) k = refl
type_twice f g h same m (FieldType.class n) k = ap FieldType.class (same n k)
type_twice f g h same m (FieldType.array t) k = ap FieldType.array (type_twice f g h same (m - 1) t (and_parts _ _ k).1)

types_twice : (f g h : Text → Text) → ComesTo f g h → (ts : List FieldType) → list_all (is_type 255) ts ≡ true → map_types f (map_types g ts) ≡ map_types h ts
unfolding map_types
types_twice f g h same [] k = refl
types_twice f g h same (t ∷ ts) k =
    ap (λ (x : FieldType). x ∷ map_types f (map_types g ts)) (type_twice f g h same 255 t (and_parts _ _ k).0)
    ∙ ap (λ (xs : List FieldType). map_type h t ∷ xs) (types_twice f g h same ts (and_parts _ _ k).1)

returned_twice : (f g h : Text → Text) → ComesTo f g h → (r : Returned) → is_returned r ≡ true → map_returned f (map_returned g r) ≡ map_returned h r
unfolding map_returned is_returned
returned_twice f g h same Returned.void k = refl
returned_twice f g h same (Returned.value t) k = ap Returned.value (type_twice f g h same 255 t k)

pub renamed_twice : (f g h : Text → Text) → ComesTo f g h → (d : Descriptor) → is_formed d ≡ true → renamed f (renamed g d) ≡ renamed h d
unfolding renamed is_formed
renamed_twice f g h same (Descriptor.field t) k = ap Descriptor.field (type_twice f g h same 255 t k)
renamed_twice f g h same (Descriptor.method ts r) k =
    let p = and_parts _ _ k in
    ap (λ (x : List FieldType). Descriptor.method x (map_returned f (map_returned g r))) (types_twice f g h same ts (and_parts _ _ p.0).0)
    ∙ ap (Descriptor.method (map_types h ts)) (returned_twice f g h same r p.1)
renamed_twice f g h same (Descriptor.returned r) k = ap Descriptor.returned (returned_twice f g h same r k)

-- exchanging each name for itself
type_same : (t : FieldType) → map_type (λ n. n) t ≡ t
unfolding map_type
type_same (FieldType.base c) = refl
type_same (FieldType.class n) = refl
type_same (FieldType.array t) = ap FieldType.array (type_same t)

types_same : (ts : List FieldType) → map_types (λ n. n) ts ≡ ts
unfolding map_types
types_same [] = refl
types_same (t ∷ ts) = ap (λ (x : FieldType). x ∷ map_types (λ n. n) ts) (type_same t) ∙ ap (λ (xs : List FieldType). t ∷ xs) (types_same ts)

returned_same : (r : Returned) → map_returned (λ n. n) r ≡ r
unfolding map_returned
returned_same Returned.void = refl
returned_same (Returned.value t) = ap Returned.value (type_same t)

renamed_same : (d : Descriptor) → renamed (λ n. n) d ≡ d
unfolding renamed
renamed_same (Descriptor.field t) = ap Descriptor.field (type_same t)
renamed_same (Descriptor.method ts r) = ap (λ (x : List FieldType). Descriptor.method x (map_returned (λ n. n) r)) (types_same ts) ∙ ap (Descriptor.method ts) (returned_same r)
renamed_same (Descriptor.returned r) = ap Descriptor.returned (returned_same r)

-- exchanges that agree at class names
pub renamed_agree : (f h : Text → Text) → ComesTo f (λ n. n) h → (d : Descriptor) → is_formed d ≡ true → renamed f d ≡ renamed h d
renamed_agree f h same d k = ap (renamed f) (sym (renamed_same d)) ∙ renamed_twice f (λ n. n) h same d k

-- Tables of names.
use Rattle.std.specs.Prelude.{◌≡◌, ◌≢◌, ℕ, ◌<◌, Bool, true, not, ◌&&◌, List, map, length, slice_index_or, Option, Some, None}
use Rattle.std.specs.Str.{bytes_eq}
use Rattle.std.specs.List.{list_any}
use Rattle.std.specs.BTreeSet.{BTreeSet, contains}
use Rattle.desk_base.specs.Names.{Text}
use Rattle.desk_class.specs.Held.{ascending}
use Rattle.desk_class.specs.Marks.{marked_cmp}
use Rattle.desk_graph.specs.Application.{Pair, with_image, defined_names}
use Rattle.desk_graph.specs.declared.scanned.Scanned.{Scanned}

-- the texts of a set, in byte order
abbrev pub texts : BTreeSet Text → List Text
texts set = ascending set.keys

-- a text is missing, or is another than a name
abbrev pub IsOther : Text → Option Text → Type 0
IsOther name None = Unit {0}
IsOther name (Some text) = text ≢ name

-- whether a set holds a text
abbrev pub holds : BTreeSet Text → Text → Bool
holds = contains marked_cmp

-- whether a class defines a name
abbrev pub is_defined : List Scanned → Text → Bool
is_defined classes name = list_any (bytes_eq name) (ascending (defined_names classes))

-- whether a table has a name
abbrev pub is_name : List Pair → Text → Bool
is_name known name = list_any (bytes_eq name) (map (λ (k : Pair). k.0) known)

-- each image that stands at two places passes a test
abbrev pub HoldsShared : (Text → Bool) → List Pair → Type 0
HoldsShared test known = (i j : ℕ) (d : Pair) → i < j → j < length known → (slice_index_or known i d).1 ≡ (slice_index_or known j d).1 → test (slice_index_or known j d).1 ≡ true

-- each name has its image
abbrev pub IsKnownBy : (Text → Text) → List Pair → Type 0
IsKnownBy f known = known ≡ map (with_image f) (map (λ k. k.0) known)

-- whether a name is another, and has the same image
abbrev pub meets_known : Pair → Pair → Bool
meets_known one other = not (bytes_eq one.0 other.0) && bytes_eq one.1 other.1

-- the name of a name
abbrev pub as_is : Text → Text
as_is name = name

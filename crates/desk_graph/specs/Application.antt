-- The classes of an application: what they define and hold, the first two names that would become one, and the first class
-- that would be left behind.
use Rattle.std.specs.Prelude.{◌≡◌, ℕ, Bool, false, not, ◌&&◌, List, [], ◌∷◌, ◌++◌, map, count_by, Option, Some, None, if◌then◌else◌, Contains}
use Rattle.std.specs.List.{find, list_any}
use Rattle.std.specs.Str.{bytes_eq}
use Rattle.std.specs.Ordering.{nat_cmp, ordering_then, is_lt}
use Rattle.std.specs.Cmp.Lexicographic.{slice_cmp}
use Rattle.desk_base.specs.Names.{Text}
use Rattle.desk_class.specs.Held.{ascending}
use Rattle.desk_graph.specs.declared.scanned.Scanned.{Scanned}

-- two texts
abbrev pub Pair : Type 0
Pair = Text × Text

-- ---- names

-- the names that classes define
abbrev pub defined_names : List Scanned → List Text
defined_names [] = []
defined_names (s ∷ ss) = s.name ∷ defined_names ss

-- the name of a class, and those that it holds where it is selected
abbrev pub names_in : Scanned → List Text
names_in s = s.name ∷ (if s.selected then s.held else [])

-- the names of an application
abbrev pub names : List Scanned → List Text
names [] = []
names (s ∷ ss) = names_in s ++ names ss

-- ---- links

-- how many of the names that a class holds are among these
abbrev pub link_count : List Text → Scanned → ℕ
link_count defined s = count_by (λ name. list_any (bytes_eq name) defined) s.held

-- of each class, how many defined names it holds
abbrev pub link_counts : List Scanned → List ℕ
link_counts ss = map (link_count (ascending (defined_names ss))) ss

-- ---- images

-- a name with its image
abbrev pub with_image : (Text → Text) → Text → Pair
with_image f name = (name, f name)

-- ---- two names that would become one

-- whether a name is another, and has the same image
abbrev pub meets : (Text → Text) → Text → Text → Bool
meets f name other = not (bytes_eq name other) && bytes_eq (f name) (f other)

abbrev pub with_other : Text → Option Text → Option Pair → Option Pair
with_other name None rest = rest
with_other name (Some other) rest = Some (name, other)

-- the first of these that shares its image with one of the names, and the first such name
abbrev pub clash_among : (Text → Text) → List Text → List Text → Option Pair
clash_among f names [] = None
clash_among f names (d ∷ ds) = with_other d (find (meets f d) names) (clash_among f names ds)

-- the least defined name that shares its image with another name, and the least such other name
abbrev pub name_clash : (Text → Text) → List Scanned → Option Pair
name_clash f ss = clash_among f (ascending (names ss)) (ascending (defined_names ss))

-- ---- classes that would be left behind

-- whether a name is defined and changes
abbrev pub strands : (Text → Text) → List Text → Text → Bool
strands f defined name = list_any (bytes_eq name) defined && not (bytes_eq (f name) name)

-- a path with each of these names that is defined and changes
abbrev pub stranded_at : (Text → Text) → List Text → Text → List Text → List Pair
stranded_at f defined path [] = []
stranded_at f defined path (m ∷ ms) = if strands f defined m then (path, m) ∷ stranded_at f defined path ms else stranded_at f defined path ms

-- the paths of unselected classes, with the defined names that they hold and that change
abbrev pub stranded_among : (Text → Text) → List Text → List Scanned → List Pair
stranded_among f defined [] = []
stranded_among f defined (s ∷ ss) = (if s.selected then [] else stranded_at f defined s.path s.held) ++ stranded_among f defined ss

-- in byte order, by the first text and then by the second
abbrev pub is_before : Pair → Pair → Bool
is_before p q = is_lt (ordering_then (slice_cmp nat_cmp p.0 q.0) (slice_cmp nat_cmp p.1 q.1))

abbrev pub earlier : Option Pair → Pair → Option Pair
earlier None p = Some p
earlier (Some q) p = if is_before p q then Some p else Some q

-- the least of these pairs, where one is known before
abbrev pub least_onto : Option Pair → List Pair → Option Pair
least_onto best [] = best
least_onto best (p ∷ ps) = least_onto (earlier best p) ps

-- the least path of an unselected class that holds a defined name that changes, and the least such name
abbrev pub stranded : (Text → Text) → List Scanned → Option Pair
stranded f ss = least_onto None (stranded_among f (ascending (defined_names ss)) ss)

-- ---- what an application without both is

-- no defined name shares its image with another name
abbrev pub OneImage : (Text → Text) → List Scanned → Type 0
OneImage f ss = (d n : Text) → Contains (defined_names ss) d → Contains (names ss) n → f d ≡ f n → d ≡ n

-- no unselected class holds a defined name that changes
abbrev pub NoneStranded : (Text → Text) → List Scanned → Type 0
NoneStranded f ss = (s : Scanned) (m : Text) → Contains ss s → s.selected ≡ false → Contains s.held m → Contains (defined_names ss) m → f m ≡ m

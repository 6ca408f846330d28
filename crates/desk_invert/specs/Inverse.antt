-- The inverse of renames, and which of them overlap.
use Rattle.std.specs.Prelude.{◌≡◌, Bool, true, false, not, ◌&&◌, ◌||◌, List, [], ◌∷◌, Option, map, codes, refl}
use Rattle.std.specs.List.{filter}
use Rattle.std.specs.Str.{bytes_eq}
use Rattle.std.specs.FinMap as finite
use Rattle.std.specs.Cmp.Lexicographic.{slice_cmp}
use Rattle.std.specs.Ordering.{nat_cmp}
use Rattle.desk_base.specs.Names.{Text, same, begins_with, front}
use Rattle.desk_packages.specs.Renames.{Renaming, changes, in_reach, key_of}
use Rattle.desk_packages.specs.Keys.{renaming}
use Rattle.desk_chains.specs.Chains.{first_pair}

-- a rename with source and target exchanged; it is below where the rename is
abbrev pub flipped : Renaming → Renaming
flipped r = record { source = r.target; target = r.source; below = r.below }

-- a rename with its key
abbrev pub keyed : Renaming → Text × Renaming
keyed r = (key_of r, r)

-- renames as a map by their keys: in byte order of the keys, one for each key
abbrev pub by_key : List Renaming → List Renaming
by_key renames = map (λ e. e.1) (finite.entries (finite.from_entries {R = slice_cmp nat_cmp} (map keyed renames)))

-- the changing renames, each with source and target exchanged, in byte order of the new keys
abbrev pub inverse : List Renaming → List Renaming
inverse renames = by_key (map flipped (filter changes renames))

-- whether a package lies in the reach of both
abbrev pub reaches_meet : Renaming → Renaming → Bool
reaches_meet r s = same r.target s.target || (s.below && begins_with r.target s.target) || (r.below && begins_with s.target r.target)

-- whether two renames have different keys
abbrev pub differ : Renaming → Renaming → Bool
differ r s = not (bytes_eq (key_of r) (key_of s))

-- whether two different changing renames may give one package, or the front of the second's target lies in the reach of the
-- first: where as a package the second gives what the first gives as a dotted name
abbrev pub overlap : Renaming → Renaming → Bool
overlap r s = changes r && changes s && differ r s && (reaches_meet r s || in_reach r (front s.target))

-- `a=x` and `b=x` overlap
one_package : overlap (renaming (codes "a" ∷ []) (codes "x" ∷ []) false) (renaming (codes "b" ∷ []) (codes "x" ∷ []) false) ≡ true
one_package = refl

-- `a=b` and `c=b.x` do in this order alone
front_of_second : overlap (renaming (codes "a" ∷ []) (codes "b" ∷ []) false) (renaming (codes "c" ∷ []) (codes "b" ∷ codes "x" ∷ []) false) ≡ true
front_of_second = refl

front_of_first : overlap (renaming (codes "c" ∷ []) (codes "b" ∷ codes "x" ∷ []) false) (renaming (codes "a" ∷ []) (codes "b" ∷ []) false) ≡ false
front_of_first = refl

-- `a.*=b` and `c=b.x.y` do, and `a.*=b` and `c=bx` don't
lies_below : overlap (renaming (codes "a" ∷ []) (codes "b" ∷ []) true) (renaming (codes "c" ∷ []) (codes "b" ∷ codes "x" ∷ codes "y" ∷ []) false) ≡ true
lies_below = refl

lies_apart : overlap (renaming (codes "a" ∷ []) (codes "b" ∷ []) true) (renaming (codes "c" ∷ []) (codes "bx" ∷ []) false) ≡ false
lies_apart = refl

-- the first two that overlap, by the key of the first and then by that of the second
abbrev pub first_overlap : List Renaming → Option (Renaming × Renaming)
first_overlap renames = first_pair overlap renames renames

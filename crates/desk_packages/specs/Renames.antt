-- Renames of packages, and which of them is picked for a package.
use Rattle.std.specs.Prelude.{Bool, true, false, not, ◌&&◌, nat_lt, List, [], ◌∷◌, ◌++◌, length, drop, Option, Some, None, if◌then◌else◌, refl}
use Rattle.std.specs.Coded.{Coded, code_by, coded×, coded_list, coded_ℕ, coded_bool}
use Rattle.std.specs.List.{find, list_any}
use Rattle.desk_base.specs.Names.{Text, Package, same, begins_with, written, dot, is_package}

-- a rename of packages: of the source alone, or of all that is below it too
pub record Renaming : Type 0 where
  pub source : Package
  pub target : Package
  pub below : Bool

abbrev pub renaming_code : Coded Renaming
renaming_code = code_by (Package × (Package × Bool)) (coded× (coded_list (coded_list coded_ℕ)) (coded× (coded_list (coded_list coded_ℕ)) coded_bool)) (λ r. (r.source, (r.target, r.below))) (λ p. record { source = p.0; target = p.1.0; below = p.1.1 }) (λ _. refl)

-- the key of a rename in its file: `a.b`, or `a.b.*`
abbrev pub key_of : Renaming → Text
key_of r = written dot r.source ++ (if r.below then 46 ∷ 42 ∷ [] else [])

-- whether a package is the start, or lies below it
abbrev pub covers : Bool → Package → Package → Bool
covers true start p = begins_with p start
covers false start p = same start p

-- the packages that a rename fits
abbrev pub in_scope : Renaming → Package → Bool
in_scope r = covers r.below r.source

-- the packages that a rename may give
abbrev pub in_reach : Renaming → Package → Bool
in_reach r = covers r.below r.target

-- an exception rule, whose target is its source, does not change
abbrev pub changes : Renaming → Bool
changes r = not (same r.source r.target)

-- the rename with the longer source
abbrev pub longer : Renaming → Option Renaming → Renaming
longer r None = r
longer r (Some s) = if nat_lt (length s.source) (length r.source) then r else s

-- the below rename with the longest source that fits
abbrev pub longest : List Renaming → Package → Option Renaming
longest [] p = None
longest (r ∷ rs) p = if r.below && in_scope r p then Some (longer r (longest rs p)) else longest rs p

-- the rename that is not below and fits
abbrev pub exact : List Renaming → Package → Option Renaming
exact rs p = find (λ r. not r.below && in_scope r p) rs

abbrev pub or_else : Option Renaming → Option Renaming → Option Renaming
or_else None s = s
or_else (Some r) s = Some r

-- the exact rename, else the longest below one
abbrev pub pick : List Renaming → Package → Option Renaming
pick rs p = or_else (exact rs p) (longest rs p)

-- the source exchanged for the target, and the rest kept
abbrev pub renamed_by : Option Renaming → Package → Package
renamed_by None p = p
renamed_by (Some r) p = r.target ++ drop (length r.source) p

-- the image of a package
abbrev pub pkg : List Renaming → Package → Package
pkg rs p = renamed_by (pick rs p) p

-- whether a package is the source of one of the renames, an exception included
abbrev pub has_source : List Renaming → Package → Bool
has_source rs p = list_any (λ r. same r.source p) rs

-- source and target have segments, each an identifier
abbrev pub is_rename : Renaming → Bool
is_rename r = is_package r.source && is_package r.target

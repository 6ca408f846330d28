-- First segments of packages, and first bytes of texts.
use Rattle.std.specs.Prelude.{◌≡◌, ◌<◌, ℕ, Bool, true, false, ◌==◌, List, [], ◌∷◌, slice_index_or}
use Rattle.std.specs.List.{list_any}
use Rattle.std.specs.Str.{bytes_eq}
use Rattle.desk_base.specs.Names.{Text, Package}
use Rattle.desk_packages.specs.Renames.{Renaming}

-- whether a package begins with a segment
abbrev pub has_first : Text → Package → Bool
has_first segment [] = false
has_first segment (first ∷ rest) = bytes_eq segment first

-- whether the first segment of a package is one of these
abbrev pub begins_in : List Text → Package → Bool
begins_in firsts [] = false
begins_in firsts (first ∷ rest) = list_any (bytes_eq first) firsts

-- whether the source of a rename, of an exception too, has the first segment of a package
abbrev pub begins_as : List Renaming → Package → Bool
begins_as renames [] = false
begins_as renames (first ∷ rest) = list_any (λ r. has_first first r.source) renames

-- these are the first segments of the sources of renames, exceptions among them
pub record AreFirsts (renames : List Renaming) (firsts : List Text) : Type 0 where
  pub each : (segment : Text) → list_any (bytes_eq segment) firsts ≡ list_any (λ r. has_first segment r.source) renames

-- whether a text begins with a byte
abbrev pub has_first_byte : ℕ → Text → Bool
has_first_byte byte [] = false
has_first_byte byte (first ∷ rest) = byte == first

-- which bytes the keys of rules begin with, by the byte
pub record AreFirstBytes {A : Type 0} (key : A → Text) (rules : List A) (begun : List Bool) : Type 0 where
  pub each : (byte : ℕ) → byte < 256 → slice_index_or begun byte false ≡ list_any (λ rule. has_first_byte byte (key rule)) rules

-- whether a text is empty or begins with one of these bytes
abbrev pub may_begin : List Bool → Text → Bool
may_begin begun [] = true
may_begin begun (first ∷ rest) = slice_index_or begun first false

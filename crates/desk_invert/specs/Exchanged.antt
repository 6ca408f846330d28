-- Exchanged renames, among which what overlaps with a rename is looked up.
use Rattle.std.specs.Prelude.{◌≡◌, ◌-◌, Bool, true, false, not, ◌&&◌, ◌||◌, List, Option, Some, None, length, slice_get, if◌then◌else◌}
use Rattle.std.specs.List.{Contains}
use Rattle.std.specs.Str.{bytes_eq}
use Rattle.desk_base.specs.Names.{Text, same, front}
use Rattle.desk_packages.specs.Renames.{Renaming, changes, in_reach, key_of}
use Rattle.desk_packages.specs.Keys.{IsTable, RiseBy}
use Rattle.desk_chains.specs.Chains.{meets}
use Rattle.desk_invert.specs.Inverse.{flipped, differ}

-- ---- keys that stand twice

abbrev pub has_key : Option Renaming → Text → Bool
has_key None key = false
has_key (Some r) key = bytes_eq (key_of r) key

-- whether the last of some renames has a key
abbrev pub ends_with_key : List Renaming → Text → Bool
ends_with_key renames key = has_key (slice_get renames (length renames - 1)) key

-- one of the renames has a key
pub record HasKey (renames : List Renaming) (key : Text) : Type 0 where
  pub one : Renaming
  pub there : Contains renames one
  pub key_is : key_of one ≡ key

-- of renames, one for each key, and one for each key that several have
pub record IsParted (renames once repeated : List Renaming) : Type 0 where
  pub once_rises : RiseBy key_of once
  pub repeated_rises : RiseBy key_of repeated
  pub once_from : (t : Renaming) → Contains once t → Contains renames t
  pub repeated_from : (t : Renaming) → Contains repeated t → Contains renames t
  pub each : (t : Renaming) → Contains renames t → HasKey once (key_of t)
  pub several : (t u : Renaming) → Contains renames t → Contains renames u → (t ≡ u → ⊥) → key_of t ≡ key_of u → HasKey repeated (key_of t)

-- ---- what takes back what a rename gives

-- whether the source of a rename is what another gives, and both are below renames or neither is
abbrev pub takes_back : Renaming → Renaming → Bool
takes_back t r = same t.source r.target && (if r.below then t.below else not t.below)

-- whether a rename fits a package that another gives; or its source is a dotted name whose front the other gives
abbrev pub touches : Renaming → Renaming → Bool
touches t r = meets r t || in_reach r (front t.source)

-- none of the renames touches what a rename gives, but for those that take it back
abbrev pub NoneTouches : Renaming → List Renaming → Type 0
NoneTouches r backs = (t : Renaming) → Contains backs t → takes_back t r ≡ false → touches t r ≡ false

-- none of the renames takes back what a rename gives
abbrev pub NoneTakesBack : Renaming → List Renaming → Type 0
NoneTakesBack r backs = (t : Renaming) → Contains backs t → takes_back t r ≡ false

-- one of the renames takes back what a rename gives
pub record IsTakenBack (backs : List Renaming) (r : Renaming) : Type 0 where
  pub by : Renaming
  pub there : Contains backs by
  pub source_is : by.source ≡ r.target
  pub below_is : by.below ≡ r.below

-- The changing renames of a table with source and target exchanged: one for each key, in byte order of the keys, and one for each
-- key that several have.
pub record AreExchanged (renames once repeated : List Renaming) : Type 0 where
  pub renames_table : IsTable renames
  pub once_table : IsTable once
  pub repeated_table : IsTable repeated
  pub from : (t : Renaming) → Contains once t → Contains renames (flipped t) × (changes t ≡ true)
  pub each : (r : Renaming) → Contains renames r → changes r ≡ true → IsTakenBack once r
  pub several : (r s : Renaming) → Contains renames r → Contains renames s → changes r ≡ true → changes s ≡ true → differ r s ≡ true → takes_back (flipped s) r ≡ true → IsTakenBack repeated r

-- Keys of renames, and how their sources are found.
use Rattle.std.specs.Prelude.{◌≡◌, ◌≢◌, ◌<◌, ◌≤◌, ◌⊎◌, ℕ, Bool, true, false, not, ◌||◌, ◌&&◌, ◌==◌, ◌+◌, nat_lt, List, [], ◌∷◌, ◌++◌, map, take, drop, length, slice_index, slice_index_or, if◌then◌else◌, IsTrue}
use Rattle.std.specs.List.{list_all, Contains, starts_with}
use Rattle.std.specs.declared.cmp.Ordering.TheVariants.{Less}
use Rattle.std.specs.Ordering.{nat_cmp, is_lt}
use Rattle.std.specs.Str.{bytes_eq}
use Rattle.std.specs.Cmp.Lexicographic.{slice_cmp}
use Rattle.desk_base.specs.Names.{Text, Package, segments, written, is_whole, dot, slash}
use Rattle.desk_packages.specs.declared.Separator.{Separator}
use Rattle.desk_packages.specs.declared.Separator.TheVariants.{Dot, Slash}
use Rattle.desk_packages.specs.declared.Reach.{Reach}
use Rattle.desk_packages.specs.declared.Reach.TheVariants.{Exact, Below}
use Rattle.desk_packages.specs.Renames.{Renaming, key_of, changes, in_scope, is_rename}

-- `.` or `/`
abbrev pub is_separator : ℕ → Bool
is_separator b = b == 46 || b == 47

-- the byte of a separator
abbrev pub byte_of : Separator → ℕ
byte_of Dot = dot
byte_of Slash = slash

-- whether packages below the source are meant too
abbrev pub goes_below : Reach → Bool
goes_below Exact = false
goes_below Below = true

-- a byte of a path as a key spells it: the separator and `.` change places
abbrev pub spelled : ℕ → ℕ → ℕ
spelled separator byte = if byte == separator then 46 else if byte == 46 then separator else byte

abbrev pub wanted_tail : Bool → Text
wanted_tail below = if below then 46 ∷ 42 ∷ [] else []

-- the key that a rename of this path would have
abbrev pub wanted : ℕ → Text → Bool → Text
wanted separator path below = map (spelled separator) path ++ wanted_tail below

-- the rename of a source and a target
abbrev pub renaming : Package → Package → Bool → Renaming
renaming source target below = record { source = source; target = target; below = below }

-- the key of a rename of a source, for it alone or for what is below it too
abbrev pub key_with : Package → Bool → Text
key_with source below = written dot source ++ wanted_tail below

-- the items stand in byte order of their keys, each key once
abbrev pub RiseBy : {A : Type 0} → (A → Text) → List A → Type 0
RiseBy {A} key items = (i j : ℕ) (d : A) → i < j → j < length items → slice_cmp nat_cmp (key (slice_index_or items i d)) (key (slice_index_or items j d)) ≡ Less

-- no item has a key
abbrev pub IsNowhere : {A : Type 0} → (A → Text) → List A → Text → Type 0
IsNowhere {A} key items text = (k : ℕ) (d : A) → k < length items → key (slice_index_or items k d) ≢ text

-- the item at a place has a key
abbrev pub IsPlaceOf : {A : Type 0} → (A → Text) → List A → Text → ℕ → Type 0
IsPlaceOf {A} key items text k = (k < length items) × ((d : A) → key (slice_index_or items k d) ≡ text)

-- the keys of the items before low stand before a text in byte order, and those from high on don't
pub record IsCutAt {A : Type 0} (key : A → Text) (items : List A) (text : Text) (low high : ℕ) : Type 0 where
  pub order : low ≤ high
  pub within : high ≤ length items
  pub before : (k : ℕ) (d : A) → k < low → is_lt (slice_cmp nat_cmp (key (slice_index_or items k d)) text) ≡ true
  pub behind : (k : ℕ) (d : A) → high ≤ k → k < length items → is_lt (slice_cmp nat_cmp (key (slice_index_or items k d)) text) ≡ false

-- so many items from the first on have a key that begins so
abbrev pub AllBegin : {A : Type 0} → (A → Text) → List A → Text → ℕ → Type 0
AllBegin {A} key items start n = (k : ℕ) (d : A) → k < n → starts_with ◌==◌ (key (slice_index_or items k d)) start ≡ true

-- and the next hasn't
pub record IsLeading {A : Type 0} (key : A → Text) (items : List A) (start : Text) (n : ℕ) : Type 0 where
  pub within : n ≤ length items
  pub all : AllBegin key items start n
  pub next : (d : A) → n < length items → starts_with ◌==◌ (key (slice_index_or items n d)) start ≡ false

-- whether a text has ended, or goes on with a byte below a limit
abbrev pub goes_on_below : ℕ → Text → Bool
goes_on_below limit [] = true
goes_on_below limit (byte ∷ rest) = nat_lt byte limit

-- the renames stand in byte order of their keys, each key once
abbrev pub KeysRise : List Renaming → Type 0
KeysRise = RiseBy key_of

-- renames of packages in byte order of their keys
pub record IsTable (renames : List Renaming) : Type 0 where
  pub formed : IsTrue (list_all is_rename renames)
  pub rising : KeysRise renames

-- what a rename keeps beside its packages: whether it changes, its key, its source with `/`, and its target with dots and a
-- dot behind it
pub record IsSpelled (r : Renaming) (changing : Bool) (key slashed target : Text) : Type 0 where
  pub formed : IsTrue (is_rename r)
  pub changing_is : changing ≡ changes r
  pub key_is : key ≡ key_of r
  pub slashed_is : slashed ≡ written slash r.source
  pub target_is : target ≡ written dot r.target ++ 46 ∷ []

-- whether a rename is below exactly where that is asked for
abbrev pub is_of_kind : Bool → Renaming → Bool
is_of_kind below r = if below then r.below else not r.below

-- whether a rename of this kind has the source that is written so
abbrev pub is_source : ℕ → Text → Bool → Renaming → Bool
is_source separator text below r = is_of_kind below r && bytes_eq (written separator r.source) text

-- one of the renames is of this kind and has the source that is written so
pub record IsSource (renames : List Renaming) (separator : ℕ) (text : Text) (below : Bool) (r : Renaming) : Type 0 where
  pub there : Contains renames r
  pub is : IsTrue (is_source separator text below r)

-- none is
abbrev pub NoSource : List Renaming → ℕ → Text → Bool → Type 0
NoSource renames separator text below = (r : Renaming) → IsSource renames separator text below r → ⊥

-- a place of a path at which one of the packages that it lies below ends, or its own
abbrev pub EndsAt : ℕ → Text → ℕ → Type 0
EndsAt separator path n = (n ≡ length path) ⊎ ((n < length path) × (slice_index_or path n 0 ≡ separator))

-- a below rename whose source is the path up to such a place
pub record EndsBelow (renames : List Renaming) (separator : ℕ) (path : Text) (n : ℕ) (r : Renaming) : Type 0 where
  pub there : Contains renames r
  pub below : IsTrue r.below
  pub spelled : written separator r.source ≡ take n path
  pub ends : EndsAt separator path n

-- there is none
abbrev pub NoneEnds : List Renaming → ℕ → Text → ℕ → Type 0
NoneEnds renames separator path n = (r : Renaming) → EndsBelow renames separator path n r → ⊥

-- one of the renames changes and fits a package
pub record IsChanging (renames : List Renaming) (p : Package) (r : Renaming) : Type 0 where
  pub there : Contains renames r
  pub moves : IsTrue (changes r)
  pub fits : IsTrue (in_scope r p)

-- none does
abbrev pub NoneChanging : List Renaming → Package → Type 0
NoneChanging renames p = (r : Renaming) → IsChanging renames p r → ⊥

-- no changing below rename that fits a path's package is written with more than so many bytes
pub record IsNoneBeyond (renames : List Renaming) (separator : ℕ) (path : Text) (n : ℕ) : Type 0 where
  pub shorter : (r : Renaming) → Contains renames r → IsTrue (changes r && r.below && in_scope r (segments separator path)) → length (written separator r.source) ≤ n

-- whether a dotted text goes on behind a start: by more than one segment only where that is allowed
abbrev pub goes_on : Bool → Text → Text → Bool
goes_on below start text =
    starts_with ◌==◌ text start && nat_lt (length start) (length text) && slice_index text (length start) == 46
    && (below || is_whole 46 (drop (length start + 1) text))

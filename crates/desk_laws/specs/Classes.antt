-- The laws of a class that is read, renamed, and renamed again.
use Rattle.std.specs.Prelude.{◌↔◌, ◌≡◌, ℕ, ◌+◌, List, [], length, None, Ok}
use Rattle.std.specs.List.{AllByRecursion}
use Rattle.desk_base.specs.Names.{Text}
use Rattle.desk_base.specs.declared.kinds.Role.{Role}
use Rattle.desk_base.specs.declared.kinds.Used.{Used}
use Rattle.desk_base.specs.Entries.{Pool, text_at}
use Rattle.desk_format.specs.Trees.{Each, IsPlaced}
use Rattle.desk_format.specs.Exchange.{Fits}
use Rattle.desk_format.specs.Laws.{IsBytes}
use Rattle.desk_format.specs.PoolBytes.{print_pool}
use Rattle.desk_format.specs.Resolved.{Images, image}
use Rattle.desk_format.specs.Classes.{Class, read_class, print_class, class_uses, twins_in}
use Rattle.desk_format.specs.NewPool.{added}
use Rattle.desk_format.specs.NewClass.{pool_of, new_class, new_bytes, resolved_class, renamed_class, overlong_in, full_in, twins_of, refusal}
use Rattle.desk_laws.specs.Sound.{IsWellFormed}
use Rattle.desk_laws.specs.NewPools.{KeepsForms, IsNewPool}

-- ---- reading and printing

-- A class that was read prints to its bytes; its pool is well-formed; the body begins behind it; each index of the body
-- stands at its place and fits its kind.
pub record IsPrintedClass (bytes : List ℕ) (c : Class) : Type 0 where
  pub prints : bytes ≡ print_class c
  pub pool : IsWellFormed c.pool
  pub behind : c.body_at ≡ 8 + length (print_pool c.pool)
  pub places : IsPlaced c.body_at c.body
  pub fits : Each (Fits c.pool) c.body

abbrev pub PrintedClasses : Type 0
PrintedClasses = (bytes : List ℕ) (c : Class) → IsBytes bytes → read_class bytes ≡ Ok c → IsPrintedClass bytes c

-- ---- renaming

-- The bytes of the new class read into it, so it is well-formed; its resolved tree is the renamed one; and its pool keeps
-- the old indices and grows by the missing texts alone.
pub record IsRenamedClass (im : Images) (bytes : List ℕ) (c : Class) : Type 0 where
  pub reads : read_class (new_bytes im bytes c) ≡ Ok (new_class im c)
  pub tree : resolved_class (new_class im c) ≡ renamed_class im (resolved_class c)
  pub pool : IsNewPool im c.pool (class_uses c) (pool_of im c)

-- For each well-formed class for which no refusal stands, under images that keep forms.
abbrev pub RenamedClasses : Type 0
RenamedClasses = (im : Images) (bytes : List ℕ) (c : Class) → KeepsForms im → IsBytes bytes → read_class bytes ≡ Ok c → refusal im c ≡ None → IsRenamedClass im bytes c

-- Where no text is too long and the pool has room, twins are refused exactly where the new class has twins.
abbrev pub RefusedTwins : Type 0
RefusedTwins = (im : Images) (bytes : List ℕ) (c : Class) → KeepsForms im → IsBytes bytes → read_class bytes ≡ Ok c → overlong_in im c ≡ None → full_in im c ≡ None
    → (twins_of im c ≡ None) ↔ (twins_in (new_class im c) ≡ None)

-- ---- renaming again

-- Each image is its own image.
pub record IsSettled (im : Images) : Type 0 where
  pub again : (role : Role) (t : Text) → image im role (image im role t) ≡ image im role t

-- a use whose text is its own image
abbrev pub IsOwnImage : Images → Pool → Used → Type 0
IsOwnImage im pool u = image im u.role (text_at pool u.index) ≡ text_at pool u.index

-- Renaming a class changes nothing: it is not refused, each use has its image already, no text is missing, and the new
-- bytes are the old ones.
pub record IsUnchangedClass (im : Images) (bytes : List ℕ) (c : Class) : Type 0 where
  pub accepted : refusal im c ≡ None
  pub images : AllByRecursion (IsOwnImage im c.pool) (class_uses c)
  pub none_added : added im c.pool (class_uses c) ≡ []
  pub same : new_bytes im bytes c ≡ bytes

-- The new class of a well-formed class for which no refusal stands is unchanged, under images that keep forms and are
-- their own images.
abbrev pub UnchangedClasses : Type 0
UnchangedClasses = (im : Images) (bytes : List ℕ) (c : Class) → KeepsForms im → IsSettled im → IsBytes bytes → read_class bytes ≡ Ok c → refusal im c ≡ None
    → IsUnchangedClass im (new_bytes im bytes c) (new_class im c)

-- Below renames that are looked for, and the last of them along a path.
use Rattle.std.specs.Prelude.{◌<◌, ℕ, Bool, true, List, IsTrue}
use Rattle.desk_base.specs.Names.{Text}
use Rattle.desk_packages.specs.declared.picking.Sought.{Sought}
use Rattle.desk_packages.specs.declared.picking.Sought.TheVariants.{All, Changing}
use Rattle.desk_packages.specs.Renames.{Renaming, changes}
use Rattle.desk_packages.specs.Keys.{EndsBelow}

-- whether a rename is looked for
abbrev pub is_sought : Sought → Renaming → Bool
is_sought All r = true
is_sought Changing r = changes r

-- a below rename that is looked for, whose source is the path up to a place before a limit; no source of another is the path up
-- to a later one before it
pub record IsLastBelow (renames : List Renaming) (separator : ℕ) (path : Text) (sought : Sought) (limit : ℕ) (r : Renaming) : Type 0 where
  pub place : ℕ
  pub before : place < limit
  pub here : EndsBelow renames separator path place r
  pub meets : IsTrue (is_sought sought r)
  pub last : (n : ℕ) (x : Renaming) → place < n → n < limit → EndsBelow renames separator path n x → IsTrue (is_sought sought x) → ⊥

-- there is none
pub record NoneBelow (renames : List Renaming) (separator : ℕ) (path : Text) (sought : Sought) (limit : ℕ) : Type 0 where
  pub none : (n : ℕ) (x : Renaming) → n < limit → EndsBelow renames separator path n x → IsTrue (is_sought sought x) → ⊥

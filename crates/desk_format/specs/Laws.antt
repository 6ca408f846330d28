-- The laws of a body that is read, and of one that is renamed.
use Rattle.std.specs.Prelude.{◌≡◌, ℕ, ◌+◌, ◌<◌, ◌≤◌, List, ◌++◌, length, get_or, Ok}
use Rattle.desk_base.specs.Entries.{Pool}
use Rattle.desk_format.specs.declared.attributes.Location.TheVariants.{OfCode, OfComponent}
use Rattle.desk_format.specs.Attributes.{inner_attributes, attributes_of}
use Rattle.desk_format.specs.Trees.{Use, Each, IsPlaced, print, uses}
use Rattle.desk_format.specs.Layouts.{Layout}
use Rattle.desk_format.specs.Reading.{Got, read}
use Rattle.desk_format.specs.Exchange.{Change, moved, exchanged, exchange, Suits, Fits, patch}
use Rattle.desk_format.specs.Resolved.{Images, value, resolved, renamed_value, renamed}

abbrev pub IsBytes : List ℕ → Type 0
IsBytes bytes = (i : ℕ) → get_or bytes i 0 < 256

-- A tree that was read prints to the bytes that were read, each index stands at its place in them, and fits its kind.
pub record IsPrinted (pool : Pool) (at : ℕ) (s : List ℕ) (got : Got) : Type 0 where
  pub bytes : s ≡ print got.tree ++ got.left
  pub behind : got.at ≡ at + length (print got.tree)
  pub places : IsPlaced at got.tree
  pub fits : Each (Fits pool) got.tree

abbrev pub PrintedBodies : Type 0
PrintedBodies = (pool : Pool) (l : Layout) (at : ℕ) (s : List ℕ) (got : Got) → IsBytes s → read pool l at s ≡ Ok got → IsPrinted pool at s got

-- The new index of a use suits the new pool, and leads to the renamed value of what the old one led to.
pub record Renames (im : Images) (old new : Pool) (g : Change) (u : Use) : Type 0 where
  pub suits : Suits old new g u
  pub leads : value new (exchanged g u) ≡ renamed_value im (value old u)

-- A body that was read by a layout, patched at its uses and moved, reads by the same layout into the tree with the new
-- indices, and its resolved tree is the renamed one.
pub record IsRenamedBody (im : Images) (old new : Pool) (g : Change) (l : Layout) (at : ℕ) (s : List ℕ) (got : Got) : Type 0 where
  pub reads : read new l (moved g at) (patch g.index at (uses got.tree) s) ≡ Ok (record { tree = exchange g got.tree; at = moved g got.at; left = got.left })
  pub resolves : resolved new (exchange g got.tree) ≡ renamed im (resolved old got.tree)

abbrev pub RenamedBodies : Type 0
RenamedBodies = (im : Images) (old new : Pool) (g : Change) (l : Layout) (at : ℕ) (s : List ℕ) (got : Got)
    → IsBytes s → read old l at s ≡ Ok got → g.from ≤ at → Each (Renames im old new g) got.tree → IsRenamedBody im old new g l at s got

-- The attributes in a Code and in a component are read by the same table as all others.
pub record NestedAttributes : Type 0 where
  pub in_code : inner_attributes OfCode ≡ attributes_of OfCode
  pub in_component : inner_attributes OfComponent ≡ attributes_of OfComponent

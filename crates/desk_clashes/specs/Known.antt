-- Sets of references to texts, and how they are read.
use Rattle.std.specs.Prelude.{◌≡◌, ℕ, Bool, true, false, ◌+◌, ◌==◌, List, [], ◌∷◌, ◌++◌, Option, Some, None, cond, map, slice_index_or}
use Rattle.std.specs.List.{list_any}
use Rattle.std.specs.Str.{bytes_eq}
use Rattle.std.specs.BTreeSet.{BTreeSet, contains}
use denote.Ref.{Bor}
use Rattle.desk_base.specs.Names.{Text, slash}
use Rattle.desk_class.specs.Marks.{marked_cmp}
use Rattle.desk_clashes.specs.Clashes.{clashes, is_folder}

-- a reference to a text
abbrev pub TextRef : Type 0
TextRef = Bor (List ℕ)

-- the texts that references point to
abbrev pub names_of : List TextRef → List Text
names_of = map (λ t. t.now)

-- the text at a place
abbrev pub name_at : List TextRef → ℕ → Text
name_at targets place = slice_index_or (names_of targets) place []

-- whether a set holds a text
abbrev pub holds : BTreeSet Text → Text → Bool
holds = contains marked_cmp

-- the folders of a text, shortest first
abbrev pub folders_of : Text → List Text
folders_of [] = []
folders_of (b ∷ bs) = cond (b == slash) ([] ∷ []) [] ++ map (λ folder. b ∷ folder) (folders_of bs)

-- a set holds the folders of each of its texts
abbrev pub HoldsFolders : BTreeSet Text → Type 0
HoldsFolders set = (text folder : Text) → holds set text ≡ true → is_folder folder text ≡ true → holds set folder ≡ true

-- one set holds these targets, and one their folders; where they are known to be apart, no target is a folder of another
pub record Knows (names folders : BTreeSet Text) (are_apart : Bool) (targets : List Text) : Type 0 where
  pub named : (q : Text) → holds names q ≡ list_any (bytes_eq q) targets
  pub nested : (q : Text) → holds folders q ≡ list_any (is_folder q) targets
  pub apart : are_apart ≡ true → (q : Text) → holds folders q ≡ true → holds names q ≡ false

-- of targets from a place on, the first that clashes with a later one
abbrev pub first_place : ℕ → List Text → Option ℕ
first_place place [] = None
first_place place (target ∷ targets) = cond (list_any (clashes target) targets) (Some place) (first_place (place + 1) targets)

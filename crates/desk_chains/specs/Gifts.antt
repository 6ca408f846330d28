-- What a rule gives, as a text that tells where it leads; and sets of such texts.
use Rattle.std.specs.Prelude.{◌≡◌, ℕ, Bool, true, false, List, [], ◌∷◌, ◌++◌, Option, Some, None, IsTrue, if◌then◌else◌}
use Rattle.std.specs.Ordering.{nat_cmp}
use Rattle.std.specs.Cmp.Lexicographic.{slice_cmp}
use Rattle.std.specs.BTreeSet.{BTreeSet, contains_by}
use denote.Ref.{Bor}
use Rattle.desk_base.specs.Names.{Text, Package, written, dot}
use Rattle.desk_packages.specs.Renames.{Renaming, changes, is_rename}

-- what a rename gives: its target with dots, and a dot behind it where it gives packages below too
abbrev pub gift_text : Bool → Package → Text
gift_text below target = if below then written dot target ++ 46 ∷ [] else written dot target

-- a changing rename gives what a text tells
pub record IsGift (r : Renaming) (text : Text) : Type 0 where
  pub formed : IsTrue (is_rename r)
  pub moves : IsTrue (changes r)
  pub told : text ≡ gift_text r.below r.target

-- no text tells what a rule gives
abbrev pub GivesNoText : {A : Type 0} → A → Text → Type 0
GivesNoText x text = ⊥

-- a text tells what a rule gives, and what gives the same leads to no other rule
pub record Tells {A B : Type 0} (gives : A → Text → Type 0) (leads : A → B → Bool) (x : A) (text : Text) : Type 0 where
  pub given : gives x text
  pub alike : (y : A) (s : B) → gives y text → leads y s ≡ true → leads x s ≡ true

-- a reference to a text
abbrev pub TextRef : Type 0
TextRef = Bor (List ℕ)

-- whether a set holds a text
abbrev pub holds : BTreeSet TextRef → Text → Bool
holds set text = contains_by (λ k. slice_cmp nat_cmp text k.now) set

-- whether it holds a text that may be missing
abbrev pub holds_gift : BTreeSet TextRef → Option Text → Bool
holds_gift set None = false
holds_gift set (Some text) = holds set text

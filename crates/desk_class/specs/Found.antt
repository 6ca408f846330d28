-- Class names that were found.
use Rattle.std.specs.Prelude.{◌≡◌, ◌<◌, ℕ, Bool, false, ◌==◌, ◌&&◌, ◌||◌, List, [], ◌∷◌, length, drop, map}
use Rattle.std.specs.Str.{bytes_eq}
use Rattle.std.specs.BTreeSet.{BTreeSet, contains}
use denote.Ref.{Bor}
use Rattle.desk_base.specs.Names.{Text}
use Rattle.desk_names.specs.declared.names.ClassName.{ClassName}
use Rattle.desk_names.specs.ClassNames.{class_name}
use Rattle.desk_class.specs.Marks.{mark, marked_cmp}
use Rattle.desk_class.specs.Held.{is_held}

-- a class name, written out
abbrev pub spelled : ClassName → Text
spelled name = class_name name.package.now name.simple.now

-- the texts that these stand for
abbrev pub texts : List (Bor (List ℕ)) → List Text
texts = map (λ t. t.now)

-- a set has exactly these names
abbrev pub AreFound : List Text → BTreeSet Text → Type 0
AreFound names set = (q : Text) → contains marked_cmp set q ≡ is_held names q

-- these are the marks of the first of these names
abbrev pub AreMarks : List ℕ → List Text → Type 0
AreMarks [] ts = Unit {0}
AreMarks (m ∷ ms) [] = ⊥
AreMarks (m ∷ ms) (t ∷ ts) = (m ≡ mark t) × AreMarks ms ts

-- whether a name stands among these with a mark
abbrev pub is_told : List ℕ → List Text → ℕ → Text → Bool
is_told [] ts k q = false
is_told (m ∷ ms) [] k q = false
is_told (m ∷ ms) (t ∷ ts) k q = (m == k && bytes_eq t q) || is_told ms ts k q

-- The first names have these marks, and a set has those behind them. Only where the first are so many is a name behind them.
pub record AreTold (few : ℕ) (names : List Text) (marks : List ℕ) (set : BTreeSet Text) : Type 0 where
  pub marked : AreMarks marks names
  pub found : AreFound (drop (length marks) names) set
  pub first : length marks < few → length marks ≡ length names

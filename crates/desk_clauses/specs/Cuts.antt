-- What readers of values answer.
use Rattle.std.specs.Prelude.{◌≡◌, ◌<◌, ◌≤◌, ℕ, Bool, ◌&&◌, ◌==◌, List, [], ◌∷◌, ◌++◌, Option, Some, None, length, take, drop}
use Rattle.std.specs.List.{slice_split}
use Rattle.std.specs.Str.{bytes_eq}
use Rattle.desk_base.specs.Names.{Text}
use Rattle.desk_lines.specs.Blanks.{trimmed}
use Rattle.desk_clauses.specs.Quotes.{before_mark, from_mark, cut}
use Rattle.desk_clauses.specs.Grammar.{ends_in_colon, but_last}
use Rattle.desk_clauses.specs.declared.quotes.Quoting.TheVariants.{Outside}

-- the parts of what is left of a text, if anything is
abbrev pub parts_of : (Text → List Text) → Option Text → List Text
parts_of cutter None = []
parts_of cutter (Some text) = cutter text

-- what is left of a text, and the mark before it
abbrev pub behind : ℕ → Option Text → Text
behind mark None = []
behind mark (Some text) = mark ∷ text

-- a text begins with a part, behind whose mark the rest stands, if the part is not the last
pub record IsFirst (cutter : Text → List Text) (mark : ℕ) (text part : Text) (more : Option Text) : Type 0 where
  pub parts : cutter text ≡ part ∷ parts_of cutter more
  pub whole : text ≡ part ++ behind mark more

-- the first part of a text that is cut at marks outside quotes
abbrev pub IsFirstPart : ℕ → Text → Text → Option Text → Type 0
IsFirstPart mark = IsFirst (cut mark Outside) mark

-- the first item of a list
abbrev pub IsFirstItem : Text → Text → Option Text → Type 0
IsFirstItem = IsFirst (slice_split (λ b. b == 44)) 44

-- so many bytes of a part stand before its first `=` outside quotes; all where it has none
pub record IsMark (part : Text) (place : ℕ) : Type 0 where
  pub before : take place part ≡ before_mark 61 Outside part
  pub from : drop place part ≡ from_mark 61 Outside part
  pub inside : place ≤ length part

-- the `=` of a parameter stands at a place
pub record IsMarkPlace (part : Text) (place : ℕ) : Type 0 where
  pub before : take place part ≡ before_mark 61 Outside part
  pub from : drop place part ≡ from_mark 61 Outside part
  pub inside : place < length part

-- whether a key is that of the directive of a name
abbrev pub has_key_of : Text → Text → Bool
has_key_of name key = ends_in_colon key && bytes_eq (trimmed (but_last key)) name

-- Which bytes texts begin with.
use Rattle.std.specs.Prelude.{◌≡◌, ◌≤◌, ◌<◌, ℕ, Bool, true, false, List, length, slice_index, slice_index_or, Option, MatchOption}
use Rattle.memchr.specs.Find.{is_byte, is_byte2, is_byte3}
use Rattle.desk_base.specs.Names.{Text}
use Rattle.desk_patterns.specs.declared.first_bytes.Few.{Few}
use Rattle.desk_patterns.specs.declared.first_bytes.Few.TheVariants.{Nothing, One, Two, Three, Many}

-- whether a byte is one of few
abbrev pub passes : Few → ℕ → Bool
passes Nothing byte = false
passes (One a) byte = is_byte a byte
passes (Two a b) byte = is_byte2 a b byte
passes (Three a b c) byte = is_byte3 a b c byte
passes Many byte = true

-- few bytes and one more
abbrev pub with_byte : ℕ → Few → Few
with_byte byte Nothing = One byte
with_byte byte (One a) = Two a byte
with_byte byte (Two a b) = Three a b byte
with_byte byte (Three a b c) = Many
with_byte byte Many = Many

-- whether texts begin with a byte
abbrev pub is_first : List Bool → ℕ → Bool
is_first table byte = slice_index_or table byte false

-- each byte that texts begin with is one of these few
pub record IsCovered (table : List Bool) (few : Few) : Type 0 where
  pub count : length table ≡ 256
  pub covered : (byte : ℕ) → is_first table byte ≡ true → passes few byte ≡ true

-- from one place up to another, no byte is one that texts begin with
abbrev pub NoneFirst : List Bool → Text → ℕ → ℕ → Type 0
NoneFirst table text from to = (k : ℕ) → from ≤ k → k < to → is_first table (slice_index text k) ≡ false

-- a place of a text before which no byte is one that texts begin with
pub record IsNextIn (table : List Bool) (text : Text) (from at : ℕ) : Type 0 where
  pub low : from ≤ at
  pub high : at ≤ length text
  pub before : NoneFirst table text from at

-- the place of the first such byte
abbrev pub IsFirstIn : List Bool → Text → Option ℕ → Type 0
IsFirstIn table text found = MatchOption found (NoneFirst table text 0 (length text)) (λ at. (at < length text) × NoneFirst table text 0 at)

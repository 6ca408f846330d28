-- Where the last part of a text begins.
use Rattle.std.specs.Prelude.{◌≡◌, ◌⊎◌, ◌<◌, ◌+◌, ℕ, IsTrue, length, drop, slice_index}
use Rattle.desk_base.specs.Names.{Text, is_whole}

-- the last separator of a text stands at a place
pub record IsLastAt (separator : ℕ) (text : Text) (place : ℕ) : Type 0 where
  pub within : place < length text
  pub there : slice_index text place ≡ separator
  pub last : IsTrue (is_whole separator (drop (place + 1) text))

-- so many bytes stand before the last separator of a text, or none where it has no separator
abbrev pub IsFrontEnd : ℕ → Text → ℕ → Type 0
IsFrontEnd separator text end = IsLastAt separator text end ⊎ ((end ≡ 0) × IsTrue (is_whole separator text))

-- A place in a file, counted in bytes from its start, and the bytes that are left from there to an end.
use Rattle.std.specs.Prelude.{ℕ, ◌+◌, List, take, drop}

pub record Spot : Type 0 where
  pub at : ℕ
  pub left : List ℕ

-- behind the next n bytes
abbrev pub past : ℕ → Spot → Spot
past n spot = record { at = spot.at + n; left = drop n spot.left }

-- the next n bytes alone
abbrev pub first : ℕ → Spot → Spot
first n spot = record { at = spot.at; left = take n spot.left }

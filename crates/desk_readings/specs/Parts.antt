-- Files that are read in parts.
use Rattle.std.specs.Prelude.{◌≡◌, ◌≤◌, ◌<◌, ◌+◌, ◌++◌, ℕ, Option, Some, None, length, take}
use Rattle.desk_base.specs.Names.{Text}

-- how many bytes a part has at most
abbrev pub part_size : ℕ
part_size = 1048576

-- more bytes than any file has
abbrev pub no_end : ℕ
no_end = 18446744073709551615

-- these bytes have no more behind so many that aren't behind the end
pub record IsAtEnd (bytes : Text) (at end : ℕ) : Type 0 where
  pub all : take at bytes ≡ take end bytes
  pub over : at < end → length bytes ≤ at

-- what is given next of these bytes, behind so many of them and before an end: the next of them, or none where there are no more
abbrev pub IsNext : Text → ℕ → ℕ → Option Text → Type 0
IsNext bytes at end (Some part) = (take (at + length part) bytes ≡ take at bytes ++ part) × (at + length part ≤ length bytes)
IsNext bytes at end None = IsAtEnd bytes at end

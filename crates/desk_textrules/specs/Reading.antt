-- A source in a text, and its target.
use Rattle.std.specs.Prelude.{ℕ, Bool, not, take, drop}
use Rattle.std.specs.Str.{bytes_eq}
use Rattle.desk_base.specs.Names.{Text}

-- whether so many bytes at a place of a text differ from their target
abbrev pub is_changed : Text → ℕ → ℕ → Text → Bool
is_changed text at taken target = not (bytes_eq target (take taken (drop at text)))

-- How a text begins.
use Rattle.std.specs.Prelude.{ℕ, Bool, false, ◌==◌, [], ◌∷◌}
use Rattle.desk_base.specs.Names.{Text}

-- whether a text begins with a byte
abbrev pub begins : ℕ → Text → Bool
begins byte [] = false
begins byte (b ∷ t) = b == byte

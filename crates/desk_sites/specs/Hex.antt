-- Bytes in digits of base 16.
use Rattle.std.specs.Prelude.{ℕ, ◌/◌, ◌%◌, [], ◌∷◌}
use Rattle.desk_base.specs.Names.{Text}
use Rattle.desk_base.specs.Shown.{hex_digit}

-- two digits, in lower case
abbrev pub hex_byte : ℕ → Text
hex_byte b = hex_digit (b / 16) ∷ hex_digit (b % 16) ∷ []

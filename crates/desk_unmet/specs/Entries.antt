-- Bytes of a property file.
use Rattle.std.specs.Prelude.{ℕ, Bool, ◌||◌, ◌==◌}

-- a blank of a property file: a space, a tab or a form feed
abbrev pub is_white_byte : ℕ → Bool
is_white_byte b = (b == 32) || ((b == 9) || (b == 12))

-- a byte that ends a key: `=`, `:` or a blank
abbrev pub is_stop_byte : ℕ → Bool
is_stop_byte b = (b == 61) || ((b == 58) || is_white_byte b)

-- Marks at the start of keys and texts.
use Rattle.std.specs.Prelude.{Bool, true, false, ◌&&◌, ◌||◌, ◌==◌, [], ◌∷◌}
use Rattle.desk_base.specs.Names.{Text}

-- a byte order mark in UTF-8 (U+FEFF) stands first
abbrev pub has_mark : Text → Bool
has_mark (a ∷ b ∷ c ∷ t) = (a == 239) && ((b == 187) && (c == 191))
has_mark other = false

-- a byte order mark of UTF-16 stands first
abbrev pub is_utf16 : Text → Bool
is_utf16 (a ∷ b ∷ t) = ((a == 254) && (b == 255)) || ((a == 255) && (b == 254))
is_utf16 other = false

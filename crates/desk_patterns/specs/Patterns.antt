-- Patterns of paths.
use Rattle.std.specs.Prelude.{ℕ, Bool, false, ◌&&◌, ◌||◌, ◌==◌, [], ◌∷◌, if◌then◌else◌}
use Rattle.desk_base.specs.Names.{Text, is_empty}

-- `*`
abbrev pub star : ℕ
star = 42

-- whether a text, or what is left of it behind some of its first bytes, passes a test
abbrev pub any_end : (Text → Bool) → Text → Bool
any_end p [] = p []
any_end p (b ∷ t) = p (b ∷ t) || any_end p t

-- whether a text begins with a byte, and the rest passes a test
abbrev pub leads : ℕ → (Text → Bool) → Text → Bool
leads byte p [] = false
leads byte p (b ∷ t) = b == byte && p t

-- whether a pattern fits a path from its first byte to its last: `*` stands for any bytes, none and `/` included, and
-- every other byte for itself
abbrev pub fits : Text → Text → Bool
fits [] path = is_empty path
fits (b ∷ pattern) path = if b == star then any_end (fits pattern) path else leads b (fits pattern) path

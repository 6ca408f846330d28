-- Blanks, and a text without those at its ends.
use Rattle.std.specs.Prelude.{◌≡◌, ℕ, Bool, true, cond, not, ◌&&◌, ◌||◌, ◌==◌, [], ◌∷◌, ◌++◌}
use Rattle.std.specs.List.{list_all}
use Rattle.desk_base.specs.Names.{Text, is_empty}
use Rattle.desk_lines.specs.Cuts.{until, onward, stops}

-- a space or a tab
abbrev pub is_blank : ℕ → Bool
is_blank b = b == 32 || b == 9

-- any other byte
abbrev pub not_blank : ℕ → Bool
not_blank b = not (is_blank b)

-- a text without its blanks at the end
abbrev pub trimmed_end : Text → Text
trimmed_end [] = []
trimmed_end (b ∷ t) = cond (is_blank b && is_empty (trimmed_end t)) [] (b ∷ trimmed_end t)

-- the blanks at a text's end
abbrev pub trailing_blanks : Text → Text
trailing_blanks [] = []
trailing_blanks (b ∷ t) = cond (is_blank b && is_empty (trimmed_end t)) (b ∷ t) (trailing_blanks t)

-- the blanks at its front
abbrev pub leading_blanks : Text → Text
leading_blanks = until not_blank

-- a text without blanks at its front and end
abbrev pub trimmed : Text → Text
trimmed t = trimmed_end (onward not_blank t)

-- A text is another with blanks before and behind it, and neither begins nor ends with a blank.
pub record IsTrimmed (text inner : Text) : Type 0 where
  pub front : Text
  pub back : Text
  pub whole : front ++ (inner ++ back) ≡ text
  pub front_blank : list_all is_blank front ≡ true
  pub back_blank : list_all is_blank back ≡ true
  pub begins : stops not_blank inner ≡ true
  pub ends : trimmed_end inner ≡ inner

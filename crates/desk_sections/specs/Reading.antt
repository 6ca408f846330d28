-- What readers of a manifest's lines answer.
use Rattle.std.specs.Prelude.{◌≡◌, ◌++◌, ◌∷◌, [], Bool, List, true, not}
use Rattle.std.specs.List.{list_all}
use Rattle.desk_base.specs.Names.{Text}
use Rattle.desk_lines.specs.declared.lines.LineEnd.{LineEnd}
use Rattle.desk_lines.specs.Lines.{Line, lines, joined}
use Rattle.desk_sections.specs.Sections.{is_continuation}

-- whether lines do not begin with a continuation line
abbrev pub begins_anew : List Line → Bool
begins_anew [] = true
begins_anew (l ∷ ls) = not (is_continuation l.content)

-- the end of the last of these lines, or this one where there is none
abbrev pub end_behind : LineEnd → List Line → LineEnd
end_behind end [] = end
end_behind end (l ∷ ls) = end_behind l.end ls

-- A text begins with continuation lines, of which the last has this end, and behind them stands the rest, which begins with no
-- such line.
pub record IsContinued (text : Text) (before last : LineEnd) (rest : Text) : Type 0 where
  pub further : List Line
  pub lines_are : lines text ≡ further ++ lines rest
  pub all : list_all (λ l. is_continuation l.content) further ≡ true
  pub no_more : begins_anew (lines rest) ≡ true
  pub whole : text ≡ joined further ++ rest
  pub last_is : last ≡ end_behind before further
  pub own : lines (joined further) ≡ further

-- Where the first line of a text ends.
use Rattle.std.specs.Prelude.{◌≡◌, ◌≤◌, ◌<◌, ◌+◌, ℕ, ◌∷◌, length, take, drop}
use Rattle.desk_base.specs.Names.{Text}
use Rattle.desk_lines.specs.Lines.{line, lines, end_bytes}
use Rattle.desk_lines.specs.declared.lines.LineEnd.{LineEnd}

-- The first line of a text has this many bytes before its end, and this end.
pub record IsFirstEnd (text : Text) (at : ℕ) (end : LineEnd) : Type 0 where
  pub inside : at + length (end_bytes end) ≤ length text
  pub further : 0 < at + length (end_bytes end)
  pub same : lines text ≡ line (take at text) end ∷ lines (drop (at + length (end_bytes end)) text)

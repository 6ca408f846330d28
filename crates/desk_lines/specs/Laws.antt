-- Laws of lines.
use Rattle.std.specs.Prelude.{◌≡◌, true, List}
use Rattle.desk_base.specs.Names.{Text}
use Rattle.desk_lines.specs.Lines.{Line, joined, lines, are_well_ended}

-- The lines of a text are well ended, and joined they are the text.
abbrev pub LinesJoin : Type 0
LinesJoin = (text : Text) → (are_well_ended (lines text) ≡ true) × (joined (lines text) ≡ text)

-- Well ended lines are those of the text that they make.
abbrev pub LinesAreFound : Type 0
LinesAreFound = (ls : List Line) → are_well_ended ls ≡ true → lines (joined ls) ≡ ls

-- The last line of what is told of a run.
use Rattle.std.specs.Prelude.{ℕ, Bool, [], ◌++◌, ◌==◌, ◌&&◌, not, codes, decimal, if◌then◌else◌}
use Rattle.std.specs.List.{starts_with}
use Rattle.desk_base.specs.Names.{Text}
use Rattle.desk_choices.specs.declared.closing.Closing.{Closing}

-- a line that is a note: it names the program, is none of the names below a note, and tells no refused files
abbrev pub is_note : Text → Bool
is_note line =
    starts_with ◌==◌ line (codes "migrate: ")
    && not (starts_with ◌==◌ line (codes "migrate:   "))
    && not (starts_with ◌==◌ line (codes "migrate: refused: "))

-- a count, and what is said behind one or behind another number
abbrev pub counted : ℕ → Text → Text → Text
counted n one more = decimal n ++ (if n == 1 then one else more)

-- files that were refused
abbrev pub refused_text : ℕ → Text
refused_text n =
    if n == 0 then []
    else codes "; " ++ counted n (codes " refused: see its line in the report") (codes " refused: see their lines in the report")

-- notes that were told
abbrev pub notes_text : ℕ → Text
notes_text n = if n == 0 then [] else codes "; " ++ counted n (codes " note above") (codes " notes above")

-- what is left for a person to look at
abbrev pub looked_at : ℕ → ℕ → Text
looked_at refused notes =
    if (refused == 0) && (notes == 0) then codes "; nothing is left to look at"
    else refused_text refused ++ notes_text notes

abbrev pub closing_text : Closing → Text
closing_text c =
    codes "migrate: "
    ++ counted c.files (codes " file, ") (codes " files, ")
    ++ (decimal c.written ++ codes " written, ")
    ++ (decimal c.kept ++ codes " kept")
    ++ looked_at c.refused c.notes
    ++ codes "\n"

-- Manifests (JAR File Specification, "Manifest Specification"): sections of headers, each header with the lines that hold it.
use Rattle.std.specs.Prelude.{ℕ, Bool, true, false, cond, not, ◌&&◌, ◌==◌, ◌+◌, List, [], ◌∷◌, ◌++◌, drop, length, Option, Some, None}
use Rattle.desk_base.specs.Names.{Text, is_empty}
use Rattle.desk_lines.specs.declared.lines.LineEnd.{LineEnd}
use Rattle.desk_lines.specs.declared.lines.LineEnd.TheVariants as ends
use Rattle.desk_lines.specs.Lines.{Line, line, end_bytes}
use Rattle.desk_lines.specs.Cuts.{until, onward}

abbrev pub is_colon : ℕ → Bool
is_colon b = b == 58

-- whether a line continues the header before it: it begins with a space
abbrev pub is_continuation : Text → Bool
is_continuation [] = false
is_continuation (b ∷ t) = b == 32

-- a colon, and then a space or the line's end
abbrev pub is_colon_and_space : Text → Bool
is_colon_and_space [] = false
is_colon_and_space (c ∷ []) = true
is_colon_and_space (c ∷ b ∷ t) = b == 32

-- whether a line begins a header: no space first, a name, a colon, and then a space or the line's end
abbrev pub is_header_line : Text → Bool
is_header_line content =
    not (is_continuation content) && (not (is_empty (until is_colon content)) && is_colon_and_space (onward is_colon content))

-- what a manifest consists of: headers, each with its lines, and empty lines, each of which ends a section
pub data Item : Type 0 where
  section_end : LineEnd → Item
  header : List Line → Item

-- the continuation lines with which some lines begin, and the items that follow them
pub record Grouped : Type 0 where
  pub further : List Line
  pub items : List Item

abbrev pub put : Line → Grouped → Grouped
put l g =
    cond (is_empty l.content) (record { further = []; items = section_end l.end ∷ g.items })
    (cond (is_continuation l.content) (record { further = l ∷ g.further; items = g.items })
    (record { further = []; items = header (l ∷ g.further) ∷ g.items }))

-- the items of lines
abbrev pub grouped : List Line → Grouped
grouped [] = record { further = []; items = [] }
grouped (l ∷ ls) = put l (grouped ls)

-- the lines of items
abbrev pub item_lines : List Item → List Line
item_lines [] = []
item_lines (section_end end ∷ items) = line [] end ∷ item_lines items
item_lines (header ls ∷ items) = ls ++ item_lines items

-- whether a line hasn't the form, where `inside` says whether a header of its section stands before it
abbrev pub is_bad_line : Bool → Text → Bool
is_bad_line inside content =
    not (is_empty content) && not (cond (is_continuation content) inside (is_header_line content))

-- where the first such line begins; the lines begin at `at`
abbrev pub first_bad_line : Bool → ℕ → List Line → Option ℕ
first_bad_line inside at [] = None
first_bad_line inside at (l ∷ ls) =
    cond (is_bad_line inside l.content) (Some at)
    (first_bad_line (not (is_empty l.content)) (at + length (l.content ++ end_bytes l.end)) ls)

-- what stands before the first colon of a header
abbrev pub name_of : List Line → Text
name_of [] = []
name_of (l ∷ ls) = until is_colon l.content

-- the contents of continuation lines, without their first spaces
abbrev pub unfolded : List Line → Text
unfolded [] = []
unfolded (l ∷ ls) = drop 1 l.content ++ unfolded ls

-- what follows the colon and its space, and each continuation without its first space
abbrev pub value_of : List Line → Text
value_of [] = []
value_of (l ∷ ls) = drop 2 (onward is_colon l.content) ++ unfolded ls

-- the end of the last line
abbrev pub last_end : List Line → LineEnd
last_end [] = ends.EndOfText
last_end (l ∷ []) = l.end
last_end (l ∷ m ∷ ls) = last_end (m ∷ ls)

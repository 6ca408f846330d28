-- Lines of a property file: natural lines, as they stand in the file, and logical lines, which may go over several.
use Rattle.std.specs.Prelude.{ℕ, Bool, true, false, ◌+◌, ◌%◌, ◌==◌, ◌&&◌, ◌||◌, List, [], ◌∷◌, ◌++◌, length, if◌then◌else◌}
use Rattle.std.specs.List.{list_all}
use Rattle.desk_base.specs.Names.{Text, is_empty}

-- a byte, and its offset from the start of the file
pub record Placed : Type 0 where
  pub byte : ℕ
  pub at : ℕ

-- the bytes of a text, whose first stands at an offset
abbrev pub placed : ℕ → Text → List Placed
placed at [] = []
placed at (b ∷ t) = record { byte = b; at = at } ∷ placed (at + 1) t

-- a line without its end
abbrev pub Line : Type 0
Line = List Placed

abbrev pub is_backslash : Placed → Bool
is_backslash p = p.byte == 92

-- space, tab and form feed
abbrev pub is_white_byte : ℕ → Bool
is_white_byte b = b == 32 || b == 9 || b == 12

abbrev pub is_white : Placed → Bool
is_white p = is_white_byte p.byte

-- LF or CR
abbrev pub is_end_byte : ℕ → Bool
is_end_byte b = b == 10 || b == 13

abbrev pub is_end : Placed → Bool
is_end p = is_end_byte p.byte

-- whether LF stands next
abbrev pub begins_lf : List Placed → Bool
begins_lf [] = false
begins_lf (p ∷ ps) = p.byte == 10

-- a CR with a LF behind it, which end a line together
abbrev pub is_cr_of_lf : Placed → List Placed → Bool
is_cr_of_lf p ps = p.byte == 13 && begins_lf ps

-- a byte that stands before lines belongs to the first
abbrev pub behind : Placed → List Line → List Line
behind p [] = (p ∷ []) ∷ []
behind p (l ∷ ls) = (p ∷ l) ∷ ls

-- the natural lines: what stands before each end, which is LF, CR LF or CR, and what stands behind the last
abbrev pub natural_lines : List Placed → List Line
natural_lines [] = [] ∷ []
natural_lines (p ∷ ps) =
    if is_cr_of_lf p ps then natural_lines ps
    else if is_end p then [] ∷ natural_lines ps
    else behind p (natural_lines ps)

-- a line without the white space that leads it
abbrev pub unindented : Line → Line
unindented [] = []
unindented (p ∷ l) = if is_white p then unindented l else p ∷ l

-- `#` or `!`, which leads a comment
abbrev pub is_comment_byte : ℕ → Bool
is_comment_byte b = b == 35 || b == 33

abbrev pub is_comment : Line → Bool
is_comment [] = false
is_comment (p ∷ l) = is_comment_byte p.byte

-- a blank line or a comment
abbrev pub is_skipped : Line → Bool
is_skipped l = is_empty (unindented l) || is_comment (unindented l)

-- how many backslashes a line ends in
abbrev pub last_backslashes : Line → ℕ
last_backslashes [] = 0
last_backslashes (p ∷ l) = if list_all is_backslash (p ∷ l) then length l + 1 else last_backslashes l

-- whether the next line continues this one
abbrev pub is_continued : Line → Bool
is_continued l = last_backslashes l % 2 == 1

-- all of a line but its last byte
abbrev pub without_last : Line → Line
without_last [] = []
without_last (p ∷ []) = []
without_last (p ∷ q ∷ l) = p ∷ without_last (q ∷ l)

-- a line without the backslash that continues it
abbrev pub own_part : Line → Line
own_part l = if is_continued l then without_last l else l

-- a line with those of the following that continue it
abbrev pub with_continued : Line → List Line → Line
with_continued l [] = own_part l
with_continued l (next ∷ ls) = if is_continued l then own_part l ++ with_continued (unindented next) ls else l

-- the logical lines: each natural line that is not skipped and does not continue the one before it, with those that
-- continue it; the flag says whether the first continues one before these
abbrev pub logical_lines : Bool → List Line → List Line
logical_lines continues [] = []
logical_lines true (l ∷ ls) = logical_lines (is_continued l) ls
logical_lines false (l ∷ ls) =
    if is_skipped l then logical_lines false ls else with_continued (unindented l) ls ∷ logical_lines (is_continued l) ls

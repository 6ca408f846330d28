-- Where a reader of a property file stands, and what is still before it.
use Rattle.std.specs.Prelude.{◌≡◌, ◌≤◌, ◌<◌, ⊤, ℕ, Bool, true, false, ◌+◌, ◌==◌, ◌&&◌, ◌||◌, List, [], ◌∷◌, ◌++◌, length, drop, slice_index, Some, None, Ok, Err, if◌then◌else◌}
use Rattle.desk_base.specs.Names.{Text, is_empty}
use Rattle.desk_properties.specs.Lines.{Placed, placed, Line, natural_lines, unindented, is_white_byte, is_comment, is_continued, with_continued, logical_lines}
use Rattle.desk_properties.specs.Entries.{is_sign_byte, written_key, behind_key, before, unsigned, hex_number, Escape, escape_of, unescaped}
use Rattle.desk_properties.specs.Properties.{entry_of}
use Rattle.desk_properties.specs.declared.PropFault.TheVariants.{NotUtf8, Escape as BadEscape}
use Rattle.desk_properties.specs.declared.PropError.{PropError}
use Rattle.desk_properties.specs.declared.PropError.TheVariants.{Fault, Memory}
use Rattle.desk_properties.specs.declared.entries.Part.{Part}
use Rattle.desk_properties.specs.declared.entries.Part.TheVariants.{Key, Value}

-- the natural lines from an offset on
unfoldable pub natural_from : Text → ℕ → List Line
natural_from file at = natural_lines (placed at (drop at file))

abbrev pub first_of : List Line → Line
first_of [] = []
first_of (l ∷ ls) = l

abbrev pub behind_first : List Line → List Line
behind_first [] = []
behind_first (l ∷ ls) = ls

-- what is left of the natural line that goes on at an offset
unfoldable pub natural_line_from : Text → ℕ → Line
natural_line_from file at = first_of (natural_from file at)

-- the natural lines behind it
unfoldable pub natural_behind : Text → ℕ → List Line
natural_behind file at = behind_first (natural_from file at)

-- what is left of the logical line that goes on at an offset
unfoldable pub line_from : Text → ℕ → Line
line_from file at = with_continued (natural_line_from file at) (natural_behind file at)

-- the logical lines behind it
unfoldable pub lines_behind : Text → ℕ → List Line
lines_behind file at = logical_lines (is_continued (natural_line_from file at)) (natural_behind file at)

-- the logical lines from an offset on, at which a natural line begins
unfoldable pub lines_from : Text → ℕ → List Line
lines_from file at = logical_lines false (natural_from file at)

-- a byte at an offset
abbrev pub at_offset : ℕ → ℕ → Placed
at_offset b at = record { byte = b; at = at }

-- the byte of a file at an offset
abbrev pub here : Text → ℕ → Placed
here file at = at_offset (slice_index file at) at

-- two bytes stand at an offset of a logical line, the first a backslash that is no line break
pub record IsPair (file : Text) (at : ℕ) : Type 0 where
  pub backslash : slice_index file at ≡ 92
  pub line : line_from file at ≡ here file at ∷ here file (at + 1) ∷ line_from file (at + 2)
  pub behind : lines_behind file at ≡ lines_behind file (at + 2)

-- how many bytes the line end at the front of a text takes; 0 where none stands there
abbrev pub end_size : Text → ℕ
end_size [] = 0
end_size (b ∷ []) = if b == 10 then 1 else if b == 13 then 1 else 0
end_size (b ∷ c ∷ t) = if b == 10 then 1 else if b == 13 then (if c == 10 then 2 else 1) else 0

-- whether a backslash stands at the front of a text, and behind it a line end or nothing
abbrev pub begins_break : Text → Bool
begins_break [] = false
begins_break (b ∷ []) = b == 92
begins_break (b ∷ c ∷ t) = b == 92 && (c == 10 || c == 13)

-- what is left of a natural line that has no white space at its front is blank, or a comment
abbrev pub is_passed : Line → Bool
is_passed l = is_empty l || is_comment l

-- the natural line at the first offset goes on at the second, without white space at its front
pub record IsUnindented (file : Text) (from to : ℕ) : Type 0 where
  pub forward : from ≤ to
  pub inside : to ≤ length file
  pub line : natural_line_from file to ≡ unindented (natural_line_from file from)
  pub behind : natural_behind file to ≡ natural_behind file from

-- the same logical line goes on at both offsets, and no line break that continues it stands at the second
pub record IsResumed (file : Text) (from to : ℕ) : Type 0 where
  pub forward : from ≤ to
  pub inside : to ≤ length file
  pub line : line_from file to ≡ line_from file from
  pub behind : lines_behind file to ≡ lines_behind file from
  pub unbroken : begins_break (drop to file) ≡ false

-- a new natural line begins at the second offset, behind the one that goes on at the first
pub record IsNextLine (file : Text) (from to : ℕ) : Type 0 where
  pub forward : from ≤ to
  pub further : from < length file → from < to
  pub inside : to ≤ length file
  pub lines : lines_from file to ≡ logical_lines false (natural_behind file from)

-- a key, or a value, as it is written in what is left of a line at its first byte
abbrev pub written : Part → Line → Line
written Key l = written_key false l
written Value l = l

-- what stands behind it
abbrev pub beyond : Part → Line → Line
beyond Key l = behind_key false l
beyond Value l = []

-- a byte that ends the key, or the value, where no backslash escapes it
abbrev pub is_stop_byte : Part → ℕ → Bool
is_stop_byte Key b = is_sign_byte b || is_white_byte b
is_stop_byte Value b = false

-- whether the key, or the value, ends where this is left of a natural line
abbrev pub is_stop : Part → Line → Bool
is_stop part [] = true
is_stop part (p ∷ l) = is_stop_byte part p.byte

abbrev pub behind_byte : Line → Line
behind_byte [] = []
behind_byte (p ∷ l) = l

-- the four digits of a number stand between two offsets of a logical line
pub record IsNumberRead (file : Text) (from number to : ℕ) : Type 0 where
  pub forward : from ≤ to
  pub inside : to ≤ length file
  pub small : number < 65536
  pub number_is : hex_number 0 4 (line_from file from) ≡ Some number
  pub line : line_from file to ≡ drop 4 (line_from file from)
  pub behind : lines_behind file to ≡ lines_behind file from

-- the escape whose backslash stands at the first offset ends at the second, and what it stands for was added to a text
pub record IsEscapeRead (file : Text) (from : ℕ) (old new : Text) (to : ℕ) : Type 0 where
  pub forward : from < to
  pub inside : to ≤ length file
  pub escape : Escape
  pub escape_is : escape_of (behind_byte (line_from file from)) ≡ Some escape
  pub text_is : new ≡ old ++ escape.text
  pub line : line_from file to ≡ drop escape.size (behind_byte (line_from file from))
  pub behind : lines_behind file to ≡ lines_behind file from

-- that escape is faulty, at its backslash; want of memory comes freely
abbrev pub IsEscapeFault : Text → ℕ → PropError → Type 0
IsEscapeFault file from (Fault (BadEscape at)) = (at ≡ from) × (escape_of (behind_byte (line_from file from)) ≡ None)
IsEscapeFault file from (Fault (NotUtf8 at)) = ⊥
IsEscapeFault file from Memory = ⊤

-- what a text gained is what the bytes between two offsets stand for, in a key or value that doesn't end at the first
pub record IsNextRead (file : Text) (from : ℕ) (old new : Text) (to : ℕ) : Type 0 where
  pub forward : from < to
  pub inside : to ≤ length file
  pub piece : Text
  pub text_is : new ≡ old ++ piece
  pub unescaped_is : (part : Part) → is_stop part (natural_line_from file from) ≡ false → unescaped 0 (written part (line_from file from)) ≡ before piece (unescaped 0 (written part (line_from file to)))
  pub beyond_is : (part : Part) → is_stop part (natural_line_from file from) ≡ false → beyond part (line_from file from) ≡ beyond part (line_from file to)
  pub behind : lines_behind file to ≡ lines_behind file from

-- a faulty escape stands there; want of memory comes freely
abbrev pub IsNextFault : Text → ℕ → PropError → Type 0
IsNextFault file from (Fault (BadEscape at)) = (part : Part) → is_stop part (natural_line_from file from) ≡ false → unescaped 0 (written part (line_from file from)) ≡ Err at
IsNextFault file from (Fault (NotUtf8 at)) = ⊥
IsNextFault file from Memory = ⊤

-- a key or a value stands between two offsets of a logical line, and stands for a text
pub record IsPartRead (file : Text) (part : Part) (from : ℕ) (text : Text) (to : ℕ) : Type 0 where
  pub forward : from ≤ to
  pub inside : to ≤ length file
  pub text_is : unescaped 0 (written part (line_from file from)) ≡ Ok text
  pub line : line_from file to ≡ beyond part (line_from file from)
  pub behind : lines_behind file to ≡ lines_behind file from
  pub stopped : is_stop part (natural_line_from file to) ≡ true

-- the first faulty escape of a key or value; want of memory comes freely
abbrev pub IsPartFault : Text → Part → ℕ → PropError → Type 0
IsPartFault file part from (Fault (BadEscape at)) = unescaped 0 (written part (line_from file from)) ≡ Err at
IsPartFault file part from (Fault (NotUtf8 at)) = ⊥
IsPartFault file part from Memory = ⊤

-- the logical line without white space at its front goes on at the second offset
pub record IsGapRead (file : Text) (from to : ℕ) : Type 0 where
  pub forward : from ≤ to
  pub inside : to ≤ length file
  pub unbroken : begins_break (drop to file) ≡ false
  pub line : line_from file to ≡ unindented (line_from file from)
  pub behind : lines_behind file to ≡ lines_behind file from

-- the value of the logical line goes on at the second offset, where the first is behind its key
pub record IsSignRead (file : Text) (from to : ℕ) : Type 0 where
  pub forward : from ≤ to
  pub inside : to ≤ length file
  pub line : line_from file to ≡ unindented (unsigned (unindented (line_from file from)))
  pub behind : lines_behind file to ≡ lines_behind file from

-- the logical line at an offset has this entry, and a natural line behind it begins at the other
pub record IsEntryRead (file : Text) (from : ℕ) (key value : Text) (to : ℕ) : Type 0 where
  pub further : from < to
  pub inside : to ≤ length file
  pub entry_is : entry_of (line_from file from) ≡ Ok (key, value)
  pub lines : lines_from file to ≡ lines_behind file from

-- the first faulty escape of that entry; want of memory comes freely
abbrev pub IsEntryFault : Text → ℕ → PropError → Type 0
IsEntryFault file from (Fault (BadEscape at)) = entry_of (line_from file from) ≡ Err at
IsEntryFault file from (Fault (NotUtf8 at)) = ⊥
IsEntryFault file from Memory = ⊤

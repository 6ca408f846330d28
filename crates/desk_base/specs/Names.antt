-- Texts, packages and names. A package is written with `.` in a rule and in a dotted name, and with
-- `/` in a class file (JVMS 4.2.1).
use Rattle.std.specs.Prelude.{ℕ, Bool, true, false, not, ◌&&◌, ◌||◌, ◌==◌, nat_le, List, [], ◌∷◌}
use Rattle.std.specs.List.{slice_split, join_with_byte, list_all, starts_with}
use Rattle.std.specs.Str.{bytes_eq}
use Rattle.std.specs.Cmp.Lexicographic.{pointwise}

-- a list of bytes
abbrev pub Text : Type 0
Text = List ℕ

-- a list of segments
abbrev pub Package : Type 0
Package = List Text

-- `.`, which stands between the segments in a rule and in a dotted name
abbrev pub dot : ℕ
dot = 46

-- `/`, which stands between them in a class file
abbrev pub slash : ℕ
slash = 47

-- whether a list has no items
abbrev pub is_empty : {A : Type 0} → List A → Bool
is_empty [] = true
is_empty (x ∷ xs) = false

-- the parts of a text between its separators, of which the empty text has none
abbrev pub segments : ℕ → Text → Package
segments separator [] = []
segments separator (byte ∷ bytes) = slice_split (λ b. b == separator) (byte ∷ bytes)

-- a package as a text: its segments with a separator between each two
abbrev pub written : ℕ → Package → Text
written = join_with_byte

-- whether two packages are equal
abbrev pub same : Package → Package → Bool
same = pointwise bytes_eq

-- whether a package begins with the segments of another
abbrev pub begins_with : Package → Package → Bool
begins_with = starts_with bytes_eq

abbrev pub is_digit : ℕ → Bool
is_digit b = nat_le 48 b && nat_le b 57

abbrev pub is_letter : ℕ → Bool
is_letter b = (nat_le 65 b && nat_le b 90) || (nat_le 97 b && nat_le b 122)

-- a letter, a digit, `_`, `$` or a byte from 0x80 to 0xEF
abbrev pub is_identifier_byte : ℕ → Bool
is_identifier_byte b = is_letter b || is_digit b || b == 95 || b == 36 || (nat_le 128 b && nat_le b 239)

-- one or more such bytes, the first no digit
abbrev pub is_identifier : Text → Bool
is_identifier [] = false
is_identifier (first ∷ rest) = not (is_digit first) && list_all is_identifier_byte (first ∷ rest)

-- a byte that no part of a class name holds: `.` `;` `[` or `/` (JVMS 4.2.2)
abbrev pub is_reserved : ℕ → Bool
is_reserved b = b == 46 || b == 59 || b == 91 || b == 47

-- a part of a class name
abbrev pub is_part : Text → Bool
is_part [] = false
is_part (first ∷ rest) = list_all (λ b. not (is_reserved b)) (first ∷ rest)

-- one or more parts that pass a test, with a separator between each two
abbrev pub is_name : (Text → Bool) → ℕ → Text → Bool
is_name part separator text = not (is_empty (segments separator text)) && list_all part (segments separator text)

-- a class name in internal form (JVMS 4.2.1): parts joined by `/`
abbrev pub is_class_name : Text → Bool
is_class_name = is_name is_part slash

-- a dotted name: identifiers joined by `.`
abbrev pub is_dotted : Text → Bool
is_dotted = is_name is_identifier dot

-- source and target of a rule have segments, each an identifier
abbrev pub is_package : Package → Bool
is_package p = not (is_empty p) && list_all is_identifier p

-- all segments but the last
abbrev pub front : Package → Package
front [] = []
front (x ∷ []) = []
front (x ∷ y ∷ xs) = x ∷ front (y ∷ xs)

-- the last segment
abbrev pub simple : Package → Text
simple [] = []
simple (x ∷ []) = x
simple (x ∷ y ∷ xs) = simple (y ∷ xs)

-- whether a text holds no separator
abbrev pub is_whole : ℕ → Text → Bool
is_whole separator = list_all (λ b. not (b == separator))

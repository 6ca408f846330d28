-- Forms of keys and values.
use Rattle.std.specs.Prelude.{ℕ, Bool, not, ◌&&◌, ◌||◌, ◌==◌, nat_lt, nat_le, ◌-◌, length, take, [], ◌∷◌, is_none, if◌then◌else◌}
use Rattle.std.specs.List.{list_all, ends_with}
use Rattle.desk_base.specs.Limits.{file_size}
use Rattle.std.specs.Str.{is_utf8}
use Rattle.desk_base.specs.Names.{Text, is_empty, is_letter, is_digit, is_dotted}
use Rattle.desk_base.specs.Utf8.{bad_form}
use Rattle.desk_packages.specs.declared.Reach.{Reach}
use Rattle.desk_packages.specs.declared.Reach.TheVariants.{Exact, Below}

-- `;`, which stands between the two parts of a value
abbrev pub is_semicolon : ℕ → Bool
is_semicolon b = b == 59

-- a key that ends in `.*` means the packages below too
abbrev pub is_below : Text → Bool
is_below key = ends_with ◌==◌ key (46 ∷ 42 ∷ [])

-- which packages a key means
abbrev pub reach_of : Text → Reach
reach_of key = if is_below key then Below else Exact

-- the package of a key, without that end
abbrev pub source_text : Text → Text
source_text key = if is_below key then take (length key - 2) key else key

-- a letter, a digit, or one of `. _ -`
abbrev pub is_symbolic_byte : ℕ → Bool
is_symbolic_byte b = is_letter b || is_digit b || b == 46 || b == 95 || b == 45

-- the symbolic name of a bundle
abbrev pub is_symbolic_name : Text → Bool
is_symbolic_name t = not (is_empty t) && list_all is_symbolic_byte t

-- such a byte, or one of `, [ ] ( )`
abbrev pub is_version_byte : ℕ → Bool
is_version_byte b = is_symbolic_byte b || b == 44 || b == 91 || b == 93 || b == 40 || b == 41

-- a version, or a range of versions
abbrev pub is_version : Text → Bool
is_version t = not (is_empty t) && list_all is_version_byte t

-- a byte of a character from U+0001 to U+FFFF in UTF-8
abbrev pub is_plain_byte : ℕ → Bool
is_plain_byte b = nat_lt 0 b && nat_lt b 240

-- a text in UTF-8 without U+0000 and characters above U+FFFF
abbrev pub is_plain : Text → Bool
is_plain = list_all is_plain_byte

-- a text in modified UTF-8, as a class file stores texts (JVMS 4.4.7), and of at most 67,108,864 bytes, which is more than a
-- rule file holds
abbrev pub is_stored : Text → Bool
is_stored t = nat_le (length t) file_size && is_none (bad_form t)

-- a package as a rule file writes it: identifiers joined by `.`, in UTF-8 and in modified UTF-8
abbrev pub is_written_package : Text → Bool
is_written_package t = is_dotted t && is_stored t && is_utf8 t

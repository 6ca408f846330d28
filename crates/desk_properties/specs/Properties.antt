-- The entries of a property file, or its first fault.
use Rattle.std.specs.Prelude.{◌≡◌, ⊤, ℕ, true, false, ◌==◌, List, [], ◌∷◌, Result, Ok, Err}
use Rattle.std.specs.Cmp.Lexicographic.{pointwise}
use Rattle.std.specs.Str.{is_utf8}
use Rattle.std.specs.Str.Lossy.{utf8_valid_len}
use Rattle.indexmap.specs.IndexMap.{insert_all}
use Rattle.desk_base.specs.Names.{Text}
use Rattle.desk_properties.specs.Lines.{Line, placed, natural_lines, logical_lines}
use Rattle.desk_properties.specs.Entries.{written_key, written_value, unescaped}
use Rattle.desk_properties.specs.declared.PropFault.{PropFault}
use Rattle.desk_properties.specs.declared.PropFault.TheVariants.{NotUtf8, Escape}
use Rattle.desk_properties.specs.declared.PropError.{PropError}
use Rattle.desk_properties.specs.declared.PropError.TheVariants.{Fault, Memory}

-- a key and its value
abbrev pub Entry : Type 0
Entry = Text × Text

abbrev pub entry_from : Result Text ℕ → Result Text ℕ → Result Entry ℕ
entry_from (Err at) value = Err at
entry_from (Ok key) (Err at) = Err at
entry_from (Ok key) (Ok value) = Ok (key, value)

-- the entry of a logical line, or the place of its first faulty escape
abbrev pub entry_of : Line → Result Entry ℕ
entry_of line = entry_from (unescaped 0 (written_key false line)) (unescaped 0 (written_value line))

abbrev pub entries_from : Result Entry ℕ → Result (List Entry) ℕ → Result (List Entry) ℕ
entries_from (Err at) entries = Err at
entries_from (Ok entry) (Err at) = Err at
entries_from (Ok entry) (Ok entries) = Ok (entry ∷ entries)

-- the entries of logical lines in their order, or the place of the first faulty escape
abbrev pub entries_of : List Line → Result (List Entry) ℕ
entries_of [] = Ok []
entries_of (line ∷ lines) = entries_from (entry_of line) (entries_of lines)

-- entries into a map, in turn: the last value of a key wins, and the key keeps its first place
abbrev pub gathered : List Entry → Result (List Entry) ℕ → Result (List Entry) PropFault
gathered done (Err at) = Err (Escape at)
gathered done (Ok entries) = Ok (insert_all (pointwise ◌==◌) done entries)

-- the keys and values of a file of well-formed characters
abbrev pub text_properties : Text → Result (List Entry) PropFault
text_properties text = gathered [] (entries_of (logical_lines false (natural_lines (placed 0 text))))

-- the keys and values of a property file, or its first fault; characters are looked at in the whole file first
abbrev pub properties : Text → Result (List Entry) PropFault
properties file = elim (is_utf8 file) [ true ↦ text_properties file | false ↦ Err (NotUtf8 (utf8_valid_len file)) ]

-- the fault of a file; want of memory comes freely
abbrev pub IsPropError : Text → PropError → Type 0
IsPropError file (Fault fault) = properties file ≡ Err fault
IsPropError file Memory = ⊤

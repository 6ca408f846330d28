-- Entries as the program holds them.
use Rattle.std.specs.Prelude.{◌<◌, ◌^◌, List, Some, length, map}
use Rattle.desk_base.specs.Entries.{Entry, Pool, utf8, class, string, name_and_type, fieldref}
use Rattle.desk_gen.specs.declared.entries.Entry.{Entry as Held}
use Rattle.desk_gen.specs.declared.entries.Entry.TheVariants as held

abbrev pub entry_of : Held → Entry
entry_of (held.Utf8 text) = utf8 text.now
entry_of (held.Class i) = class i
entry_of (held.String i) = string i
entry_of (held.NameAndType i j) = name_and_type i j
entry_of (held.Fieldref i j) = fieldref i j

abbrev pub slots_of : List Held → Pool
slots_of = map (λ e. Some (entry_of e))

-- a text whose length two bytes hold
abbrev pub IsShort : Held → Type 0
IsShort (held.Utf8 text) = length text.now < 2 ^ 16
IsShort _ = Unit {0}

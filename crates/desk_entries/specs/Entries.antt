-- What a key and its value say in each rule file, or the fault: of the key where it hasn't its form, and else of the value.
use Rattle.std.specs.Prelude.{◌≡◌, ⊤, Bool, not, ◌&&◌, ◌||◌, ◌==◌, [], ◌∷◌, Some, None, Result, Ok, Err, if◌then◌else◌}
use Rattle.std.specs.List.{list_any, before_first, after_first}
use Rattle.desk_base.specs.Names.{Text, segments, dot, is_dotted, is_empty}
use Rattle.desk_lines.specs.Blanks.{trimmed_end}
use Rattle.desk_entries.specs.Forms.{is_semicolon, reach_of, source_text, is_symbolic_name, is_version, is_plain, is_stored, is_written_package}
use Rattle.desk_entries.specs.declared.faults.EntryFault.{EntryFault}
use Rattle.desk_entries.specs.declared.faults.EntryFault.TheVariants.{Key, Value}
use Rattle.desk_entries.specs.declared.faults.EntryError.{EntryError}
use Rattle.desk_entries.specs.declared.faults.EntryError.TheVariants.{Fault, Memory}
use Rattle.desk_entries.specs.declared.renames.Rename.{Rename}
use Rattle.desk_entries.specs.declared.versions.Versions.{Versions}
use Rattle.desk_entries.specs.declared.bundles.Update.{Update}
use Rattle.desk_packages.specs.declared.Reach.{Reach}
use Rattle.desk_patterns.specs.declared.selections.Mark.{Mark}
use Rattle.desk_patterns.specs.declared.selections.Mark.TheVariants.{Include, Exclude}

-- the fault of an entry; want of memory comes freely
abbrev pub IsError : {A : Type 0} → Result A EntryFault → EntryError → Type 0
IsError read (Fault fault) = read ≡ Err fault
IsError read Memory = ⊤

-- ---- renames.properties: a package, or `a.b.*` for those below it too; and the new package, which is modified UTF-8, as a
-- ---- class file stores texts (JVMS 4.4.7)

abbrev pub rename_between : Reach → Text → Text → Result Rename EntryFault
rename_between reach source target =
    if not (is_written_package source) then Err Key
    else if not (is_written_package target) then Err Value
    else Ok (record { source = segments dot source; target = segments dot target; reach = reach })

abbrev pub rename_of : Text → Text → Result Rename EntryFault
rename_of key value = rename_between (reach_of key) (source_text key) (trimmed_end value)

-- ---- versions.properties: a package; and a version, or one for imports, `;` and one for exports

abbrev pub versions_between : Text → Text → Result Versions EntryFault
versions_between imported exported =
    if is_version imported && is_version exported then Ok (record { imported = imported; exported = exported }) else Err Value

abbrev pub versions_in : Text → Result Versions EntryFault
versions_in value =
    if list_any is_semicolon value
    then versions_between (before_first is_semicolon value) (after_first is_semicolon value)
    else versions_between value value

abbrev pub versions_of : Text → Text → Result Versions EntryFault
versions_of key value = if not (is_dotted key) then Err Key else versions_in (trimmed_end value)

-- ---- bundles.properties: a symbolic name; and the new one, or the new one, `;` and a version

abbrev pub plain_update : Text → Result Update EntryFault
plain_update name = if is_symbolic_name name then Ok (record { name = name; version = None }) else Err Value

abbrev pub update_with : Text → Text → Result Update EntryFault
update_with name version =
    if is_symbolic_name name && is_version version then Ok (record { name = name; version = Some version }) else Err Value

abbrev pub update_in : Text → Result Update EntryFault
update_in value =
    if list_any is_semicolon value
    then update_with (before_first is_semicolon value) (after_first is_semicolon value)
    else plain_update value

abbrev pub update_of : Text → Text → Result Update EntryFault
update_of key value = if not (is_symbolic_name key) then Err Key else update_in (trimmed_end value)

-- ---- direct.properties: a string that isn't empty; and the new one, which is modified UTF-8, as a class file stores texts
-- ---- (JVMS 4.4.7)

abbrev pub string_check : Text → Text → Result ⊤ EntryFault
string_check key value =
    if is_empty key || not (is_plain key) then Err Key
    else if not (is_plain value) || not (is_stored value) then Err Value
    else Ok tt

-- ---- selection.properties: a pattern; and nothing, or `!`

abbrev pub mark_in : Text → Result Mark EntryFault
mark_in [] = Ok Include
mark_in (b ∷ []) = if b == 33 then Ok Exclude else Err Value
mark_in (b ∷ c ∷ t) = Err Value

abbrev pub mark_of : Text → Text → Result Mark EntryFault
mark_of key value = if is_empty key then Err Key else mark_in (trimmed_end value)

-- ---- text.properties: a pattern; and the name of a file of text rules

abbrev pub text_name_of : Text → Text → Result Text EntryFault
text_name_of key value = if is_empty key then Err Key else Ok (trimmed_end value)

-- ---- text rules: a text that isn't empty; and any text

abbrev pub text_rule_check : Text → Result ⊤ EntryFault
text_rule_check key = if is_empty key then Err Key else Ok tt

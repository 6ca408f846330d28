-- What the entries of rule files say, or the first fault.
use Rattle.std.specs.Prelude.{List, [], ◌∷◌, Option, Some, None, Result, Ok, Err, ⊤}
use Rattle.std.specs.Cmp.Lexicographic.{slice_cmp}
use Rattle.std.specs.Ordering.{nat_cmp}
use Rattle.std.specs.FinMap as finite
use Rattle.desk_base.specs.Names.{Text}
use Rattle.desk_properties.specs.Properties.{Entry, properties}
use Rattle.desk_properties.specs.declared.PropFault.{PropFault}
use Rattle.desk_entries.specs.Entries.{rename_of, versions_of, update_of, string_check, mark_of}
use Rattle.desk_entries.specs.declared.faults.EntryFault.{EntryFault}
use Rattle.desk_entries.specs.declared.faults.EntryFault.TheVariants.{Key, Value}
use Rattle.desk_entries.specs.declared.renames.Rename.{Rename}
use Rattle.desk_patterns.specs.Selections.{Choice, is_exclude}
use Rattle.desk_patterns.specs.declared.selections.Mark.{Mark}
use Rattle.desk_rules.specs.Files.{Files, renames_name}
use Rattle.desk_packages.specs.Renames.{Renaming}
use Rattle.desk_packages.specs.Keys.{renaming, goes_below}
use Rattle.desk_rules.specs.Rules.{Rules, Versions}
use Rattle.desk_chains.specs.Chains.{Chain as FoundChain}
use Rattle.desk_entries.specs.Exchanges.{Exchange, BundleUpdate}
use Rattle.desk_rules.specs.Settled.{first_chain}
use Rattle.desk_rules.specs.declared.RuleFault.{RuleFault}
use Rattle.desk_rules.specs.declared.RuleFault.TheVariants.{NoRenames, Properties, BadKey, BadValue, Chain}

-- what comes of a value, or the fault before it
infixl 10 ◌>>=◌
abbrev pub ◌>>=◌ : {A B F : Type 0} → Result A F → (A → Result B F) → Result B F
Ok a >>= f = f a
Err fault >>= f = Err fault

-- the entries of a file, of which a missing file has none
abbrev pub entries_or : Text → Result (List Entry) PropFault → Result (List Entry) RuleFault
entries_or file (Ok entries) = Ok entries
entries_or file (Err fault) = Err (Properties file fault)

abbrev pub entries_of : Text → Option Text → Result (List Entry) RuleFault
entries_of file None = Ok []
entries_of file (Some content) = entries_or file (properties content)

abbrev pub entries_in : Files → Text → Result (List Entry) RuleFault
entries_in files file = entries_of file (finite.get files file)

-- entries in byte order of their keys
abbrev pub in_order : List Entry → List Entry
in_order entries = finite.entries (finite.from_entries {R = slice_cmp nat_cmp} entries)

-- the fault of a key, or of its value
abbrev pub fault_at : Text → Text → EntryFault → RuleFault
fault_at file key Key = BadKey file key
fault_at file key Value = BadValue file key

abbrev pub with_first : {X : Type 0} → Text → Text → Result X EntryFault → Result (List X) RuleFault → Result (List X) RuleFault
with_first file key (Err fault) rest = Err (fault_at file key fault)
with_first file key (Ok x) (Err fault) = Err fault
with_first file key (Ok x) (Ok xs) = Ok (x ∷ xs)

-- what each entry of a file says, in turn, or the first fault
abbrev pub each : {X : Type 0} → Text → (Text → Text → Result X EntryFault) → List Entry → Result (List X) RuleFault
each file read [] = Ok []
each file read (e ∷ es) = with_first file e.0 (read e.0 e.1) (each file read es)

-- what an entry says, in the terms of rules
abbrev pub renaming_from : Result Rename EntryFault → Result Renaming EntryFault
renaming_from (Ok r) = Ok (renaming r.source r.target (goes_below r.reach))
renaming_from (Err fault) = Err fault

abbrev pub rename_entry : Text → Text → Result Renaming EntryFault
rename_entry key value = renaming_from (rename_of key value)

-- a value with its key
abbrev pub keyed : {X : Type 0} → Text → Result X EntryFault → Result (Text × X) EntryFault
keyed key (Ok x) = Ok (key, x)
keyed key (Err fault) = Err fault

abbrev pub versions_entry : Text → Text → Result (Text × Versions) EntryFault
versions_entry key value = keyed key (versions_of key value)

abbrev pub update_entry : Text → Text → Result BundleUpdate EntryFault
update_entry key value = keyed key (update_of key value)

-- a value, where a test of it passes
abbrev pub where_ok : {X : Type 0} → Result ⊤ EntryFault → X → Result X EntryFault
where_ok (Ok _) x = Ok x
where_ok (Err fault) x = Err fault

abbrev pub direct_entry : Text → Text → Result Exchange EntryFault
direct_entry key value = where_ok (string_check key value) (key, value)

-- a pattern of the selection, and whether it excludes
abbrev pub choice_from : Text → Result Mark EntryFault → Result Choice EntryFault
choice_from key (Ok mark) = Ok (key, is_exclude mark)
choice_from key (Err fault) = Err fault

abbrev pub selection_entry : Text → Text → Result Choice EntryFault
selection_entry key value = choice_from key (mark_of key value)

-- the renames, of which there is one at least
abbrev pub renames_of : List Entry → Result (List Renaming) RuleFault
renames_of [] = Err NoRenames
renames_of (e ∷ es) = each renames_name rename_entry (in_order (e ∷ es))

abbrev pub renames_in : Files → Result (List Renaming) RuleFault
renames_in files = entries_in files renames_name >>= renames_of

-- what the entries of a file say, in byte order of their keys
abbrev pub all_in : {X : Type 0} → Files → Text → (Text → Text → Result X EntryFault) → Result (List X) RuleFault
all_in files file read = entries_in files file >>= (λ entries. each file read (in_order entries))

-- the rules themselves where they are settled, else their first chain
abbrev pub unless_chain : Rules → Option FoundChain → Result Rules RuleFault
unless_chain rules None = Ok rules
unless_chain rules (Some chain) = Err (Chain chain.kind chain.first chain.second)

abbrev pub settled : Rules → Result Rules RuleFault
settled rules = unless_chain rules (first_chain rules)

-- The rules of a whole rule folder, or its first fault.
use Rattle.std.specs.Prelude.{Result}
use Rattle.desk_rules.specs.Files.{Files, versions_name, bundles_name, direct_name, selection_name}
use Rattle.desk_rules.specs.Rules.{Rules}
use Rattle.desk_rules.specs.RuleSets.{rules_of}
pub use Rattle.desk_rules.specs.Reads.{◌>>=◌, entries_or, entries_of, entries_in, in_order, fault_at, with_first, each, renaming_from, rename_entry, keyed, versions_entry, update_entry, where_ok, direct_entry, choice_from, selection_entry, renames_of, renames_in, all_in, unless_chain, settled}
use Rattle.desk_rules.specs.TextFiles.{texts_in}
use Rattle.desk_rules.specs.declared.RuleFault.{RuleFault}

-- the rules of rule files, or their first fault: file by file, in each file first as properties, then key by key in byte
-- order; chains come last
abbrev pub rules_of_files : Files → Result Rules RuleFault
rules_of_files files = do
  renames ← renames_in files
  versions ← all_in files versions_name versions_entry
  bundles ← all_in files bundles_name update_entry
  direct ← all_in files direct_name direct_entry
  selection ← all_in files selection_name selection_entry
  texts ← texts_in files
  settled (rules_of renames versions bundles direct selection texts)

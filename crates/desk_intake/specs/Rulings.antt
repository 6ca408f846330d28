-- The rules of a rule folder, and their digest.
use Rattle.std.specs.Prelude.{◌++◌, List, [], ◌∷◌, length, Option, Some, None, Result, Ok, Err}
use Rattle.std.specs.FinMap as fin
use Rattle.std.specs.Int.{w32, w64, to_be_bytes}
use Rattle.std.specs.List.{flat_map}
use Rattle.desk_base.specs.Names.{Text}
use Rattle.desk_folders.specs.Contents.{File}
use Rattle.desk_ledger.specs.Digests.{digest}
use Rattle.desk_report.specs.declared.status.Status.{Status}
use Rattle.desk_report.specs.declared.status.Status.TheVariants.{BadRules}
use Rattle.desk_rules.specs.Files.{Files}
use Rattle.desk_rules.specs.RuleFiles.{rules_of_files}
use Rattle.desk_rules.specs.Rules.{Rules}
use Rattle.desk_rules.specs.declared.RuleFault.{RuleFault}
use Rattle.desk_intake.specs.Limits.{rule_files_answer}
use Rattle.desk_intake.specs.declared.rules.DigestedRules.{DigestedRules}

-- files with these added in their order, each under its name
abbrev pub adding_files : Files → List File → Files
adding_files files [] = files
adding_files files (file ∷ more) = adding_files (fin.insert files file.path file.bytes) more

-- files by their names
abbrev pub named_files : List File → Files
named_files = adding_files fin.empty

-- a rule file in what the digest of the rules is taken of: its name and its content, each behind its
-- length, which has eight bytes and four, big-endian
abbrev pub digest_entry : File → Text
digest_entry file = to_be_bytes w64 (length file.path) ++ (file.path ++ (to_be_bytes w32 (length file.bytes) ++ file.bytes))

-- rules with the digest of the files that they are the rules of
abbrev pub ruled_with : Rules → List File → DigestedRules
ruled_with rules files = record { rules = rules; digest = digest (flat_map digest_entry files) }

abbrev pub with_digest : List File → Result Rules RuleFault → Result DigestedRules Status
with_digest files (Ok rules) = Ok (ruled_with rules files)
with_digest files (Err fault) = Err (BadRules fault)

abbrev pub ruled_by : Option Status → List File → Result DigestedRules Status
ruled_by (Some status) files = Err status
ruled_by None files = with_digest files (rules_of_files (named_files files))

-- the rules of the files of a rule folder, in byte order of their names
abbrev pub ruled : Text → List File → Result DigestedRules Status
ruled root files = ruled_by (rule_files_answer root files) files

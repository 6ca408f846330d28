-- Rule files as they are taken in, one by one, and all files of a rule folder.
use Rattle.std.specs.Prelude.{◌≡◌, ◌≤◌, List, [], ◌∷◌, length, map, Option, Some, None}
use Rattle.std.specs.FinMap as fin
use Rattle.desk_base.specs.Limits.{rule_size}
use Rattle.desk_base.specs.Names.{Text}
use Rattle.desk_folders.specs.Contents.{Contents, File, files_below}
use Rattle.desk_rules.specs.Files.{Files}
use Rattle.desk_intake.specs.Limits.{rule_files_answer, rule_size_answer}
use Rattle.desk_intake.specs.Rulings.{named_files}
use Rattle.desk_intake.specs.declared.rules.RuleFolder.{RuleFolder}

-- one more rule file is taken in
pub record Takes (file : File) (old new : Files) : Type 0 where
  pub small : length file.bytes ≤ rule_size
  pub files : new ≡ fin.insert old file.path file.bytes

-- the rule files below a root are taken in, and none is too large
pub record HasTakenAll (root : Text) (m : Contents) (files : Files) : Type 0 where
  pub small : rule_size_answer (files_below root m) ≡ None
  pub named : files ≡ named_files (files_below root m)

abbrev pub bytes_or_none : Option Text → Text
bytes_or_none None = []
bytes_or_none (Some bytes) = bytes

-- the file of this name, with no bytes where there is none
abbrev pub file_named : Files → Text → File
file_named files name = record { path = name; bytes = bytes_or_none (fin.get files name) }

-- the files of a rule folder, in the order of their names
abbrev pub files_in : RuleFolder → List File
files_in folder = map (file_named folder.files) folder.names

-- the rule files below a root were read, and nothing stands against them
pub record HasReadRules (root : Text) (m : Contents) (folder : RuleFolder) : Type 0 where
  pub clear : rule_files_answer root (files_below root m) ≡ None
  pub named : folder.files ≡ named_files (files_below root m)
  pub each : files_in folder ≡ files_below root m

-- no file has one of these names
abbrev pub Free : Files → List Text → Type 0
Free files [] = Unit {0}
Free files (name ∷ names) = (fin.get files name ≡ None) × Free files names

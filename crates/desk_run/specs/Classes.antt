-- What becomes of the classes of a run.
use Rattle.std.specs.Prelude.{◌≡◌, ◌⊎◌, ◌++◌, Bool, true, false, ◌&&◌, List, ◌∷◌, Option, Some, Ok}
use Rattle.std.specs.FinMap as fin
use Rattle.desk_base.specs.Names.{Text}
use Rattle.desk_base.specs.Paths.{full}
use Rattle.desk_folders.specs.Contents.{Contents, File, files_below}
use Rattle.desk_format.specs.Classes.{Class, read_class}
use Rattle.desk_format.specs.NewClass.{new_class, new_bytes}
use Rattle.desk_follow.specs.RuleImages.{images_of}
use Rattle.desk_laws.specs.Classes.{IsRenamedClass, IsUnchangedClass}
use Rattle.desk_kept_code.specs.Kept.{KeepsCodes}
use Rattle.desk_ledger.specs.Ledger.{Ledger}
use Rattle.desk_file.specs.declared.images.Image.{Image}
use Rattle.desk_paths.specs.Kinds.{kind_of}
use Rattle.desk_patterns.specs.Selections.{selects}
use Rattle.desk_report.specs.declared.status.Status.{Status}
use Rattle.desk_report.specs.declared.status.Status.TheVariants.{Done, Refusals}
use Rattle.desk_rules.specs.Rules.{Rules}
use Rattle.desk_follow.specs.Follow.{HasImagesOfNames}
use Rattle.desk_file.specs.ClassScans.{is_class_kind}
use Rattle.desk_words.specs.declared.roots.Roots.{Roots}
use Rattle.desk_run.specs.Asked.{Asked}
use Rattle.desk_intake.specs.Rulings.{ruled as ruled_of}
use Rattle.desk_intake.specs.declared.rules.DigestedRules.{DigestedRules}
use Rattle.desk_run.specs.Meaning.{run_of, run_of_asked}
use Rattle.desk_run.specs.Runs.{Run, is_kept_file}
use Rattle.desk_run.specs.Truth.{IsTrusted}

-- a path of a class that is selected
abbrev pub is_selected_class : Rules → Text → Bool
is_selected_class rules path = selects rules.selection path && is_class_kind (kind_of path)

-- Bytes are a well-formed class, and what is held is its new class: it is well-formed, its resolved tree is the renamed one,
-- and its pool keeps the old positions and grows by the missing texts alone; it holds exactly the images of the class names
-- that the old one holds; its code arrays are those of the old one, which read or fail alike, with the same instructions, and
-- the index of each leads to the renamed value; renaming it once more changes nothing.
pub record HoldsNewClass (rules : Rules) (bytes : Text) (held : Option Text) : Type 0 where
  pub class : Class
  pub reads : read_class bytes ≡ Ok class
  pub holds : held ≡ Some (new_bytes (images_of rules) bytes class)
  pub renamed : IsRenamedClass (images_of rules) bytes class
  pub names : HasImagesOfNames rules.renames class (new_class (images_of rules) class)
  pub codes : KeepsCodes (images_of rules) bytes class
  pub again : IsUnchangedClass (images_of rules) (new_bytes (images_of rules) bytes class) (new_class (images_of rules) class)

-- the target of each selected class that is accepted holds its new class; of a kept file where the ledger was true, or the run verifies
abbrev pub HoldsClasses : Run → Rules → Contents → Ledger → Contents → Type 0
HoldsClasses run rules m0 l0 m = (before rest : List File) (file : File) (image : Image) → files_below run.from m0 ≡ before ++ file ∷ rest
    → is_selected_class rules file.path ≡ true → run.image file.path file.bytes ≡ Ok image → IsTrusted run m0 l0 ⊎ (is_kept_file run l0.rows file ≡ false)
    → HoldsNewClass rules file.bytes (fin.get m (full run.to (run.target file.path)))

-- by the rules that the files below the rule root of the run that was asked for are, the targets hold the new classes
pub record RenamesClasses (asked : Asked) (m0 : Contents) (l0 : Ledger) (m : Contents) : Type 0 where
  pub roots : Roots
  pub ruled : DigestedRules
  pub asks : asked ≡ Ok roots
  pub rules : ruled_of roots.rules (files_below roots.rules m0) ≡ Ok ruled
  pub is : run_of_asked asked m0 ≡ Ok (run_of roots ruled m0)
  pub classes : HoldsClasses (run_of roots ruled m0) ruled.rules m0 l0 m

-- classes: after a run that completes
abbrev pub Classes : Asked → Contents → Ledger → Contents → Status → Type 0
Classes asked m0 l0 m Done = RenamesClasses asked m0 l0 m
Classes asked m0 l0 m Refusals = RenamesClasses asked m0 l0 m
Classes asked m0 l0 m _ = Unit {0}

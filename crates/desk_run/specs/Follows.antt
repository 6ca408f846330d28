-- References follow, and a second migration changes nothing: after a run that completes.
use Rattle.std.specs.Prelude.{◌≡◌, true, List, Contains, Ok}
use Rattle.desk_class.specs.Parts.{name_in}
use Rattle.desk_folders.specs.Contents.{Contents, File, files_below}
use Rattle.desk_file.specs.ClassScans.{is_class_kind}
use Rattle.desk_format.specs.Classes.{Class, read_class}
use Rattle.desk_paths.specs.Kinds.{kind_of}
use Rattle.desk_rename.specs.Images.{cls}
use Rattle.desk_file.specs.declared.images.Image.{Image}
use Rattle.desk_report.specs.declared.status.Status.{Status}
use Rattle.desk_report.specs.declared.status.Status.TheVariants.{Done, Refusals}
use Rattle.desk_rules.specs.Rules.{Rules}
use Rattle.desk_second.specs.Second.{Follows, AreImages, IsMigrated}
use Rattle.desk_words.specs.declared.roots.Roots.{Roots}
use Rattle.desk_intake.specs.Rulings.{ruled as ruled_of}
use Rattle.desk_intake.specs.declared.rules.DigestedRules.{DigestedRules}
use Rattle.desk_run.specs.Classes.{is_selected_class}
use Rattle.desk_run.specs.Meaning.{run_of, run_of_asked}
use Rattle.desk_run.specs.Asked.{Asked}
use Rattle.desk_run.specs.Runs.{Run}

-- The image of each selected class that is accepted defines the image of its name, and holds the image of a name that the files
-- define exactly where the class holds that name; a class that isn't selected defines the image of its name, too. Migrating accepted images of these files at their targets changes nothing:
-- the image of each is itself, at its own path, no two targets and no two names clash, and no class is stranded.
pub record FollowOver (run : Run) (rules : Rules) (files : List File) : Type 0 where
  pub follow : (file : File) (image : Image) → Contains files file → is_selected_class rules file.path ≡ true → run.image file.path file.bytes ≡ Ok image
      → Follows rules files file.bytes image.bytes
  pub defines : (file : File) (image : Image) (c : Class) → Contains files file → is_class_kind (kind_of file.path) ≡ true → read_class file.bytes ≡ Ok c → run.image file.path file.bytes ≡ Ok image
      → name_in image.bytes ≡ cls rules.renames (name_in file.bytes)
  pub twice : (images : List File) → AreImages rules files images → IsMigrated rules images

-- by the rules that the files below the rule root of the run that was asked for are, references follow
pub record ReferencesFollow (asked : Asked) (m0 : Contents) : Type 0 where
  pub roots : Roots
  pub ruled : DigestedRules
  pub asks : asked ≡ Ok roots
  pub rules : ruled_of roots.rules (files_below roots.rules m0) ≡ Ok ruled
  pub is : run_of_asked asked m0 ≡ Ok (run_of roots ruled m0)
  pub over : FollowOver (run_of roots ruled m0) ruled.rules (files_below roots.from m0)

-- follow: after a run that completes
abbrev pub Follow : Asked → Contents → Status → Type 0
Follow asked m0 Done = ReferencesFollow asked m0
Follow asked m0 Refusals = ReferencesFollow asked m0
Follow asked m0 _ = Unit {0}

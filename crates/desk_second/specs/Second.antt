-- References follow, and a second migration changes nothing.
use Rattle.std.specs.Prelude.{◌≡◌, ◌↔◌, true, List, Contains, Ok, None}
use Rattle.std.specs.List.{AllByRecursion}
use Rattle.desk_base.specs.Names.{Text}
use Rattle.desk_clashes.specs.Clashes.{first_clash}
use Rattle.desk_class.specs.Held.{Holds}
use Rattle.desk_class.specs.Parts.{name_in}
use Rattle.desk_file.specs.Images.{target}
use Rattle.desk_file.specs.Images.{image as image_at}
use Rattle.desk_file.specs.declared.images.Image.{Image}
use Rattle.desk_folders.specs.Contents.{File}
use Rattle.desk_format.specs.Classes.{Class, read_class}
use Rattle.desk_graph.specs.Application.{defined_names, name_clash, stranded}
use Rattle.desk_packages.specs.Keys.{RiseBy}
use Rattle.desk_paths.specs.declared.Kind.TheVariants as kinds
use Rattle.desk_paths.specs.Kinds.{kind_of}
use Rattle.desk_patterns.specs.PatternTexts.{PatternText}
use Rattle.desk_patterns.specs.Selections.{selects}
use Rattle.desk_patterns.specs.TextRules.{HaveSources}
use Rattle.desk_rename.specs.Images.{cls}
use Rattle.desk_rules.specs.Rules.{Rules}
use Rattle.desk_rules.specs.RuleSets.{IsRuleSet}
use Rattle.desk_rules.specs.Files.{Files}
use Rattle.desk_rules.specs.RuleFiles.{rules_of_files}
use Rattle.desk_second.specs.Applications.{classes_of, targets_of, AreBytes}

-- ---- references follow

-- the image of a class defines the image of its name, and holds the image of a defined name exactly where the class holds it
pub record Follows (rules : Rules) (files : List File) (bytes new : Text) : Type 0 where
  pub defines : name_in new ≡ cls rules.renames (name_in bytes)
  pub holds : (m : Text) → Contains (defined_names (classes_of rules files)) m → Holds bytes m ↔ Holds new (cls rules.renames m)

-- for each selected class that is accepted
abbrev pub ReferencesFollow : Type 0
ReferencesFollow = (rules : Rules) (files : List File) → IsRuleSet rules → AreBytes files → name_clash (cls rules.renames) (classes_of rules files) ≡ None
    → (file : File) (image : Image) → Contains files file → selects rules.selection file.path ≡ true → kind_of file.path ≡ kinds.Class → image_at rules file.path file.bytes ≡ Ok image → Follows rules files file.bytes image.bytes

-- Where no class is stranded, the image of each well-formed class that is accepted defines the image of its name. The class may
-- be selected or not.
abbrev pub DefinitionsFollow : Type 0
DefinitionsFollow = (rules : Rules) (files : List File) → IsRuleSet rules → AreBytes files → stranded (cls rules.renames) (classes_of rules files) ≡ None
    → (file : File) (image : Image) (c : Class) → Contains files file → kind_of file.path ≡ kinds.Class → read_class file.bytes ≡ Ok c → image_at rules file.path file.bytes ≡ Ok image
    → name_in image.bytes ≡ cls rules.renames (name_in file.bytes)

-- ---- a second migration

-- each text rule has a source that isn't empty
abbrev pub TextsHaveSources : Rules → Type 0
TextsHaveSources rules = AllByRecursion (λ (entry : PatternText). HaveSources entry.1) rules.texts

-- a rule set whose text rules have sources
pub record AreRules (rules : Rules) : Type 0 where
  pub settled : IsRuleSet rules
  pub sources : TextsHaveSources rules

-- the rules that rule files make, where they are a rule set
abbrev pub RulesOfFiles : Type 0
RulesOfFiles = (files : Files) (rules : Rules) → rules_of_files files ≡ Ok rules → IsRuleSet rules → AreRules rules

-- a file is the accepted image of another, at its target
pub record IsImageOf (rules : Rules) (files : List File) (new : File) : Type 0 where
  pub file : File
  pub there : Contains files file
  pub image : Image
  pub accepted : image_at rules file.path file.bytes ≡ Ok image
  pub path : new.path ≡ target rules file.path
  pub bytes : new.bytes ≡ image.bytes

-- accepted images of these files, in byte order of their paths
pub record AreImages (rules : Rules) (files images : List File) : Type 0 where
  pub each : (new : File) → Contains images new → IsImageOf rules files new
  pub rise : RiseBy (λ (file : File). file.path) images

-- the image of a file is itself, at its own path
pub record IsOwnFile (rules : Rules) (file : File) : Type 0 where
  pub image : Image
  pub accepted : image_at rules file.path file.bytes ≡ Ok image
  pub bytes : image.bytes ≡ file.bytes
  pub path : target rules file.path ≡ file.path

-- migrating these files changes nothing, and nothing stands against it
pub record IsMigrated (rules : Rules) (files : List File) : Type 0 where
  pub each : (file : File) → Contains files file → IsOwnFile rules file
  pub targets : first_clash (targets_of rules files) ≡ None
  pub names : name_clash (cls rules.renames) (classes_of rules files) ≡ None
  pub classes : stranded (cls rules.renames) (classes_of rules files) ≡ None

-- for each application whose targets don't clash and whose classes aren't stranded
abbrev pub SecondMigration : Type 0
SecondMigration = (rules : Rules) (files images : List File) → AreRules rules → AreBytes files → first_clash (targets_of rules files) ≡ None → stranded (cls rules.renames) (classes_of rules files) ≡ None → AreImages rules files images
    → IsMigrated rules images

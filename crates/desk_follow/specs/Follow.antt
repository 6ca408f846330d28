-- What the new class of a class holds.
use Rattle.std.specs.Prelude.{◌≡◌, true, List, map, Contains, Ok}
use Rattle.desk_base.specs.Names.{Text, is_class_name}
use Rattle.desk_format.specs.Laws.{IsBytes}
use Rattle.desk_format.specs.Classes.{Class, read_class}
use Rattle.desk_format.specs.NewClass.{new_class}
use Rattle.desk_laws.specs.Classes.{IsRenamedClass}
use Rattle.desk_class.specs.Held.{held_names}
use Rattle.desk_class.specs.Parts.{class_name}
use Rattle.desk_packages.specs.Renames.{Renaming}
use Rattle.desk_rules.specs.Rules.{Rules}
use Rattle.desk_rules.specs.RuleSets.{IsRuleSet}
use Rattle.desk_rename.specs.Images.{cls}
use Rattle.desk_follow.specs.RuleImages.{images_of}

-- What the new class holds are the images of what the old one holds, and its name is the image of the old one's. The name of
-- a class is a class name that it holds.
pub record HasImagesOfNames (renames : List Renaming) (old new : Class) : Type 0 where
  pub held : held_names new ≡ map (cls renames) (held_names old)
  pub name : class_name new ≡ cls renames (class_name old)
  pub named : is_class_name (class_name old) ≡ true
  pub own : Contains (held_names old) (class_name old)

-- For each well-formed class whose new class has the renamed tree and pool, under each rule set.
abbrev pub NamesFollow : Type 0
NamesFollow = (rules : Rules) (bytes : Text) (c : Class) → IsRuleSet rules → IsBytes bytes → read_class bytes ≡ Ok c → IsRenamedClass (images_of rules) bytes c
    → HasImagesOfNames rules.renames c (new_class (images_of rules) c)

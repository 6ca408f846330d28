-- What the image of a class is to the class.
use Rattle.std.specs.Prelude.{◌≡◌, Ok}
use Rattle.desk_base.specs.Names.{Text}
use Rattle.desk_format.specs.Classes.{Class, read_class}
use Rattle.desk_format.specs.NewClass.{new_bytes, new_class}
use Rattle.desk_follow.specs.Follow.{HasImagesOfNames}
use Rattle.desk_follow.specs.RuleImages.{images_of}
use Rattle.desk_laws.specs.Classes.{IsRenamedClass, IsUnchangedClass}
use Rattle.desk_rules.specs.Rules.{Rules}

-- The bytes are a well-formed class, and the image's are its new class: it is well-formed, its resolved tree is the renamed one,
-- and its pool keeps the old positions and grows by the missing texts alone; it holds exactly the images of the class names that
-- the old one holds; renaming it once more changes nothing.
pub record IsNewClassOf (rules : Rules) (bytes image : Text) : Type 0 where
  pub class : Class
  pub reads : read_class bytes ≡ Ok class
  pub is : image ≡ new_bytes (images_of rules) bytes class
  pub renamed : IsRenamedClass (images_of rules) bytes class
  pub names : HasImagesOfNames rules.renames class (new_class (images_of rules) class)
  pub again : IsUnchangedClass (images_of rules) image (new_class (images_of rules) class)

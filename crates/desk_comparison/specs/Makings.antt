-- What the files of an application have become so far.
use Rattle.std.specs.Prelude.{◌≡◌, ◌||◌, List, [], ◌++◌, None, false, length, map, if◌then◌else◌}
use Rattle.desk_base.specs.Names.{Text}
use Rattle.desk_compare.specs.Deciding.{verdict_of}
use Rattle.desk_file.specs.Images.{target}
use Rattle.desk_file.specs.Linked.{image_in}
use Rattle.desk_folders.specs.Contents.{File}
use Rattle.desk_folders.specs.declared.folders.GenFile.{GenFile}
use Rattle.desk_report.specs.declared.status.Status.{Status}
use Rattle.desk_report.specs.declared.status.Status.TheVariants.{Refusals}
use Rattle.desk_rules.specs.Rules.{Rules}
use Rattle.desk_comparison.specs.Answers.{told_verdict}
use Rattle.desk_comparison.specs.Images.{Imaging, as_file, image_answer, is_refused, is_too_large, refusal_of, refusals, some_refused, with_image, with_images}
use Rattle.desk_comparison.specs.declared.made.Made.{Made}

-- of these files the images stand at their targets and the others have their lines, and no image has too many bytes
pub record HasMade (target : Text → Text) (image : Imaging) (files : List File) (made : Made) : Type 0 where
  pub images : made.images.entries ≡ with_images target image files []
  pub lines : made.lines ≡ refusals image files
  pub refused : made.refused ≡ some_refused image files
  pub fit : image_answer image files ≡ None

-- by rules, in an application that defines these names
abbrev pub MadeBy : Rules → List Text → List File → Made → Type 0
MadeBy rules defined = HasMade (target rules) (image_in rules defined)

-- one file more: its image stands at its target, or it has its line; and its image hasn't too many bytes
pub record MakesOne (rules : Rules) (defined : List Text) (file : File) (old new : Made) : Type 0 where
  pub images : new.images.entries ≡ with_image (target rules file.path) (image_in rules defined file.path file.bytes) old.images.entries
  pub lines : new.lines ≡ old.lines ++ refusal_of (image_in rules defined) file
  pub refused : new.refused ≡ old.refused || is_refused (image_in rules defined) file
  pub fits : is_too_large (image_in rules defined file.path file.bytes) ≡ false

-- what is told of what was made, and of the files of the other application
abbrev pub told_of : Made → List GenFile → Text × Status
told_of made others =
    if made.refused then (made.lines, Refusals) else told_verdict (length others) (verdict_of (map as_file made.images.entries) others)

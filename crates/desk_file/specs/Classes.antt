-- What a class becomes.
use Rattle.std.specs.Prelude.{Option, Some, None, Result, Ok, Err, length}
use Rattle.desk_base.specs.Names.{Text}
use Rattle.desk_base.specs.declared.faults.Malformed.{Malformed}
use Rattle.desk_format.specs.Classes.{Class, class_uses, read_class}
use Rattle.desk_format.specs.NewClass.{Refusal, refusal, new_bytes}
use Rattle.desk_format.specs.NewPool.{added}
use Rattle.desk_report.specs.declared.lines.Detail.TheVariants as detail
use Rattle.desk_report.specs.declared.lines.Reason.{Reason}
use Rattle.desk_report.specs.declared.lines.Reason.TheVariants as reason
use Rattle.desk_rewrite.specs.Counts.{renamed_count, odd_count}
use Rattle.desk_follow.specs.RuleImages.{images_of}
use Rattle.desk_rules.specs.Rules.{Rules}
use Rattle.desk_file.specs.declared.images.Image.{Image}

-- why a class has no new one
abbrev pub reason_of : Refusal → Reason
reason_of (Refusal.overlong index size) = reason.Overlong index size
reason_of (Refusal.pool_full count needed) = reason.PoolFull count needed
reason_of (Refusal.twins first second) = reason.Twins first second

-- the new class, with how many of its uses changed, how many texts were added, and how many signatures are odd
abbrev pub renamed_image : Rules → Text → Class → Image
renamed_image rules bytes c = record {
  bytes = new_bytes (images_of rules) bytes c;
  detail = detail.Class (renamed_count (images_of rules) c) (length (added (images_of rules) c.pool (class_uses c))) (odd_count c) 0;
}

abbrev pub unless_refused : Image → Option Refusal → Result Image Reason
unless_refused image None = Ok image
unless_refused image (Some r) = Err (reason_of r)

abbrev pub image_of_read : Rules → Text → Result Class Malformed → Result Image Reason
image_of_read rules bytes (Ok c) = unless_refused (renamed_image rules bytes c) (refusal (images_of rules) c)
image_of_read rules bytes (Err fault) = Err (reason.Malformed fault)

-- the image of a class: the new class; or its first fault where it isn't well-formed, or what refuses a new one
unfoldable pub class_image : Rules → Text → Result Image Reason
class_image rules bytes = image_of_read rules bytes (read_class bytes)

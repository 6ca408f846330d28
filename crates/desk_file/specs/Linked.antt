-- What becomes of a file in its application. It differs from the image of the file alone in one number: the detail of a class
-- counts the defined names that the class holds.
use Rattle.std.specs.Prelude.{ℕ, List, length, Result, Ok, Err, if◌then◌else◌}
use Rattle.desk_base.specs.Names.{Text}
use Rattle.desk_graph.specs.Graphs.{links_of}
use Rattle.desk_patterns.specs.Selections.{selects}
use Rattle.desk_paths.specs.declared.Kind.{Kind}
use Rattle.desk_paths.specs.declared.Kind.TheVariants as kind
use Rattle.desk_paths.specs.Kinds.{kind_of}
use Rattle.desk_report.specs.declared.lines.Detail.{Detail}
use Rattle.desk_report.specs.declared.lines.Detail.TheVariants as detail
use Rattle.desk_report.specs.declared.lines.Reason.{Reason}
use Rattle.desk_rules.specs.Rules.{Rules}
use Rattle.desk_file.specs.declared.images.Image.{Image}
use Rattle.desk_file.specs.Classes.{class_image}
use Rattle.desk_file.specs.Images.{service_image, manifest_image, other_image, copied}

-- a detail, with so many links where it is that of a class
abbrev pub detail_with : ℕ → Detail → Detail
detail_with links (detail.Class renamed added odd old) = detail.Class renamed added odd links
detail_with links (detail.Service changed) = detail.Service changed
detail_with links (detail.Manifest changed) = detail.Manifest changed
detail_with links (detail.Texts changed) = detail.Texts changed
detail_with links detail.Copy = detail.Copy

abbrev pub with_links : ℕ → Result Image Reason → Result Image Reason
with_links links (Ok image) = Ok (record { bytes = image.bytes; detail = detail_with links image.detail })
with_links links (Err reason) = Err reason

-- the image of a class in an application that defines these names
abbrev pub linked_class : Rules → List Text → Text → Result Image Reason
linked_class rules defined bytes = with_links (length (links_of defined bytes)) (class_image rules bytes)

abbrev pub image_in_by : Rules → List Text → Text → Text → Kind → Result Image Reason
image_in_by rules defined path bytes kind.Service = service_image rules bytes
image_in_by rules defined path bytes kind.Manifest = manifest_image rules bytes
image_in_by rules defined path bytes kind.Class = linked_class rules defined bytes
image_in_by rules defined path bytes kind.Other = other_image rules path bytes

-- the image of bytes at a path, in an application that defines these names, or why there is none
unfoldable pub image_in : Rules → List Text → Text → Text → Result Image Reason
image_in rules defined path bytes = if selects rules.selection path then image_in_by rules defined path bytes (kind_of path) else Ok (copied bytes)

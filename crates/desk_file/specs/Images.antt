-- Where a file goes, and what it becomes there.
use Rattle.std.specs.Prelude.{Option, Some, None, Result, Ok, Err, ℕ, if◌then◌else◌}
use Rattle.desk_base.specs.Names.{Text}
use Rattle.desk_base.specs.declared.Changed.{Changed}
use Rattle.desk_manifest.specs.Manifests.{manifest}
use Rattle.desk_metainf.specs.Services.{service}
use Rattle.desk_patterns.specs.PatternTexts.{FileTexts, texts_for}
use Rattle.desk_patterns.specs.Selections.{selects}
use Rattle.desk_paths.specs.declared.Kind.{Kind}
use Rattle.desk_paths.specs.declared.Kind.TheVariants as kind
use Rattle.desk_paths.specs.Kinds.{kind_of}
use Rattle.desk_paths.specs.Paths.{target as target_of}
use Rattle.desk_report.specs.declared.lines.Detail.{Detail}
use Rattle.desk_report.specs.declared.lines.Detail.TheVariants as detail
use Rattle.desk_report.specs.declared.lines.Reason.{Reason}
use Rattle.desk_report.specs.declared.lines.Reason.TheVariants as reason
use Rattle.desk_rules.specs.Rules.{Rules}
use Rattle.desk_textrules.specs.TextImages.{text_image}
use Rattle.desk_file.specs.declared.images.Image.{Image}
use Rattle.desk_file.specs.Classes.{class_image}

-- where a file goes
unfoldable pub target : Rules → Text → Text
target rules path = target_of rules path

-- what changed, or why there is no image
abbrev pub changed_image : (ℕ → Detail) → (ℕ → Reason) → Result Changed ℕ → Result Image Reason
changed_image made why (Ok changed) = Ok (record { bytes = changed.bytes; detail = made changed.changed })
changed_image made why (Err at) = Err (why at)

-- the image of a service file, or its bad line
abbrev pub service_image : Rules → Text → Result Image Reason
service_image rules bytes = changed_image detail.Service reason.BadLine (service rules bytes)

-- the image of a manifest, or its bad line
abbrev pub manifest_image : Rules → Text → Result Image Reason
manifest_image rules bytes = changed_image detail.Manifest reason.BadLine (manifest rules bytes)

abbrev pub copied : Text → Image
copied bytes = record { bytes = bytes; detail = detail.Copy }

-- the image of a text by the text rules at its path, or the place at which those at its target would change that image; a copy
-- where there are none at either
abbrev pub texts_image : Option FileTexts → Text → Result Image Reason
texts_image None bytes = Ok (copied bytes)
texts_image (Some texts) bytes = changed_image detail.Texts reason.Unsettled (text_image texts.here texts.there bytes)

-- the image of a selected file that is no class, service file or manifest
abbrev pub other_image : Rules → Text → Text → Result Image Reason
other_image rules path bytes = texts_image (texts_for rules.texts path (target rules path)) bytes

abbrev pub image_by : Rules → Text → Text → Kind → Result Image Reason
image_by rules path bytes kind.Service = service_image rules bytes
image_by rules path bytes kind.Manifest = manifest_image rules bytes
image_by rules path bytes kind.Class = class_image rules bytes
image_by rules path bytes kind.Other = other_image rules path bytes

-- the image of bytes at a path, or why there is none: an unselected file is copied
unfoldable pub image : Rules → Text → Text → Result Image Reason
image rules path bytes = if selects rules.selection path then image_by rules path bytes (kind_of path) else Ok (copied bytes)

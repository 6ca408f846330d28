-- What files become, each at its target, and the lines of those that have no image.
use Rattle.std.specs.Prelude.{nat_lt, Bool, false, List, [], ◌∷◌, length, map, Option, Some, None, Result, Ok, Err, is_err, if◌then◌else◌}
use Rattle.std.specs.BTreeMap.{insert_entry}
use Rattle.std.specs.Cmp.Lexicographic.{slice_cmp}
use Rattle.std.specs.Ordering.{nat_cmp}
use Rattle.std.specs.List.{flat_map, list_any}
use Rattle.desk_base.specs.Limits.{file_size}
use Rattle.desk_base.specs.Names.{Text}
use Rattle.desk_file.specs.declared.images.Image.{Image}
use Rattle.desk_folders.specs.Contents.{File}
use Rattle.desk_folders.specs.declared.folders.GenFile.{GenFile}
use Rattle.desk_report.specs.Texts.{line_text}
use Rattle.desk_report.specs.declared.lines.Reason.{Reason}
use Rattle.desk_report.specs.declared.lines.ReportLine.TheVariants.{Refused}
use Rattle.desk_report.specs.declared.status.LimitKind.TheVariants.{FileSize}
use Rattle.desk_report.specs.declared.status.Status.{Status}
use Rattle.desk_report.specs.declared.status.Status.TheVariants.{Limit}

-- what a path and bytes become, or why they have no image
abbrev pub Imaging : Type 0
Imaging = Text → Text → Result Image Reason

-- an image with more bytes than a file may have
abbrev pub is_too_large : Result Image Reason → Bool
is_too_large (Ok image) = nat_lt file_size (length image.bytes)
is_too_large (Err reason) = false

-- the first file whose image has too many bytes
abbrev pub image_answer : Imaging → List File → Option Status
image_answer image [] = None
image_answer image (file ∷ files) = if is_too_large (image file.path file.bytes) then Some (Limit FileSize file.path) else image_answer image files

-- the line of a path that has no image
abbrev pub refusal : Text → Result Image Reason → Text
refusal path (Ok image) = []
refusal path (Err reason) = line_text (Refused path reason)

abbrev pub refusal_of : Imaging → File → Text
refusal_of image file = refusal file.path (image file.path file.bytes)

-- the lines of the files that have no image
abbrev pub refusals : Imaging → List File → Text
refusals image = flat_map (refusal_of image)

abbrev pub is_refused : Imaging → File → Bool
is_refused image file = is_err (image file.path file.bytes)

-- whether some file has no image
abbrev pub some_refused : Imaging → List File → Bool
some_refused image = list_any (is_refused image)

-- images by their targets, in byte order of these
abbrev pub Images : Type 0
Images = List (Text × Text)

-- with an image at its target
abbrev pub with_image : Text → Result Image Reason → Images → Images
with_image target (Ok image) images = insert_entry (slice_cmp nat_cmp) images target image.bytes
with_image target (Err reason) images = images

-- with the image of each file at its target
abbrev pub with_images : (Text → Text) → Imaging → List File → Images → Images
with_images target image [] images = images
with_images target image (file ∷ files) images = with_images target image files (with_image (target file.path) (image file.path file.bytes) images)

-- as a file that is compared
abbrev pub as_file : Text × Text → GenFile
as_file image = record { path = image.0; content = image.1 }

-- the images of files, each at its target, in byte order of the targets
abbrev pub images_of : (Text → Text) → Imaging → List File → List GenFile
images_of target image files = map as_file (with_images target image files [])

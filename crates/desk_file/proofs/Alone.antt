-- The image of a file in its application is that of the file alone, but for the number of links.
use Rattle.std.proofs.Common.{◌≡◌, Bool, true, false, cond, ℕ, List, refl, sym, ap, Result, Ok, Err, length}
use Rattle.desk_base.specs.Names.{Text}
use Rattle.desk_graph.specs.Graphs.{links_of}
use Rattle.desk_patterns.specs.Selections.{selects}
use Rattle.desk_paths.specs.declared.Kind.{Kind}
use Rattle.desk_paths.specs.declared.Kind.TheVariants as kinds
use Rattle.desk_paths.specs.Kinds.{kind_of}
use Rattle.desk_report.specs.declared.lines.Reason.{Reason}
use Rattle.desk_rules.specs.Rules.{Rules}
use Rattle.desk_file.specs.Classes.{class_image}
use Rattle.desk_file.specs.Images.{image as image_at, image_by, copied}
use Rattle.desk_file.specs.Linked.{detail_with, with_links, image_in, image_in_by}
use Rattle.desk_file.specs.declared.images.Image.{Image}

-- a file has an image with these bytes
pub record HasAlone (made : Result Image Reason) (image : Image) : Type 0 where
  pub alone : Image
  pub is : made ≡ Ok alone
  pub bytes : image.bytes ≡ alone.bytes

without_links : (links : ℕ) (made : Result Image Reason) (image : Image) → with_links links made ≡ Ok image → HasAlone made image
without_links links (Ok alone) image e =
    let same : record { bytes = alone.bytes; detail = detail_with links alone.detail } ≡ image = cc in
    record { alone = alone; is = refl; bytes = ap (λ (i : Image). i.bytes) (sym same) }
without_links links (Err reason) image e = absurd cc

alone_by : (rules : Rules) (defined : List Text) (path bytes : Text) (image : Image) (kind : Kind) → image_in_by rules defined path bytes kind ≡ Ok image → HasAlone (image_by rules path bytes kind) image
alone_by rules defined path bytes image kinds.Service e = record { alone = image; is = e; bytes = refl }
alone_by rules defined path bytes image kinds.Manifest e = record { alone = image; is = e; bytes = refl }
alone_by rules defined path bytes image kinds.Class e = without_links (length (links_of defined bytes)) (class_image rules bytes) image e
alone_by rules defined path bytes image kinds.Other e = record { alone = image; is = e; bytes = refl }

selected_or_not : (rules : Rules) (defined : List Text) (path bytes : Text) (image : Image) (selected : Bool)
    → cond selected (image_in_by rules defined path bytes (kind_of path)) (Ok (copied bytes)) ≡ Ok image → HasAlone (cond selected (image_by rules path bytes (kind_of path)) (Ok (copied bytes))) image
selected_or_not rules defined path bytes image true e = alone_by rules defined path bytes image (kind_of path) e
selected_or_not rules defined path bytes image false e = record { alone = image; is = e; bytes = refl }

pub has_alone : (rules : Rules) (defined : List Text) (path bytes : Text) (image : Image) → image_in rules defined path bytes ≡ Ok image → HasAlone (image_at rules path bytes) image
unfolding image_in image_at
has_alone rules defined path bytes image e = selected_or_not rules defined path bytes image (selects rules.selection path) e

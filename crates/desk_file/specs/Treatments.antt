-- How files are treated, and which of them are read whole.
use Rattle.std.specs.Prelude.{Bool, true, false, ◌||◌, ◌&&◌, List, Option, Some, None, Result, Ok, is_some, cond}
use Rattle.desk_base.specs.Names.{Text}
use Rattle.desk_patterns.specs.PatternTexts.{FileTexts, texts_for, texts_of}
use Rattle.desk_patterns.specs.Selections.{selects}
use Rattle.desk_paths.specs.declared.Kind.{Kind}
use Rattle.desk_paths.specs.declared.Kind.TheVariants as kind
use Rattle.desk_paths.specs.Kinds.{kind_of}
use Rattle.desk_report.specs.declared.lines.Reason.{Reason}
use Rattle.desk_rules.specs.Rules.{Rules}
use Rattle.desk_file.specs.declared.images.Image.{Image}
use Rattle.desk_file.specs.declared.treatments.Treatment.{Treatment}
use Rattle.desk_file.specs.declared.treatments.Treatment.TheVariants as treatment
use Rattle.desk_file.specs.Images.{target, service_image, manifest_image, texts_image, copied}
use Rattle.desk_file.specs.Linked.{linked_class}

-- a selected file that is no class, service file or manifest, by the text rules of its path and its target
abbrev pub texts_treatment : Option FileTexts → Treatment
texts_treatment None = treatment.Copy
texts_treatment (Some texts) = treatment.Texts

abbrev pub selected_treatment : Kind → Option FileTexts → Treatment
selected_treatment kind.Class texts = treatment.Class
selected_treatment kind.Service texts = treatment.Service
selected_treatment kind.Manifest texts = treatment.Manifest
selected_treatment kind.Other texts = texts_treatment texts

abbrev pub unselected_treatment : Kind → Treatment
unselected_treatment kind.Class = treatment.UnselectedClass
unselected_treatment kind.Service = treatment.Copy
unselected_treatment kind.Manifest = treatment.Copy
unselected_treatment kind.Other = treatment.Copy

abbrev pub treatment_by : Bool → Kind → Option FileTexts → Treatment
treatment_by selected kind texts = cond selected (selected_treatment kind texts) (unselected_treatment kind)

abbrev pub treatment_at : Rules → Text → Text → Treatment
treatment_at rules path target = treatment_by (selects rules.selection path) (kind_of path) (texts_for rules.texts path target)

-- how a file at a path is treated
abbrev pub treatment_of : Rules → Text → Treatment
treatment_of rules path = treatment_at rules path (target rules path)

-- by its kind, whether it is selected, and whether a text rule file fits its path or its target
abbrev pub whole_by : Kind → Bool → Bool → Bool
whole_by kind.Class selected texts = true
whole_by kind.Service selected texts = selected
whole_by kind.Manifest selected texts = selected
whole_by kind.Other selected texts = selected && texts

abbrev pub has_texts : Rules → Text → Bool
has_texts rules path = is_some (texts_of rules.texts path)

-- whether a file is read whole
abbrev pub is_whole : Rules → Text → Bool
is_whole rules path = whole_by (kind_of path) (selects rules.selection path) (has_texts rules path || has_texts rules (target rules path))

abbrev pub is_copy : Treatment → Bool
is_copy treatment.Class = false
is_copy treatment.UnselectedClass = false
is_copy treatment.Service = false
is_copy treatment.Manifest = false
is_copy treatment.Texts = false
is_copy treatment.Copy = true

abbrev pub is_class : Treatment → Bool
is_class treatment.Class = true
is_class treatment.UnselectedClass = true
is_class treatment.Service = false
is_class treatment.Manifest = false
is_class treatment.Texts = false
is_class treatment.Copy = false

abbrev pub is_selected_class : Treatment → Bool
is_selected_class treatment.Class = true
is_selected_class treatment.UnselectedClass = false
is_selected_class treatment.Service = false
is_selected_class treatment.Manifest = false
is_selected_class treatment.Texts = false
is_selected_class treatment.Copy = false

-- the image of bytes by how the file is treated and by the text rules of its path and its target, in an application that
-- defines these names
abbrev pub image_as : Rules → List Text → Option FileTexts → Text → Treatment → Result Image Reason
image_as rules defined texts bytes treatment.Class = linked_class rules defined bytes
image_as rules defined texts bytes treatment.UnselectedClass = Ok (copied bytes)
image_as rules defined texts bytes treatment.Service = service_image rules bytes
image_as rules defined texts bytes treatment.Manifest = manifest_image rules bytes
image_as rules defined texts bytes treatment.Texts = texts_image texts bytes
image_as rules defined texts bytes treatment.Copy = Ok (copied bytes)

-- The image of an image is itself, at its own path.
use Rattle.std.proofs.Common.{◌≡◌, inl, inr, ℕ, Bool, true, false, cond, List, [], ◌∷◌, Option, Some, None, Result, Ok, Err, refl, sym, ap, subst, ◌∙◌}
use Rattle.std.specs.List.{AllByRecursion}
use Rattle.std.proofs.lemmas.Bool.{cases_Bool}
use Rattle.desk_base.specs.Names.{Text}
use Rattle.desk_base.specs.declared.Changed.{Changed}
use Rattle.desk_file.specs.Classes.{renamed_image, unless_refused, image_of_read, class_image}
use Rattle.desk_file.specs.Images.{target, changed_image, texts_image, copied, image_by}
use Rattle.desk_file.specs.Images.{image as image_at}
use Rattle.desk_file.specs.declared.images.Image.{Image}
use Rattle.desk_file.proofs.ClassImages.{Made, class_made}
use Rattle.desk_format.specs.Classes.{Class, read_class}
use Rattle.desk_format.specs.Laws.{IsBytes}
use Rattle.desk_format.specs.NewClass.{new_class, new_bytes}
use Rattle.desk_follow.specs.RuleImages.{images_of}
use Rattle.desk_rewrite.proofs.Forms.{forms_kept, images_settled}
use Rattle.desk_laws.specs.Classes.{IsRenamedClass, IsUnchangedClass}
use Rattle.desk_laws.proofs.Whole.{renamed_classes, unchanged_classes}
use Rattle.desk_manifest.specs.Manifests.{manifest}
use Rattle.desk_manifest.proofs.Stays.{manifest_stays}
use Rattle.desk_metainf.specs.Services.{service}
use Rattle.desk_metainf.proofs.Migrating.{image_of_names}
use Rattle.desk_metainf.proofs.ServiceLaws.{service-twice}
use Rattle.desk_paths.specs.declared.Kind.{Kind}
use Rattle.desk_paths.specs.declared.Kind.TheVariants as kinds
use Rattle.desk_paths.specs.Kinds.{kind_of}
use Rattle.desk_paths.specs.Paths.{target as target_of}
use Rattle.desk_paths.proofs.TargetLaws.{target_other, target_stays}
use Rattle.desk_patterns.specs.Patterns.{fits}
use Rattle.desk_patterns.specs.PatternTexts.{PatternText, texts_of, both_rules, texts_for}
use Rattle.desk_patterns.specs.Selections.{selects}
use Rattle.desk_patterns.specs.TextRules.{TextRule, HaveSources}
use Rattle.desk_report.specs.declared.lines.Detail.{Detail}
use Rattle.desk_report.specs.declared.lines.Detail.TheVariants as detail
use Rattle.desk_report.specs.declared.lines.Reason.{Reason}
use Rattle.desk_report.specs.declared.lines.Reason.TheVariants as reason
use Rattle.desk_rules.specs.Images.{dotted}
use Rattle.desk_rules.specs.Rules.{Rules}
use Rattle.desk_rules.specs.RuleSets.{IsRuleSet}
use Rattle.desk_textrules.specs.TextImages.{pieces, count_changed, replaced, unsettled, unless_unsettled, text_image, TextStays}
use Rattle.desk_textrules.proofs.Stays.{text_stays}
use Rattle.desk_second.specs.Second.{TextsHaveSources}

-- ---- targets

target_is : (rules : Rules) (path : Text) → target rules path ≡ target_of rules path
unfolding target
target_is rules path = refl

pub target_again : (rules : Rules) → IsRuleSet rules → (path : Text) → target rules (target rules path) ≡ target rules path
target_again rules is path = ap (target rules) (target_is rules path) ∙ target_is rules (target_of rules path) ∙ (target_stays rules is path).again ∙ sym (target_is rules path)

pub kind_again : (rules : Rules) → IsRuleSet rules → (path : Text) → kind_of (target rules path) ≡ kind_of path
kind_again rules is path = ap kind_of (target_is rules path) ∙ (target_stays rules is path).same_kind

pub unselected_target : (rules : Rules) (path : Text) → selects rules.selection path ≡ false → target rules path ≡ path
unselected_target rules path e = target_is rules path ∙ target_other rules path e

-- ---- images

pub record Own (rules : Rules) (path bytes : Text) : Type 0 where
  pub image : Image
  pub accepted : image_at rules path bytes ≡ Ok image
  pub bytes_are : image.bytes ≡ bytes

-- a selected file goes by its kind, any other is copied
pub by_kind_of : (rules : Rules) (path bytes : Text) (k : Kind) → selects rules.selection path ≡ true → kind_of path ≡ k → image_at rules path bytes ≡ image_by rules path bytes k
unfolding image_at
by_kind_of rules path bytes k selected e =
    ap (λ (b : Bool). cond b (image_by rules path bytes (kind_of path)) (Ok (copied bytes))) selected ∙ ap (image_by rules path bytes) e

other_copied : (rules : Rules) (path bytes : Text) → selects rules.selection path ≡ false → image_at rules path bytes ≡ Ok (copied bytes)
unfolding image_at
other_copied rules path bytes e = ap (λ (b : Bool). cond b (image_by rules path bytes (kind_of path)) (Ok (copied bytes))) e

own_copy : (rules : Rules) (path bytes : Text) → image_at rules path bytes ≡ Ok (copied bytes) → Own rules path bytes
own_copy rules path bytes e = record { image = copied bytes; accepted = e; bytes_are = refl }

pub unselected_bytes : (rules : Rules) (path bytes : Text) (image : Image) → selects rules.selection path ≡ false → image_at rules path bytes ≡ Ok image → image.bytes ≡ bytes
unselected_bytes rules path bytes image e h =
    let both : Ok (copied bytes) ≡ Ok image = sym (other_copied rules path bytes e) ∙ h in
    let same : copied bytes ≡ image = cc in
    ap (λ (i : Image). i.bytes) (sym same)

-- what changed
record Exchanged (r : Result Changed ℕ) (image : Image) : Type 0 where
  changed : Changed
  is : r ≡ Ok changed
  bytes_are : image.bytes ≡ changed.bytes

exchanged : (made : ℕ → Detail) (why : ℕ → Reason) (image : Image) (r : Result Changed ℕ) → changed_image made why r ≡ Ok image → Exchanged r image
exchanged made why image (Ok changed) k =
    let same : record { bytes = changed.bytes; detail = made changed.changed } ≡ image = cc in
    record { changed = changed; is = refl; bytes_are = ap (λ (i : Image). i.bytes) (sym same) }
exchanged made why image (Err at) k = absurd cc

-- what a class's image is made of
pub record NewClass (rules : Rules) (bytes : Text) (image : Image) : Type 0 where
  pub class : Class
  pub reads : read_class bytes ≡ Ok class
  pub bytes_are : image.bytes ≡ new_bytes (images_of rules) bytes class
  pub renamed : IsRenamedClass (images_of rules) bytes class
  pub unchanged : IsUnchangedClass (images_of rules) (new_bytes (images_of rules) bytes class) (new_class (images_of rules) class)

pub new_class_of : (rules : Rules) → IsRuleSet rules → (path bytes : Text) (image : Image) → IsBytes bytes → selects rules.selection path ≡ true → kind_of path ≡ kinds.Class → image_at rules path bytes ≡ Ok image → NewClass rules bytes image
new_class_of rules is path bytes image b selected kind h =
    let m : Made rules bytes image = class_made rules path bytes image selected kind h in
    record {
      class = m.class;
      reads = m.reads;
      bytes_are = ap (λ (i : Image). i.bytes) m.is;
      renamed = renamed_classes (images_of rules) bytes m.class (forms_kept rules is) b m.reads m.accepted;
      unchanged = unchanged_classes (images_of rules) bytes m.class (forms_kept rules is) (images_settled rules is) b m.reads m.accepted;
    }

class_again : (rules : Rules) (bytes : Text) (image : Image) (n : NewClass rules bytes image) → class_image rules image.bytes ≡ Ok (renamed_image rules image.bytes (new_class (images_of rules) n.class))
unfolding class_image
class_again rules bytes image n =
    let reads : read_class image.bytes ≡ Ok (new_class (images_of rules) n.class) = ap read_class n.bytes_are ∙ n.renamed.reads in
    ap (image_of_read rules image.bytes) reads
    ∙ ap (unless_refused (renamed_image rules image.bytes (new_class (images_of rules) n.class))) n.unchanged.accepted

class_bytes : (rules : Rules) (bytes : Text) (image : Image) (n : NewClass rules bytes image) → new_bytes (images_of rules) image.bytes (new_class (images_of rules) n.class) ≡ image.bytes
class_bytes rules bytes image n =
    ap (λ (b : Text). new_bytes (images_of rules) b (new_class (images_of rules) n.class)) n.bytes_are ∙ n.unchanged.same ∙ sym n.bytes_are

-- ---- texts

sources_of : (entries : List PatternText) (path : Text) (found : List TextRule) → AllByRecursion (λ (entry : PatternText). HaveSources entry.1) entries → texts_of entries path ≡ Some found → HaveSources found
sources_of [] path found all e = absurd cc
sources_of (entry ∷ entries) path found all e = elim (fits entry.0 path) as (λ (b : Bool). cond b (Some entry.1) (texts_of entries path) ≡ Some found → HaveSources found) [
  | true ↦ λ k. let same : entry.1 ≡ found = cc in subst HaveSources same all.0
  | false ↦ λ k. sources_of entries path found all.1 k
] e

-- what is settled under rules is its own image under them
settled_text : (here there : List TextRule) (bytes : Text) (changed : Changed) → HaveSources there → text_image here there bytes ≡ Ok changed → TextStays there changed.bytes
settled_text here there bytes changed some e = elim (unsettled there (replaced here bytes)) as (λ (o : Option ℕ). unsettled there (replaced here bytes) ≡ o → unless_unsettled o (record { bytes = replaced here bytes; changed = count_changed (pieces here bytes) }) ≡ Ok changed → TextStays there changed.bytes) [
  | None ↦ λ n k.
      let same : record { bytes = replaced here bytes; changed = count_changed (pieces here bytes) } ≡ changed = cc in
      let is : replaced here bytes ≡ changed.bytes = ap (λ (c : Changed). c.bytes) same in
      text_stays there changed.bytes some (ap (unsettled there) (sym is) ∙ n)
  | Some at ↦ λ n k. absurd cc
] refl e

text_again : (here there : List TextRule) (bytes : Text) (image : Image) → HaveSources there → texts_image (Some (record { here = here; there = there })) bytes ≡ Ok image
    → (new : Image) × ((texts_image (Some (record { here = there; there = there })) image.bytes ≡ Ok new) × (new.bytes ≡ image.bytes))
text_again here there bytes image some e =
    let v : Exchanged (text_image here there bytes) image = exchanged detail.Texts reason.Unsettled image (text_image here there bytes) e in
    let stays : TextStays there v.changed.bytes = settled_text here there bytes v.changed some v.is in (
      record { bytes = v.changed.bytes; detail = detail.Texts 0 },
      (ap (λ (t : Text). changed_image detail.Texts reason.Unsettled (text_image there there t)) v.bytes_are ∙ ap (changed_image detail.Texts reason.Unsettled) stays, sym v.bytes_are),
    )

-- the image of a text at its target, by the rules at its path and those at its target
text_own : (here there : Option (List TextRule)) (bytes : Text) (image : Image) → ((rules : List TextRule) → there ≡ Some rules → HaveSources rules) → texts_image (both_rules here there) bytes ≡ Ok image
    → (new : Image) × ((texts_image (both_rules there there) image.bytes ≡ Ok new) × (new.bytes ≡ image.bytes))
text_own here None bytes image some e = (copied image.bytes, (refl, refl))
text_own None (Some there) bytes image some e = text_again [] there bytes image (some there refl) e
text_own (Some here) (Some there) bytes image some e = text_again here there bytes image (some there refl) e

-- ---- each kind

module _ (rules : Rules) (is : IsRuleSet rules) (sources : TextsHaveSources rules) (path bytes : Text) (image : Image) (b : IsBytes bytes) (selected : selects rules.selection path ≡ true)
    (accepted : image_at rules path bytes ≡ Ok image) where
  abbrev There : Text
  There = target rules path

  taken : (k : Kind) → kind_of path ≡ k → image_by rules path bytes k ≡ Ok image
  taken k e = sym (by_kind_of rules path bytes k selected e) ∙ accepted

  there : (k : Kind) → kind_of path ≡ k → selects rules.selection There ≡ true → image_at rules There image.bytes ≡ image_by rules There image.bytes k
  there k e s = by_kind_of rules There image.bytes k s (kind_again rules is path ∙ e)

  own_by : (k : Kind) → kind_of path ≡ k → selects rules.selection There ≡ true → Own rules There image.bytes
  own_by kinds.Service e s =
      let v : Exchanged (service rules bytes) image = exchanged detail.Service reason.BadLine image (service rules bytes) (taken kinds.Service e) in
      let twice : service rules v.changed.bytes ≡ Ok (record { bytes = v.changed.bytes; changed = 0 }) = service-twice (dotted rules.renames) (image_of_names rules is) bytes v.changed v.is in
      record {
        image = record { bytes = v.changed.bytes; detail = detail.Service 0 };
        accepted = there kinds.Service e s ∙ ap (changed_image detail.Service reason.BadLine) (ap (service rules) v.bytes_are ∙ twice);
        bytes_are = sym v.bytes_are;
      }
  own_by kinds.Manifest e s =
      let v : Exchanged (manifest rules bytes) image = exchanged detail.Manifest reason.BadLine image (manifest rules bytes) (taken kinds.Manifest e) in
      record {
        image = record { bytes = v.changed.bytes; detail = detail.Manifest 0 };
        accepted = there kinds.Manifest e s ∙ ap (changed_image detail.Manifest reason.BadLine) (ap (manifest rules) v.bytes_are ∙ manifest_stays rules is bytes v.changed v.is);
        bytes_are = sym v.bytes_are;
      }
  own_by kinds.Class e s =
      let n : NewClass rules bytes image = new_class_of rules is path bytes image b selected e accepted in
      record {
        image = renamed_image rules image.bytes (new_class (images_of rules) n.class);
        accepted = there kinds.Class e s ∙ class_again rules bytes image n;
        bytes_are = class_bytes rules bytes image n;
      }
  own_by kinds.Other e s =
      let o = text_own (texts_of rules.texts path) (texts_of rules.texts There) bytes image (λ found k. sources_of rules.texts There found sources k) (taken kinds.Other e) in
      record {
        image = o.0;
        accepted = there kinds.Other e s ∙ ap (λ (p : Text). texts_image (texts_for rules.texts There p) image.bytes) (target_again rules is path) ∙ o.1.0;
        bytes_are = o.1.1;
      }

  pub selected_own : Own rules There image.bytes
  selected_own = elim (cases_Bool (selects rules.selection There)) [
    | inl s ↦ own_by (kind_of path) refl s
    | inr o ↦ own_copy rules There image.bytes (other_copied rules There image.bytes o)
  ]

-- the image of an image is itself, at its target
pub own : (rules : Rules) → IsRuleSet rules → TextsHaveSources rules → (path bytes : Text) (image : Image) → IsBytes bytes → image_at rules path bytes ≡ Ok image → Own rules (target rules path) image.bytes
own rules is sources path bytes image b accepted = elim (cases_Bool (selects rules.selection path)) [
  | inl selected ↦ selected_own rules is sources path bytes image b selected accepted
  | inr other ↦
      let same : target rules path ≡ path = unselected_target rules path other in
      own_copy rules (target rules path) image.bytes (other_copied rules (target rules path) image.bytes (ap (selects rules.selection) same ∙ other))
]

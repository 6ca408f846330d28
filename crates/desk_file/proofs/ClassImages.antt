-- What becomes of a class.
use Rattle.std.proofs.Common.{◌≡◌, ℕ, Bool, true, cond, List, length, Option, Some, None, refl, sym, ap, ◌∙◌, Result, Ok, Err}
use Rattle.desk_base.specs.Names.{Text}
use Rattle.desk_base.specs.declared.faults.Malformed.{Malformed}
use Rattle.desk_format.specs.Classes.{Class, read_class, fault_in, class_fault}
use Rattle.desk_format.specs.NewClass.{Refusal, refusal}
use Rattle.desk_rewrite.specs.Refused.{Refuses}
use Rattle.desk_follow.specs.RuleImages.{images_of}
use Rattle.desk_rewrite.specs.declared.rewriting.RewriteFault.{RewriteFault}
use Rattle.desk_rewrite.specs.declared.rewriting.RewriteFault.TheVariants as rewrite
use Rattle.desk_rules.specs.Rules.{Rules}
use Rattle.desk_patterns.specs.PatternTexts.{FileTexts, texts_for}
use Rattle.desk_patterns.specs.Selections.{selects}
use Rattle.desk_file.specs.Routes.{image_along}
use Rattle.desk_file.specs.Treatments.{image_as, is_selected_class}
use Rattle.desk_file.specs.declared.routes.Route.{Route}
use Rattle.desk_file.specs.declared.treatments.Treatment.{Treatment}
use Rattle.desk_file.specs.declared.treatments.Treatment.TheVariants as treatments
use Rattle.desk_paths.specs.declared.Kind.TheVariants as kinds
use Rattle.desk_paths.specs.Kinds.{kind_of}
use Rattle.desk_file.specs.Images.{image as image_at, image_by, copied}
use Rattle.desk_file.specs.Classes.{renamed_image, unless_refused, image_of_read, class_image}
use Rattle.desk_file.specs.Faults.{IsClassFault, IsFaultOf, file_fault}
use Rattle.desk_file.specs.Linked.{detail_with, linked_class, with_links}
use Rattle.desk_report.specs.declared.lines.Detail.{Detail}
use Rattle.desk_report.specs.declared.lines.Detail.TheVariants as detail
use Rattle.desk_report.specs.declared.lines.Reason.{Reason}
use Rattle.desk_file.specs.declared.images.FileFault.{FileFault}
use Rattle.desk_file.specs.declared.images.FileFault.TheVariants.{Refused, Memory}
use Rattle.desk_graph.specs.Graphs.{links_of}
use Rattle.desk_file.specs.declared.images.Image.{Image}

-- well-formed bytes read into a class
pub record Reads (bytes : Text) : Type 0 where
  pub class : Class
  pub is : read_class bytes ≡ Ok class

pub reads : (bytes : Text) → class_fault bytes ≡ None → Reads bytes
reads bytes h = elim (read_class bytes) as (λ (r : Result Class Malformed). read_class bytes ≡ r → fault_in r ≡ None → Reads bytes) [
  | Ok c ↦ λ q k. record { class = c; is = q }
  | Err f ↦ λ q k. absurd cc
] refl h

-- the image that the rewriter makes
pub image_made : (rules : Rules) (bytes : Text) (image : Image) → class_fault bytes ≡ None → ((c : Class) → read_class bytes ≡ Ok c → image ≡ renamed_image rules bytes c)
    → ((c : Class) → read_class bytes ≡ Ok c → refusal (images_of rules) c ≡ None) → class_image rules bytes ≡ Ok image
unfolding class_image
image_made rules bytes image sound is accepted =
    let r = reads bytes sound in
    ap (image_of_read rules bytes) r.is ∙ ap (unless_refused (renamed_image rules bytes r.class)) (accepted r.class r.is) ∙ ap Ok (sym (is r.class r.is))

-- the reason why it makes none
pub fault_made : (rules : Rules) (bytes : Text) (fault : RewriteFault) → class_fault bytes ≡ None → ((c : Class) → read_class bytes ≡ Ok c → Refuses fault (refusal (images_of rules) c))
    → IsClassFault rules bytes (file_fault fault)
unfolding class_image
fault_made rules bytes (rewrite.Overlong index size) sound h =
    let r = reads bytes sound in
    ap (image_of_read rules bytes) r.is ∙ ap (unless_refused (renamed_image rules bytes r.class)) (h r.class r.is)
fault_made rules bytes (rewrite.PoolFull count needed) sound h =
    let r = reads bytes sound in
    ap (image_of_read rules bytes) r.is ∙ ap (unless_refused (renamed_image rules bytes r.class)) (h r.class r.is)
fault_made rules bytes (rewrite.Twins first second) sound h =
    let r = reads bytes sound in
    ap (image_of_read rules bytes) r.is ∙ ap (unless_refused (renamed_image rules bytes r.class)) (h r.class r.is)
fault_made rules bytes rewrite.Memory sound h = tt

-- bytes with a fault have it for their image
pub malformed : (rules : Rules) (bytes : Text) (f : Malformed) → class_fault bytes ≡ Some f → class_image rules bytes ≡ image_of_read rules bytes (Err f)
unfolding class_image
malformed rules bytes f h = elim (read_class bytes) as (λ (r : Result Class Malformed). fault_in r ≡ Some f → image_of_read rules bytes r ≡ image_of_read rules bytes (Err f)) [
  | Ok c ↦ λ k. absurd cc
  | Err g ↦ λ k. let same : g ≡ f = cc in ap (λ (x : Malformed). image_of_read rules bytes (Err x)) same
] h

-- a class that has an image reads, and its image is the new class
pub record Made (rules : Rules) (bytes : Text) (image : Image) : Type 0 where
  pub class : Class
  pub reads : read_class bytes ≡ Ok class
  pub accepted : refusal (images_of rules) class ≡ None
  pub is : image ≡ renamed_image rules bytes class

pub made : (rules : Rules) (bytes : Text) (image : Image) → class_image rules bytes ≡ Ok image → Made rules bytes image
unfolding class_image
made rules bytes image h = elim (read_class bytes) as (λ (r : Result Class Malformed). read_class bytes ≡ r → image_of_read rules bytes r ≡ Ok image → Made rules bytes image) [
  | Err f ↦ λ q k. absurd cc
  | Ok c ↦ λ q k. elim (refusal (images_of rules) c) as (λ (o : Option Refusal). refusal (images_of rules) c ≡ o → unless_refused (renamed_image rules bytes c) o ≡ Ok image → Made rules bytes image) [
    | Some r ↦ λ n l. absurd cc
    | None ↦ λ n l. let same : renamed_image rules bytes c ≡ image = cc in record { class = c; reads = q; accepted = n; is = sym same }
  ] refl k
] refl h

-- the image of a selected class that is accepted
pub class_made : (rules : Rules) (path bytes : Text) (image : Image) → selects rules.selection path ≡ true → kind_of path ≡ kinds.Class → image_at rules path bytes ≡ Ok image → Made rules bytes image
unfolding image_at
class_made rules path bytes image selected class h =
    let is : image_at rules path bytes ≡ class_image rules bytes = ap (λ (b : Bool). cond b (image_by rules path bytes (kind_of path)) (Ok (copied bytes))) selected ∙ ap (image_by rules path bytes) class in
    made rules bytes image (sym is ∙ h)

-- the reason why a class has none is that with any number of links, as in its application
pub links_fault : (rules : Rules) (links : ℕ) (bytes : Text) (fault : FileFault) → IsClassFault rules bytes fault → IsFaultOf (with_links links (class_image rules bytes)) fault
links_fault rules links bytes (Refused reason) h = ap (with_links links) h
links_fault rules links bytes Memory h = tt

pub linked_fault : (rules : Rules) (defined : List Text) (bytes : Text) (fault : FileFault) → IsClassFault rules bytes fault → IsFaultOf (linked_class rules defined bytes) fault
linked_fault rules defined bytes fault h = links_fault rules (length (links_of defined bytes)) bytes fault h

-- links that are counted twice are those of the second count
pub relinked : (links before : ℕ) (made : Result Image Reason) → with_links links (with_links before made) ≡ with_links links made
relinked links before (Ok image) = ap (λ (d : Detail). Ok (record { bytes = image.bytes; detail = d })) (detail_again links before image.detail) where
  detail_again : (links before : ℕ) (d : Detail) → detail_with links (detail_with before d) ≡ detail_with links d
  detail_again links before (detail.Class renamed added odd old) = refl
  detail_again links before (detail.Service changed) = refl
  detail_again links before (detail.Manifest changed) = refl
  detail_again links before (detail.Texts changed) = refl
  detail_again links before detail.Copy = refl
relinked links before (Err reason) = refl

along_by : (rules : Rules) (defined : List Text) (texts : Option FileTexts) (bytes : Text) (treatment : Treatment) (links : ℕ) → is_selected_class treatment ≡ true
    → with_links links (image_as rules defined texts bytes treatment) ≡ with_links links (class_image rules bytes)
along_by rules defined texts bytes treatments.Class links h = relinked links (length (links_of defined bytes)) (class_image rules bytes)
along_by rules defined texts bytes treatments.UnselectedClass links h = absurd cc
along_by rules defined texts bytes treatments.Service links h = absurd cc
along_by rules defined texts bytes treatments.Manifest links h = absurd cc
along_by rules defined texts bytes treatments.Texts links h = absurd cc
along_by rules defined texts bytes treatments.Copy links h = absurd cc

-- along the route of a selected class, its image with these links is the one that the class has by itself
pub relinked_along : (rules : Rules) (defined : List Text) (route : Route) (bytes : Text) (links : ℕ) → is_selected_class route.treatment ≡ true
    → with_links links (image_along rules defined route bytes) ≡ with_links links (class_image rules bytes)
relinked_along rules defined route bytes links h = along_by rules defined (texts_for rules.texts route.path route.target) bytes route.treatment links h

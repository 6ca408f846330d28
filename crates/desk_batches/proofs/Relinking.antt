-- A selected class whose links are known has the image that it has along its route, with these links.
use Rattle.std.proofs.Common.{◌≡◌, ℕ, List, Bool, true, cond, ap, ◌∙◌, subst, sym}
use Rattle.std.specs.Prelude.{Result}
use Rattle.desk_base.specs.Names.{Text}
use Rattle.desk_file.proofs.ClassImages.{relinked_along}
use Rattle.desk_file.specs.Classes.{class_image}
use Rattle.desk_file.specs.Faults.{IsFaultOf}
use Rattle.desk_file.specs.Linked.{with_links}
use Rattle.desk_file.specs.Routes.{image_along}
use Rattle.desk_file.specs.Treatments.{is_selected_class}
use Rattle.desk_file.specs.declared.images.FileFault.{FileFault}
use Rattle.desk_file.specs.declared.images.Image.{Image}
use Rattle.desk_file.specs.declared.routes.Route.{Route}
use Rattle.desk_report.specs.declared.lines.Reason.{Reason}
use Rattle.desk_rules.specs.Rules.{Rules}
use Rattle.desk_batches.specs.Turns.{linked_by}

pub class_relinked : (rules : Rules) (defined : List Text) (route : Route) (bytes : Text) (links : ℕ) → is_selected_class route.treatment ≡ true
    → linked_by route.treatment links (image_along rules defined route bytes) ≡ with_links links (class_image rules bytes)
class_relinked rules defined route bytes links h =
    let made = image_along rules defined route bytes in
    ap (λ (b : Bool). cond b (with_links links made) made) h ∙ relinked_along rules defined route bytes links h

pub class_fault : (rules : Rules) (defined : List Text) (route : Route) (bytes : Text) (links : ℕ) (fault : FileFault) → is_selected_class route.treatment ≡ true → IsFaultOf (with_links links (class_image rules bytes)) fault
    → IsFaultOf (linked_by route.treatment links (image_along rules defined route bytes)) fault
class_fault rules defined route bytes links fault h f = subst (λ (made : Result Image Reason). IsFaultOf made fault) (sym (class_relinked rules defined route bytes links h)) f

-- How a file is treated says what it becomes, and whether it is read whole.
use Rattle.std.proofs.Common.{◌≡◌, Bool, true, false, cond, not, List, Option, Some, None, refl, sym, ap, ◌∙◌, Ok}
use Rattle.std.specs.Prelude.{is_some, ◌||◌}
use Rattle.desk_base.specs.Names.{Text}
use Rattle.desk_patterns.specs.PatternTexts.{FileTexts, both_rules, texts_for, texts_of}
use Rattle.desk_patterns.specs.Selections.{selects}
use Rattle.desk_patterns.specs.TextRules.{TextRule}
use Rattle.desk_paths.specs.declared.Kind.{Kind}
use Rattle.desk_paths.specs.declared.Kind.TheVariants as kinds
use Rattle.desk_paths.specs.Kinds.{kind_of}
use Rattle.desk_paths.specs.Paths.{target as target_of}
use Rattle.desk_rules.specs.Rules.{Rules}
use Rattle.desk_file.specs.Routes.{IsRouteBy, image_along, route_of}
use Rattle.desk_file.specs.declared.routes.Route.{Route}
use Rattle.desk_file.specs.declared.treatments.Treatment.{Treatment}
use Rattle.desk_file.specs.declared.treatments.Treatment.TheVariants as treatments
use Rattle.desk_file.specs.Images.{target, texts_image, copied}
use Rattle.desk_file.specs.Linked.{image_in, image_in_by}
use Rattle.desk_file.specs.Treatments.{image_as, is_copy, is_whole, texts_treatment, treatment_by, treatment_of, whole_by}

-- ---- routes

-- a route that is found part by part
pub routed : (rules : Rules) (path found : Text) (selected : Bool) (kind : Kind) (how : Treatment) → selected ≡ selects rules.selection path → kind ≡ kind_of path → found ≡ target_of rules path
    → how ≡ treatment_by selected kind (texts_for rules.texts path found) → record { path = path; target = found; treatment = how } ≡ route_of rules path
unfolding target
routed rules path found selected kind how s k t h =
    λ i. record { path = path; target = t i; treatment = (h ∙ (λ j. treatment_by (s j) (k j) (texts_for rules.texts path (t j)))) i }

-- ---- whole files

both_or_none : (here there : Option (List TextRule)) → not (is_copy (texts_treatment (both_rules here there))) ≡ (is_some here || is_some there)
both_or_none None None = refl
both_or_none None (Some there) = refl
both_or_none (Some here) None = refl
both_or_none (Some here) (Some there) = refl

whole_of : (kind : Kind) (selected : Bool) (here there : Option (List TextRule))
    → not (is_copy (treatment_by selected kind (both_rules here there))) ≡ whole_by kind selected (is_some here || is_some there)
whole_of kinds.Class true here there = refl
whole_of kinds.Class false here there = refl
whole_of kinds.Service true here there = refl
whole_of kinds.Service false here there = refl
whole_of kinds.Manifest true here there = refl
whole_of kinds.Manifest false here there = refl
whole_of kinds.Other true here there = both_or_none here there
whole_of kinds.Other false here there = refl

-- a file is read whole where it isn't treated as a copy
pub whole_treated : (rules : Rules) (path : Text) → not (is_copy (treatment_of rules path)) ≡ is_whole rules path
whole_treated rules path = whole_of (kind_of path) (selects rules.selection path) (texts_of rules.texts path) (texts_of rules.texts (target rules path))

-- ---- images

other_treated : (rules : Rules) (defined : List Text) (bytes : Text) (texts : Option FileTexts) → texts_image texts bytes ≡ image_as rules defined texts bytes (texts_treatment texts)
other_treated rules defined bytes None = refl
other_treated rules defined bytes (Some texts) = refl

by_kind : (rules : Rules) (defined : List Text) (path bytes : Text) (selected : Bool) (kind : Kind)
    → cond selected (image_in_by rules defined path bytes kind) (Ok (copied bytes)) ≡ image_as rules defined (texts_for rules.texts path (target rules path)) bytes (treatment_by selected kind (texts_for rules.texts path (target rules path)))
by_kind rules defined path bytes true kinds.Class = refl
by_kind rules defined path bytes true kinds.Service = refl
by_kind rules defined path bytes true kinds.Manifest = refl
by_kind rules defined path bytes true kinds.Other = other_treated rules defined bytes (texts_for rules.texts path (target rules path))
by_kind rules defined path bytes false kinds.Class = refl
by_kind rules defined path bytes false kinds.Service = refl
by_kind rules defined path bytes false kinds.Manifest = refl
by_kind rules defined path bytes false kinds.Other = refl

treated : (rules : Rules) (defined : List Text) (path bytes : Text) → image_in rules defined path bytes ≡ image_along rules defined (route_of rules path) bytes
unfolding image_in
treated rules defined path bytes = by_kind rules defined path bytes (selects rules.selection path) (kind_of path)

-- along the route of a file its bytes have the image of the file
pub image_routed : (rules : Rules) (defined : List Text) (route : Route) (bytes : Text) → IsRouteBy rules route → image_in rules defined route.path bytes ≡ image_along rules defined route bytes
image_routed rules defined route bytes e = treated rules defined route.path bytes ∙ ap (λ (r : Route). image_along rules defined r bytes) (sym e)

copy_of : (how : Treatment) → not (is_copy how) ≡ false → how ≡ treatments.Copy
copy_of treatments.Copy e = refl
copy_of treatments.Class e = absurd cc
copy_of treatments.UnselectedClass e = absurd cc
copy_of treatments.Service e = absurd cc
copy_of treatments.Manifest e = absurd cc
copy_of treatments.Texts e = absurd cc

-- a file that isn't read whole has its own bytes as its image
pub copies : (rules : Rules) (defined : List Text) (path bytes : Text) → is_whole rules path ≡ false → image_in rules defined path bytes ≡ Ok (copied bytes)
copies rules defined path bytes e =
    treated rules defined path bytes
    ∙ ap (image_as rules defined (texts_for rules.texts path (target rules path)) bytes) (copy_of (treatment_of rules path) (whole_treated rules path ∙ e))

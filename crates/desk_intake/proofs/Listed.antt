-- What is known of the files of routes that were listed: what is kept of their classes, and that they are there.
use Rattle.std.proofs.Common.{All, ◌≡◌, Bool, true, false, List, [], ◌∷◌, map, refl, sym, ◌∙◌, subst, Option, Some, None, Result, IfSome, IsSome}
use Rattle.std.specs.Prelude.{if◌then◌else◌}
use Rattle.std.specs.FinMap as fin
use Rattle.std.proofs.lemmas.List.Elements.{All-cons, All-nil}
use Rattle.desk_base.specs.Names.{Text}
use Rattle.desk_base.specs.Paths.{full}
use Rattle.desk_base.specs.declared.faults.Malformed.{Malformed}
use Rattle.desk_base.proofs.Results.{at_some}
use Rattle.desk_file.specs.ClassScans.{is_class_kind, scanned_as, scanned_at}
use Rattle.desk_file.specs.Images.{target}
use Rattle.desk_file.specs.Routes.{route_of}
use Rattle.desk_file.specs.Treatments.{is_class, is_selected_class, treatment_by}
use Rattle.desk_file.specs.declared.routes.Route.{Route}
use Rattle.desk_folders.specs.Contents.{Contents, file_at, paths_below}
use Rattle.desk_format.specs.Classes.{Class, read_class}
use Rattle.desk_paths.specs.declared.Kind.{Kind}
use Rattle.desk_paths.specs.declared.Kind.TheVariants as kinds
use Rattle.desk_paths.specs.Kinds.{kind_of}
use Rattle.desk_patterns.specs.PatternTexts.{FileTexts, texts_for}
use Rattle.desk_patterns.specs.Selections.{selects}
use Rattle.desk_readings.proofs.Fronts.{if_some}
use Rattle.desk_readings.specs.Readings.{scanned_route}
use Rattle.desk_rules.specs.Rules.{Rules}
use Rattle.desk_intake.proofs.There.{AllThere, files_there}

-- what is kept of a class by how its file is treated, and by its path
class_treated : (selected : Bool) (kind : Kind) (texts : Option FileTexts) (path : Text) (read : Result Class Malformed)
    → (if is_class (treatment_by selected kind texts) then scanned_as path (is_selected_class (treatment_by selected kind texts)) read else []) ≡ (if is_class_kind kind then scanned_as path selected read else [])
class_treated true kinds.Class texts path read = refl
class_treated false kinds.Class texts path read = refl
class_treated true kinds.Service texts path read = refl
class_treated false kinds.Service texts path read = refl
class_treated true kinds.Manifest texts path read = refl
class_treated false kinds.Manifest texts path read = refl
class_treated true kinds.Other None path read = refl
class_treated true kinds.Other (Some texts) path read = refl
class_treated false kinds.Other texts path read = refl

pub scanned_routed : (rules : Rules) (path bytes : Text) → scanned_route (route_of rules path) bytes ≡ scanned_at rules path bytes
scanned_routed rules path bytes = class_treated (selects rules.selection path) (kind_of path) (texts_for rules.texts path (target rules path)) path (read_class bytes)

-- the files of these routes are there
routes_there : (rules : Rules) (from : Text) (m : Contents) (paths : List Text) → AllThere from m (map (file_at from m) paths) → All (λ (route : Route). IsSome (fin.get m (full from route.path))) (map (route_of rules) paths)
routes_there rules from m [] h = All-nil (λ (route : Route). IsSome (fin.get m (full from route.path)))
routes_there rules from m (path ∷ paths) h =
    All-cons (λ (route : Route). IsSome (fin.get m (full from route.path))) (route_of rules path) (map (route_of rules) paths) (subst IsSome (sym h.0.held) refl) (routes_there rules from m paths h.1)

pub all_there : (rules : Rules) (from : Text) (told now : Option Contents) (routes : List Route) → now ≡ told → IfSome told (λ m. routes ≡ map (route_of rules) (paths_below from m))
    → IfSome now (λ m. All (λ (route : Route). IsSome (fin.get m (full from route.path))) routes)
all_there rules from told now routes same e = if_some _ now (λ m t.
    subst (All (λ (route : Route). IsSome (fin.get m (full from route.path)))) (sym (at_some (λ m. routes ≡ map (route_of rules) (paths_below from m)) told m (sym same ∙ t) e))
    (routes_there rules from m (paths_below from m) (files_there from m)))

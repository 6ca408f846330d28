-- Two applications as they are read.
use Rattle.std.proofs.Common.{All, ◌≡◌, ◌≤◌, ◌<◌, ℕ, suc, List, [], ◌∷◌, ◌++◌, length, map, map-id, take, drop, get_or, Option, Some, None, refl, sym, ap, ◌∙◌, subst, IfSome, IsSome, arith}
use Rattle.std.specs.FinMap as fin
use Rattle.std.proofs.lemmas.List.{length-map}
use Rattle.std.proofs.lemmas.List.Elements.{All-cons, All-head, All-nil, All-tail}
use Rattle.desk_base.specs.Names.{Text}
use Rattle.desk_base.specs.Paths.{full}
use Rattle.desk_base.proofs.Results.{at_some}
use Rattle.desk_clashes.specs.Clashes.{first_clash}
use Rattle.desk_file.specs.Images.{target}
use Rattle.desk_file.specs.Routes.{IsRouteBy, route_of}
use Rattle.desk_file.specs.declared.routes.Route.{Route}
use Rattle.desk_folders.specs.Contents.{Contents, File, file_at, files_below, paths_below}
use Rattle.desk_intake.proofs.Parts.{item_at}
use Rattle.desk_intake.proofs.There.{AllThere, files_there}
use Rattle.desk_intake.specs.Halts.{HaltsAt, HaltsClashing, HaltsWith}
use Rattle.desk_intake.specs.Limits.{itself, paths_answer}
use Rattle.desk_intake.specs.Standing.{clash_answer, clash_status}
use Rattle.desk_intake.specs.declared.halts.Halt.{Halt}
use Rattle.desk_readings.proofs.Fronts.{if_some, split_at}
use Rattle.desk_rules.specs.Rules.{Rules}
use Rattle.desk_comparison.specs.Answers.{other_answer, source_answer}
use Rattle.desk_comparison.specs.Files.{HasRead, IsRouted, files_of, path_of, route_in}
use Rattle.desk_comparison.specs.Halts.{HaltsStanding}
use Rattle.desk_comparison.specs.Sizes.{most_both, room_answer}
use Rattle.desk_comparison.specs.declared.reading.SourceFile.{SourceFile}
use Rattle.desk_comparison.proofs.Firsts.{clash_making, files_standing, first_none, first_some, halts_on, limit_standing, making_on}

-- ---- in a loop

pub there_turn : {X : Type 0} (path : X → Text) (root : Text) (told now : Option Contents) (xs : List X) (i : ℕ) (x : X) → now ≡ told → IfSome told (λ m. All (λ (y : X). IsSome (fin.get m (full root (path y)))) xs)
    → i < length xs → x ≡ get_or xs i x → IfSome now (λ m. IsSome (fin.get m (full root (path x))))
there_turn {X = X} path root told now xs i x same h lt is =
    subst (λ o. IfSome o (λ m. IsSome (fin.get m (full root (path x))))) (sym same) (if_some _ told (λ m e.
    item_at (λ (y : X). IsSome (fin.get m (full root (path y)))) xs i x (at_some (λ m. All (λ (y : X). IsSome (fin.get m (full root (path y)))) xs) told m e h) lt is))

pub split_turn : {X : Type 0} (xs gone : List X) (x : X) → map (λ x. x) gone ≡ take (length gone) xs → length gone < length xs → x ≡ get_or xs (length gone) x → xs ≡ gone ++ x ∷ drop (suc (length gone)) xs
split_turn {X = X} xs gone x so_far lt is =
    split_at xs (length gone) x lt is ∙ ap (λ (ys : List X). ys ++ x ∷ drop (suc (length gone)) xs) (sym so_far ∙ map-id gone)

-- the files at listed paths are there
paths_there : (root : Text) (m : Contents) (paths : List Text) → AllThere root m (map (file_at root m) paths) → All (λ (path : Text). IsSome (fin.get m (full root path))) paths
paths_there root m [] h = All-nil (λ (path : Text). IsSome (fin.get m (full root path)))
paths_there root m (path ∷ paths) h = All-cons (λ (path : Text). IsSome (fin.get m (full root path))) path paths (subst IsSome (sym h.0.held) refl) (paths_there root m paths h.1)

pub listed_there : (root : Text) (told now : Option Contents) (paths : List Text) → now ≡ told → IfSome told (λ m. paths ≡ paths_below root m) → IfSome now (λ m. All (λ (path : Text). IsSome (fin.get m (full root path))) paths)
listed_there root told now paths same listed = if_some _ now (λ m t.
    subst (All (λ (path : Text). IsSome (fin.get m (full root path)))) (sym (at_some (λ m. paths ≡ paths_below root m) told m (sym same ∙ t) listed)) (paths_there root m (paths_below root m) (files_there root m)))

pub listed_items : (root : Text) (told : Option Contents) (paths items : List Text) → items ≡ paths → IfSome told (λ m. paths ≡ paths_below root m) → IfSome told (λ m. items ≡ paths_below root m)
listed_items root told paths items e listed = if_some _ told (λ m t. e ∙ at_some (λ m. paths ≡ paths_below root m) told m t listed)

-- ---- routes

paths_routed : (rules : Rules) (paths : List Text) → map path_of (map (route_of rules) paths) ≡ paths
paths_routed rules [] = refl
paths_routed rules (path ∷ paths) = ap (λ (ps : List Text). path ∷ ps) (paths_routed rules paths)

targets_routed : (rules : Rules) (paths : List Text) → map (λ (r : Route). r.target) (map (route_of rules) paths) ≡ map (target rules) paths
targets_routed rules [] = refl
targets_routed rules (path ∷ paths) = ap (λ (ts : List Text). target rules path ∷ ts) (targets_routed rules paths)

paths_in_files : (files : List SourceFile) → map (λ (f : SourceFile). f.route.path) files ≡ map path_of (map route_in files)
paths_in_files [] = refl
paths_in_files (f ∷ files) = ap (λ (ps : List Text). f.route.path ∷ ps) (paths_in_files files)

targets_in_files : (files : List SourceFile) → map (λ (f : SourceFile). f.route.target) files ≡ map (λ (r : Route). r.target) (map route_in files)
targets_in_files [] = refl
targets_in_files (f ∷ files) = ap (λ (ts : List Text). f.route.target ∷ ts) (targets_in_files files)

routed_by : (rules : Rules) (files : List SourceFile) → All (λ (r : Route). IsRouteBy rules r) (map route_in files) → All (IsRouted rules) files
routed_by rules [] h = All-nil (IsRouted rules)
routed_by rules (f ∷ files) h =
    All-cons (IsRouted rules) f files (All-head (λ (r : Route). IsRouteBy rules r) f.route (map route_in files) h) (routed_by rules files (All-tail (λ (r : Route). IsRouteBy rules r) f.route (map route_in files) h))

pub all_routed : (rules : Rules) (files : List SourceFile) (routes : List Route) → map route_in files ≡ routes → All (λ (r : Route). IsRouteBy rules r) routes → All (IsRouted rules) files
all_routed rules files routes e h = routed_by rules files (subst (All (λ (r : Route). IsRouteBy rules r)) (sym e) h)

pub as_many : (files : List SourceFile) (routes : List Route) → map route_in files ≡ routes → length files ≡ length routes
as_many files routes e = sym (length-map files route_in) ∙ ap length e

-- ---- the application that is migrated

module _ (rules : Rules) (from : Text) (told : Option Contents) (routes : List Route) (listed : IfSome told (λ m. routes ≡ map (route_of rules) (paths_below from m))) where
  at : (m : Contents) → told ≡ Some m → map path_of routes ≡ paths_below from m
  at m t = ap (map path_of) (at_some (λ m. routes ≡ map (route_of rules) (paths_below from m)) told m t listed) ∙ paths_routed rules (paths_below from m)

  pub read_listed : (mid : Option Contents) (room left : ℕ) (files : List File) → mid ≡ told → IfSome mid (λ m. HasRead from m room (map path_of routes) files left) → IfSome told (λ m. HasRead from m room (paths_below from m) files left)
  read_listed mid room left files same read = if_some _ told (λ m t.
      subst (λ (ps : List Text). HasRead from m room ps files left) (at m t) (at_some (λ m. HasRead from m room (map path_of routes) files left) mid m (same ∙ t) read))

  module _ (clear : IfSome told (λ m. paths_answer from (target rules) (paths_below from m) ≡ None)) where
    paths_clear : (m : Contents) → told ≡ Some m → paths_answer from (target rules) (paths_below from m) ≡ None
    paths_clear m t = at_some (λ m. paths_answer from (target rules) (paths_below from m) ≡ None) told m t clear

    -- the reading of a file halts
    pub halts_reading : (mid : Option Contents) (room f f1 f' : ℕ) (h : Halt) → mid ≡ told → f ≤ f1 → room ≡ most_both → HaltsAt (λ m. room_answer room (map (file_at from m) (map path_of routes))) mid f1 f' h
        → HaltsStanding (source_answer rules from) told f f' h
    halts_reading mid room f f1 f' h same le is g =
        halts_on (λ m. room_answer room (map (file_at from m) (map path_of routes))) (source_answer rules from) told mid f f1 f' h same le
        (λ m status t e.
        first_none _ _ (paths_clear m t)
        ∙ first_some _ _ status (ap (λ (n : ℕ). room_answer n (files_below from m)) (sym is) ∙ ap (λ (ps : List Text). room_answer room (map (file_at from m) ps)) (sym (at m t)) ∙ e))
        (limit_standing _ mid f1 f' h g)

    module _ (files : List SourceFile) (are : map route_in files ≡ routes) (left : ℕ) (read : IfSome told (λ m. HasRead from m most_both (paths_below from m) (files_of files) left)) where
      clash_same : (m : Contents) → told ≡ Some m → clash_answer (target rules) (paths_below from m) ≡ clash_status (map (λ (f : SourceFile). f.route.path) files) (first_clash (map (λ (f : SourceFile). f.route.target) files))
      clash_same m t =
          let e = at_some (λ m. routes ≡ map (route_of rules) (paths_below from m)) told m t listed in
          ap (λ (ts : List Text). clash_status (paths_below from m) (first_clash ts))
          (sym (targets_in_files files ∙ ap (map (λ (r : Route). r.target)) (are ∙ e) ∙ targets_routed rules (paths_below from m)))
          ∙ ap (λ (ps : List Text). clash_status ps (first_clash (map (λ (f : SourceFile). f.route.target) files)))
          (sym (paths_in_files files ∙ ap (map path_of) are ∙ at m t))

      room_clear : (m : Contents) → told ≡ Some m → room_answer most_both (files_below from m) ≡ None
      room_clear m t = let h = at_some (λ m. HasRead from m most_both (paths_below from m) (files_of files) left) told m t read in ap (room_answer most_both) (sym h.are) ∙ h.fit

      pub source_clear : clash_status (map (λ (f : SourceFile). f.route.path) files) (first_clash (map (λ (f : SourceFile). f.route.target) files)) ≡ None → IfSome told (λ m. source_answer rules from m ≡ None)
      source_clear e = if_some _ told (λ m t. first_none _ _ (paths_clear m t) ∙ first_none _ _ (room_clear m t) ∙ clash_same m t ∙ e)

      -- two targets clash
      pub halts_clash : (f f' : ℕ) (h : Halt) → HaltsClashing (map (λ (f : SourceFile). f.route.path) files) (map (λ (f : SourceFile). f.route.target) files) h → HaltsStanding (source_answer rules from) told f f' h
      halts_clash f f' h g =
          making_on _ (source_answer rules from) told f f' h (λ m status t e. first_none _ _ (paths_clear m t) ∙ first_none _ _ (room_clear m t) ∙ clash_same m t ∙ e) (clash_making (map (λ (f : SourceFile). f.route.path) files) (map (λ (f : SourceFile). f.route.target) files) h g)

-- a limit of the paths
pub halts_listing : (rules : Rules) (from : Text) (told : Option Contents) (f f' : ℕ) (h : Halt) → HaltsWith (λ m. paths_answer from (target rules) (paths_below from m)) told f f' h → HaltsStanding (source_answer rules from) told f f' h
halts_listing rules from told f f' h g =
    halts_on (λ m. paths_answer from (target rules) (paths_below from m)) (source_answer rules from) told told f f f' h refl (omega arith) (λ m status t e. first_some _ _ status e) (files_standing _ told f f' h g)

-- ---- the other one

module _ (other : Text) (told : Option Contents) (paths : List Text) (listed : IfSome told (λ m. paths ≡ paths_below other m)) (clear : IfSome told (λ m. paths_answer other itself (paths_below other m) ≡ None)) where
  below_at : (m : Contents) → told ≡ Some m → paths ≡ paths_below other m
  below_at m t = at_some (λ m. paths ≡ paths_below other m) told m t listed

  none_long : (m : Contents) → told ≡ Some m → paths_answer other itself (paths_below other m) ≡ None
  none_long m t = at_some (λ m. paths_answer other itself (paths_below other m) ≡ None) told m t clear

  module _ (mid : Option Contents) (same : mid ≡ told) (room left : ℕ) (files : List File) (read : IfSome mid (λ m. HasRead other m room paths files left)) where
    read_at : (m : Contents) → told ≡ Some m → HasRead other m room paths files left
    read_at m t = at_some (λ m. HasRead other m room paths files left) mid m (same ∙ t) read

    pub other_read : IfSome told (λ m. files ≡ files_below other m)
    other_read = if_some _ told (λ m t. (read_at m t).are ∙ ap (map (file_at other m)) (below_at m t))

    pub other_clear : IfSome told (λ m. other_answer room other m ≡ None)
    other_clear = if_some _ told (λ m t.
        first_none _ _ (none_long m t) ∙ ap (room_answer room) (sym ((read_at m t).are ∙ ap (map (file_at other m)) (below_at m t))) ∙ (read_at m t).fit)

  pub other_halts : (mid : Option Contents) (room f f1 f' : ℕ) (h : Halt) → mid ≡ told → f ≤ f1 → HaltsAt (λ m. room_answer room (map (file_at other m) paths)) mid f1 f' h → HaltsStanding (other_answer room other) told f f' h
  other_halts mid room f f1 f' h same le g =
      halts_on (λ m. room_answer room (map (file_at other m) paths)) (other_answer room other) told mid f f1 f' h same le
      (λ m status t e. first_none _ _ (none_long m t) ∙ (ap (λ (ps : List Text). room_answer room (map (file_at other m) ps)) (sym (below_at m t)) ∙ e)) (limit_standing _ mid f1 f' h g)

pub other_listing : (other : Text) (told : Option Contents) (room f f' : ℕ) (h : Halt) → HaltsAt (λ m. paths_answer other itself (paths_below other m)) told f f' h → HaltsStanding (other_answer room other) told f f' h
other_listing other told room f f' h g =
    halts_on (λ m. paths_answer other itself (paths_below other m)) (other_answer room other) told told f f f' h refl (omega arith) (λ m status t e. first_some _ _ status e) (limit_standing _ told f f' h g)

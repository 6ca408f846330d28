-- What the first reading of the routes of a source says of its files.
use Rattle.std.proofs.Common.{All, ◌≡◌, ℕ, Bool, true, false, not, List, [], ◌∷◌, ◌++◌, length, map, refl, sym, ap, ◌∙◌, subst, cond, nat_lt, Option, Some, None, IfSome}
use Rattle.std.specs.Prelude.{if◌then◌else◌}
use Rattle.std.proofs.lemmas.List.Elements.{All-cons, All-head, All-nil, All-tail}
use Rattle.desk_base.specs.Limits.{file_size}
use Rattle.desk_base.specs.Names.{Text}
use Rattle.desk_base.specs.Paths.{full}
use Rattle.desk_base.proofs.Results.{at_some}
use Rattle.desk_readings.proofs.Fronts.{if_some}
use Rattle.desk_readings.specs.Sizes.{large_size}
use Rattle.desk_readings.specs.Noting.{IsWithin, NoteFails, NotedTo}
use Rattle.desk_readings.specs.Readings.{bytes_here, first_large, is_large, measured_at, most_by, note_at, scans_at}
use Rattle.desk_readings.specs.declared.measured.ClassNote.{ClassNote}
use Rattle.desk_readings.specs.declared.measured.MeasuredFile.{MeasuredFile}
use Rattle.desk_readings.specs.declared.faults.NoteFault.{NoteFault}
use Rattle.desk_readings.specs.declared.faults.NoteFault.TheVariants as note
use Rattle.desk_file.proofs.Treating.{whole_treated}
use Rattle.desk_file.specs.ClassScans.{scanned_at}
use Rattle.desk_file.specs.Routes.{IsRouteBy, route_of}
use Rattle.desk_file.specs.Treatments.{is_copy, is_whole, treatment_of}
use Rattle.desk_file.specs.declared.routes.Route.{Route}
use Rattle.desk_folders.specs.Contents.{Contents, File, bytes_at, file_at, files_below, paths_below}
use Rattle.desk_format.specs.Laws.{IsBytes}
use Rattle.desk_graph.specs.declared.scanned.Scanned.{Scanned}
use Rattle.desk_report.specs.declared.status.LimitKind.TheVariants.{FileSize}
use Rattle.desk_report.specs.declared.status.Status.{Status}
use Rattle.desk_report.specs.declared.status.Status.TheVariants.{Limit}
use Rattle.desk_rules.specs.Rules.{Rules}
use Rattle.desk_second.specs.Applications.{classes_of}
use Rattle.desk_intake.proofs.Listed.{scanned_routed}
use Rattle.desk_intake.specs.Halts.{HaltsWith}
use Rattle.desk_intake.specs.Limits.{most_size, size_answer}
use Rattle.desk_run.specs.Notes.{IsRead, measured_of}
use Rattle.desk_intake.specs.Routes.{IsRelativeRoute}
use Rattle.desk_intake.specs.Faults.{halt_of_note}

-- ---- sizes and digests

measured_routed : (rules : Rules) (from : Text) (m : Contents) (paths : List Text) → map (measured_at rules from m) (map (route_of rules) paths) ≡ map (measured_of rules) (map (file_at from m) paths)
measured_routed rules from m [] = refl
measured_routed rules from m (path ∷ paths) = ap (λ (fs : List MeasuredFile). measured_of rules (file_at from m path) ∷ fs) (measured_routed rules from m paths)

-- ---- classes

scans_routed : (rules : Rules) (from : Text) (m : Contents) (paths : List Text) → scans_at from m (map (route_of rules) paths) ≡ classes_of rules (map (file_at from m) paths)
scans_routed rules from m [] = refl
scans_routed rules from m (path ∷ paths) =
    ap (λ (ss : List Scanned). ss ++ scans_at from m (map (route_of rules) paths)) (scanned_routed rules path (bytes_at m (full from path)))
    ∙ ap (λ (ss : List Scanned). scanned_at rules path (bytes_at m (full from path)) ++ ss) (scans_routed rules from m paths)

-- ---- bytes

bytes_routed : (rules : Rules) (from : Text) (m : Contents) (paths : List Text) → All (λ (route : Route). IsBytes (bytes_here from m route)) (map (route_of rules) paths) → All (λ (file : File). IsBytes file.bytes) (map (file_at from m) paths)
bytes_routed rules from m [] h = All-nil (λ (file : File). IsBytes file.bytes)
bytes_routed rules from m (path ∷ paths) h =
    let P : Route → Type 0 = λ route. IsBytes (bytes_here from m route) in
    All-cons (λ (file : File). IsBytes file.bytes) (file_at from m path) (map (file_at from m) paths) (All-head P (route_of rules path) (map (route_of rules) paths) h) (bytes_routed rules from m paths (All-tail P (route_of rules path) (map (route_of rules) paths) h))

-- ---- limits

most_same : (copy : Bool) → cond copy large_size file_size ≡ cond (not copy) file_size large_size
most_same true = refl
most_same false = refl

-- how many bytes a file may have
most_treated : (rules : Rules) (path : Text) → most_by (treatment_of rules path) ≡ most_size (is_whole rules path)
most_treated rules path = most_same (is_copy (treatment_of rules path)) ∙ ap most_size (whole_treated rules path)

abbrev pub large_status : Option Text → Option Status
large_status None = None
large_status (Some path) = Some (Limit FileSize path)

large_by : (over : Bool) (path : Text) (large : Option Text) (answer : Option Status) → large_status large ≡ answer → large_status (if over then Some path else large) ≡ (if over then Some (Limit FileSize path) else answer)
large_by true path large answer e = refl
large_by false path large answer e = e

large_routed : (rules : Rules) (from : Text) (m : Contents) (paths : List Text) → large_status (first_large from m (map (route_of rules) paths)) ≡ size_answer (is_whole rules) (map (file_at from m) paths)
large_routed rules from m [] = refl
large_routed rules from m (path ∷ paths) =
    large_by (is_large from m (route_of rules path)) path (first_large from m (map (route_of rules) paths)) (size_answer (is_whole rules) (map (file_at from m) paths)) (large_routed rules from m paths)
    ∙ ap (λ n. if nat_lt n (length (bytes_at m (full from path))) then Some (Limit FileSize path) else size_answer (is_whole rules) (map (file_at from m) paths)) (most_treated rules path)

-- ---- of all files below a root

-- what is known of the files of these routes
pub record SaysOf (rules : Rules) (from : Text) (m : Contents) (files : List MeasuredFile) (classes : List Scanned) : Type 0 where
  pub are : files ≡ map (measured_of rules) (files_below from m)
  pub scanned : classes ≡ classes_of rules (files_below from m)
  pub bytes : All (λ (file : File). IsBytes file.bytes) (files_below from m)
  pub fit : size_answer (is_whole rules) (files_below from m) ≡ None

pub says_of : (rules : Rules) (from : Text) (m : Contents) (routes : List Route) (files : List MeasuredFile) (classes : List Scanned) → routes ≡ map (route_of rules) (paths_below from m) → NotedTo rules from m routes files classes
    → SaysOf rules from m files classes
says_of rules from m routes files classes e n = record {
  are = n.files ∙ ap (map (measured_at rules from m)) e ∙ measured_routed rules from m (paths_below from m);
  scanned = n.scanned ∙ ap (scans_at from m) e ∙ scans_routed rules from m (paths_below from m);
  bytes = bytes_routed rules from m (paths_below from m) (subst (All (λ (route : Route). IsBytes (bytes_here from m route))) e n.bytes);
  fit = sym (ap large_status (sym n.fit ∙ ap (first_large from m) e) ∙ large_routed rules from m (paths_below from m));
}

-- where one of them has too many bytes
pub halts_large : (rules : Rules) (from : Text) (told : Option Contents) (routes : List Route) (f f' : ℕ) (fault : NoteFault) → IfSome told (λ m. routes ≡ map (route_of rules) (paths_below from m))
    → NoteFails (λ m. first_large from m routes) told f f' fault → HaltsWith (λ m. size_answer (is_whole rules) (files_below from m)) told f f' (halt_of_note fault)
halts_large rules from told routes f f' note.Memory e g = tt
halts_large rules from told routes f f' note.Folders e g = g
halts_large rules from told routes f f' (note.TooLarge path) e g = (
  refl,
  if_some _ told (λ m t.
      sym (large_routed rules from m (paths_below from m))
      ∙ ap large_status (ap (first_large from m) (sym (at_some (λ m. routes ≡ map (route_of rules) (paths_below from m)) told m t e)) ∙ at_some (λ m. first_large from m routes ≡ Some path) told m t g)),
)

-- ---- whatever is told

pub all_read : (rules : Rules) (routes : List Route) (files : List MeasuredFile) → map (λ (file : MeasuredFile). file.route) files ≡ routes → All (λ (route : Route). IsRelativeRoute route) routes → All (λ (route : Route). IsRouteBy rules route) routes
    → All IsWithin files → All (IsRead rules) files
all_read rules routes files e relative routed within =
    by files (subst (All (λ (route : Route). IsRelativeRoute route)) (sym e) relative) (subst (All (λ (route : Route). IsRouteBy rules route)) (sym e) routed) within where
      by : (files : List MeasuredFile) → All (λ (route : Route). IsRelativeRoute route) (map (λ (file : MeasuredFile). file.route) files) → All (λ (route : Route). IsRouteBy rules route) (map (λ (file : MeasuredFile). file.route) files)
          → All IsWithin files → All (IsRead rules) files
      by [] r s w = All-nil (IsRead rules)
      by (file ∷ files) r s w =
          let rest = map (λ (file : MeasuredFile). file.route) files in
          All-cons (IsRead rules) file files (record {
            route = All-head (λ (route : Route). IsRouteBy rules route) file.route rest s;
            relative = All-head (λ (route : Route). IsRelativeRoute route) file.route rest r;
            within = All-head IsWithin file files w;
          })
          (by files (All-tail (λ (route : Route). IsRelativeRoute route) file.route rest r) (All-tail (λ (route : Route). IsRouteBy rules route) file.route rest s) (All-tail IsWithin file files w))

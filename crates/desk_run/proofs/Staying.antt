-- What is known of the images of classes before they are read again.
use Rattle.std.proofs.Common.{All, ◌≡◌, ℕ, Bool, true, false, List, [], ◌∷◌, ◌++◌, map, refl, sym, ap, ap₂, ◌∙◌, subst, length, Option, Some, None, Result, Ok, Err, unwrap_or}
use Rattle.std.specs.Prelude.{if◌then◌else◌}
use Rattle.std.proofs.lemmas.List.{map-append}
use Rattle.std.proofs.lemmas.List.Elements.{All-cons, All-head, All-nil, All-tail}
use Rattle.desk_base.specs.Names.{Text}
use Rattle.desk_base.specs.Paths.{full}
use Rattle.desk_base.specs.declared.faults.Malformed.{Malformed}
use Rattle.desk_batches.specs.Details.{bare, counts_behind, image_note, image_notes, notes_in}
use Rattle.desk_batches.specs.Notes.{BecomesAsNoted, IsImageNote, IsSound}
use Rattle.desk_batches.specs.Turns.{work_in, works_in}
use Rattle.desk_batches.specs.Works.{Work}
use Rattle.desk_batches.specs.declared.planned.ImageNote.{ImageNote}
use Rattle.desk_batches.specs.declared.planned.PlannedFile.{PlannedFile}
use Rattle.desk_batches.specs.declared.planned.Outcome.{Outcome}
use Rattle.desk_class.specs.Held.{ascending}
use Rattle.desk_file.proofs.Noting.{linked_itself, noted_itself}
use Rattle.desk_file.proofs.Treating.{image_routed}
use Rattle.desk_file.specs.ClassScans.{noted_as, odd_as, odd_of, scanned_as}
use Rattle.desk_file.proofs.ClassImages.{relinked}
use Rattle.desk_file.specs.Classes.{class_image}
use Rattle.desk_file.specs.Linked.{image_in, linked_class, with_links}
use Rattle.desk_graph.specs.Graphs.{links_of}
use Rattle.desk_file.specs.Routes.{route_of}
use Rattle.desk_file.specs.Images.{copied, target}
use Rattle.desk_file.specs.Treatments.{image_as, is_class, is_selected_class, treatment_of}
use Rattle.desk_file.specs.declared.images.Image.{Image}
use Rattle.desk_file.specs.declared.scans.NotedClass.{NotedClass}
use Rattle.desk_file.specs.declared.treatments.Treatment.{Treatment}
use Rattle.desk_file.specs.declared.treatments.Treatment.TheVariants as treatments
use Rattle.desk_folders.specs.Contents.{Contents, File, bytes_at}
use Rattle.desk_format.specs.Classes.{Class, read_class}
use Rattle.desk_format.specs.Laws.{IsBytes}
use Rattle.desk_graph.proofs.Counting.{links_counted}
use Rattle.desk_graph.specs.Application.{defined_names, link_count}
use Rattle.desk_graph.specs.Scans.{scan_of}
use Rattle.desk_graph.specs.declared.scanned.Scanned.{Scanned}
use Rattle.desk_intake.proofs.Listed.{scanned_routed}
use Rattle.desk_intake.proofs.There.{AllThere}
use Rattle.desk_patterns.specs.PatternTexts.{texts_for}
use Rattle.desk_readings.specs.Readings.{class_note, noted_route, scanned_route}
use Rattle.desk_readings.specs.declared.measured.ClassNote.{ClassNote}
use Rattle.desk_readings.specs.declared.measured.MeasuredFile.{MeasuredFile}
use Rattle.desk_report.specs.declared.lines.Detail.TheVariants as detail
use Rattle.desk_report.specs.declared.lines.Reason.{Reason}
use Rattle.desk_rules.specs.Rules.{Rules}
use Rattle.desk_second.specs.Applications.{classes_of}
use Rattle.desk_ledger.specs.Ledger.{Rows}
use Rattle.desk_ledger.specs.declared.keeper.Held.{Held}
use Rattle.desk_run.specs.Notes.{class_note_of, measured_in, measured_of, planned_by}
use Rattle.desk_run.specs.Reports.{lines_of, outcome_line}

-- ---- what doesn't depend on them

pub of_bare : (P : PlannedFile → Type 0) (xs ys : List PlannedFile) → ((x y : PlannedFile) → bare x ≡ bare y → P y → P x) → map bare xs ≡ map bare ys → All P ys → All P xs
of_bare P [] ys moves e h = All-nil P
of_bare P (x ∷ xs) [] moves e h = absurd cc
of_bare P (x ∷ xs) (y ∷ ys) moves e h =
    let here : bare x ≡ bare y = cc in
    let later : map bare xs ≡ map bare ys = cc in
    All-cons P x xs (moves x y here (All-head P y ys h)) (of_bare P xs ys moves later (All-tail P y ys h))

of_sound : (x : PlannedFile) → IsSound x → IsSound (bare x)
of_sound x h = record { path = h.path; target = h.target; size = h.size }

sound_of : (x : PlannedFile) → IsSound (bare x) → IsSound x
sound_of x h = record { path = h.path; target = h.target; size = h.size }

pub sound_bare : (x y : PlannedFile) → bare x ≡ bare y → IsSound y → IsSound x
sound_bare x y e h = sound_of x (subst IsSound (sym e) (of_sound y h))

-- files that were planned have nothing more
pub bare_planned : (planned : List PlannedFile) (finds : Text → Held → Bool) (rows : Rows) (files : List MeasuredFile) → planned ≡ map (planned_by finds rows) files → map bare planned ≡ map (planned_by finds rows) files
bare_planned planned finds rows files e = ap (map bare) e ∙ by finds rows files where
  by : (finds : Text → Held → Bool) (rows : Rows) (files : List MeasuredFile) → map bare (map (planned_by finds rows) files) ≡ map (planned_by finds rows) files
  by finds rows [] = refl
  by finds rows (file ∷ files) = ap (λ (ns : List PlannedFile). planned_by finds rows file ∷ ns) (by finds rows files)

measured_bare : (xs : List PlannedFile) → map measured_in (map bare xs) ≡ map measured_in xs
measured_bare [] = refl
measured_bare (x ∷ xs) = ap (λ (ms : List MeasuredFile). measured_in x ∷ ms) (measured_bare xs)

pub measured_same : (xs ys : List PlannedFile) → map bare xs ≡ map bare ys → map measured_in xs ≡ map measured_in ys
measured_same xs ys e = sym (measured_bare xs) ∙ ap (map measured_in) e ∙ measured_bare ys

pub works_bare : (image : Text → Text → Result Image Reason) (from : Text) (m : Contents) (xs : List PlannedFile) → works_in image from m (map bare xs) ≡ works_in image from m xs
works_bare image from m [] = refl
works_bare image from m (x ∷ xs) = ap (λ (ws : List Work). work_in image from m x ∷ ws) (works_bare image from m xs)

pub lines_bare : (xs : List PlannedFile) (outcomes : List Outcome) → lines_of xs outcomes ≡ lines_of (map bare xs) outcomes
lines_bare [] outcomes = refl
lines_bare (x ∷ xs) [] = refl
lines_bare (x ∷ xs) (outcome ∷ outcomes) = ap (λ (t : Text). outcome_line x.route.path x.route.target outcome ++ t) (lines_bare xs outcomes)

-- what is noted of classes is planned with the files
pub classes_same : (xs : List PlannedFile) → map (λ (x : PlannedFile). x.class) xs ≡ map (λ (file : MeasuredFile). file.class) (map measured_in xs)
classes_same [] = refl
classes_same (x ∷ xs) = ap (λ (ns : List ClassNote). x.class ∷ ns) (classes_same xs)

-- and of files that were read it is what their bytes say
pub classes_noted : (rules : Rules) (files : List File) → map (λ (file : MeasuredFile). file.class) (map (measured_of rules) files) ≡ map (class_note_of rules) files
classes_noted rules [] = refl
classes_noted rules (file ∷ files) = ap (λ (ns : List ClassNote). class_note_of rules file ∷ ns) (classes_noted rules files)

-- ---- they are true

-- what is known of one file, of which these classes are kept
abbrev Stays : Rules → List Text → Text → Text → Option NotedClass → List Scanned → List ℕ → Type 0
Stays rules defined path bytes noted kept counts =
    IsImageNote (image_note (class_note noted) (map (link_count defined) kept ++ counts)) bytes (image_in rules defined path bytes)
    × (counts_behind (class_note noted) (map (link_count defined) kept ++ counts) ≡ counts)

abbrev StaysBy : Rules → List Text → Text → Text → List ℕ → Treatment → Type 0
StaysBy rules defined path bytes counts t =
    Stays rules defined path bytes (if is_class t then noted_as rules path (is_selected_class t) (read_class bytes) else None) (if is_class t then scanned_as path (is_selected_class t) (read_class bytes) else []) counts

-- the image of a selected class in which nothing changes
class_stays : (rules : Rules) (ss : List Scanned) (path bytes : Text) (c : Class) (odd : ℕ) → IsBytes bytes → treatment_of rules path ≡ treatments.Class → read_class bytes ≡ Ok c → odd_of rules true c ≡ Some odd
    → image_in rules (ascending (defined_names ss)) path bytes ≡ Ok (record { bytes = bytes; detail = detail.Class 0 0 odd (link_count (ascending (defined_names ss)) (scan_of path true c)) })
class_stays rules ss path bytes c odd b how reads e =
    let defined = ascending (defined_names ss) in
    let itself = noted_itself rules true bytes odd b (ap (odd_as rules true) reads ∙ e) in
    image_routed rules defined (route_of rules path) bytes refl ∙ ap (image_as rules defined (texts_for rules.texts path (target rules path)) bytes) how ∙ linked_itself rules defined bytes odd itself
    ∙ ap (λ (n : ℕ). Ok (record { bytes = bytes; detail = detail.Class 0 0 odd n })) (sym (links_counted ss bytes path true c reads))

-- that of any selected class, which has so many links
class_linked : (rules : Rules) (ss : List Scanned) (path bytes : Text) (selected : Bool) (c : Class) → treatment_of rules path ≡ treatments.Class → read_class bytes ≡ Ok c
    → image_in rules (ascending (defined_names ss)) path bytes ≡ with_links (link_count (ascending (defined_names ss)) (scan_of path selected c)) (image_in rules (ascending (defined_names ss)) path bytes)
class_linked rules ss path bytes selected c how reads =
    let defined = ascending (defined_names ss) in
    let linked : image_in rules defined path bytes ≡ linked_class rules defined bytes = image_routed rules defined (route_of rules path) bytes refl ∙ ap (image_as rules defined (texts_for rules.texts path (target rules path)) bytes) how in
    let count : link_count defined (scan_of path selected c) ≡ length (links_of defined bytes) = links_counted ss bytes path selected c reads in
    linked ∙ sym (relinked (length (links_of defined bytes)) (length (links_of defined bytes)) (class_image rules bytes))
    ∙ ap₂ with_links (sym count) (sym linked)

selected_stays : (rules : Rules) (ss : List Scanned) (path bytes : Text) (counts : List ℕ) → IsBytes bytes → treatment_of rules path ≡ treatments.Class
    → Stays rules (ascending (defined_names ss)) path bytes (noted_as rules path true (read_class bytes)) (scanned_as path true (read_class bytes)) counts
selected_stays rules ss path bytes counts b how =
    elim (read_class bytes) as (λ (r : Result Class Malformed). read_class bytes ≡ r → Stays rules (ascending (defined_names ss)) path bytes (noted_as rules path true r) (scanned_as path true r) counts) [
      | Ok c ↦ λ reads. elim (odd_of rules true c) as (λ (o : Option ℕ). odd_of rules true c ≡ o → Stays rules (ascending (defined_names ss)) path bytes (Some (record { scanned = scan_of path true c; odd = o })) (scan_of path true c ∷ []) counts) [
        | Some odd ↦ λ e. (class_stays rules ss path bytes c odd b how reads e, refl)
        | None ↦ λ e. (class_linked rules ss path bytes true c how reads, refl)
      ] refl
      | Err fault ↦ λ reads. (tt, refl)
    ] refl

-- a class that isn't selected is copied, which has no links
unselected_stays : (rules : Rules) (defined : List Text) (path bytes : Text) (counts : List ℕ) (read : Result Class Malformed) → treatment_of rules path ≡ treatments.UnselectedClass
    → Stays rules defined path bytes (noted_as rules path false read) (scanned_as path false read) counts
unselected_stays rules defined path bytes counts (Ok c) how =
    let copy : image_in rules defined path bytes ≡ Ok (copied bytes) = image_routed rules defined (route_of rules path) bytes refl ∙ ap (image_as rules defined (texts_for rules.texts path (target rules path)) bytes) how in
    (copy ∙ ap (with_links (link_count defined (scan_of path false c))) (sym copy), refl)
unselected_stays rules defined path bytes counts (Err fault) how = (tt, refl)

by_treatment : (rules : Rules) (ss : List Scanned) (path bytes : Text) (counts : List ℕ) (t : Treatment) → IsBytes bytes → treatment_of rules path ≡ t → StaysBy rules (ascending (defined_names ss)) path bytes counts t
by_treatment rules ss path bytes counts treatments.Class b how = selected_stays rules ss path bytes counts b how
by_treatment rules ss path bytes counts treatments.UnselectedClass b how = unselected_stays rules (ascending (defined_names ss)) path bytes counts (read_class bytes) how
by_treatment rules ss path bytes counts treatments.Service b how = (tt, refl)
by_treatment rules ss path bytes counts treatments.Manifest b how = (tt, refl)
by_treatment rules ss path bytes counts treatments.Texts b how = (tt, refl)
by_treatment rules ss path bytes counts treatments.Copy b how = (tt, refl)

noted_here : (image : Text → Text → Result Image Reason) (p q a b : Text) (s t : ImageNote) → p ≡ q → a ≡ b → s ≡ t → IsImageNote t b (image q b) → IsImageNote s a (image p a)
noted_here image p q a b s t path bytes same h =
    subst (λ (p : Text). IsImageNote s a (image p a)) (sym path)
    (subst (λ (a : Text). IsImageNote s a (image q a)) (sym bytes)
    (subst (λ (s : ImageNote). IsImageNote s b (image q b)) (sym same) h))

-- what is known of the images of files that are planned, by what was noted of them as classes and how many defined names these hold
pub all_noted : (rules : Rules) (ss : List Scanned) (from : Text) (m : Contents) (files : List File) (planned : List PlannedFile) (counts : List ℕ) → AllThere from m files → All (λ (file : File). IsBytes file.bytes) files
    → map measured_in planned ≡ map (measured_of rules) files → counts ≡ map (link_count (ascending (defined_names ss))) (classes_of rules files) → notes_in planned ≡ image_notes (map (class_note_of rules) files) counts
    → All (BecomesAsNoted (image_in rules (ascending (defined_names ss))) from m) planned
all_noted rules ss from m [] [] counts there bytes same are e = All-nil (BecomesAsNoted (image_in rules (ascending (defined_names ss))) from m)
all_noted rules ss from m [] (x ∷ planned) counts there bytes same are e = absurd cc
all_noted rules ss from m (file ∷ files) [] counts there bytes same are e = absurd cc
all_noted rules ss from m (file ∷ files) (x ∷ planned) counts there bytes same are e =
    let defined = ascending (defined_names ss) in
    let later = map (link_count defined) (classes_of rules files) in
    let route = route_of rules file.path in
    let kept = scanned_route route file.bytes in
    let note = class_note_of rules file in
    let split : counts ≡ map (link_count defined) kept ++ later =
    are ∙ ap (λ (cs : List Scanned). map (link_count defined) (cs ++ classes_of rules files)) (sym (scanned_routed rules file.path file.bytes)) ∙ map-append (link_count defined) kept (classes_of rules files) in
    let one : Stays rules defined file.path file.bytes (noted_route rules route file.bytes) kept later =
    by_treatment rules ss file.path file.bytes later (treatment_of rules file.path) (All-head (λ (file : File). IsBytes file.bytes) file files bytes) refl in
    let measured : measured_in x ≡ measured_of rules file = cc in
    let rest : map measured_in planned ≡ map (measured_of rules) files = cc in
    let image : x.image ≡ image_note note counts = cc in
    let images : notes_in planned ≡ image_notes (map (class_note_of rules) files) (counts_behind note counts) = cc in
    let path : x.route.path ≡ file.path = ap (λ (f : MeasuredFile). f.route.path) measured in
    let here : bytes_at m (full from x.route.path) ≡ file.bytes = ap (λ (p : Text). bytes_at m (full from p)) path ∙ ap (λ (o : Option Text). unwrap_or o []) there.0.held in
    let behind : counts_behind note counts ≡ later = ap (counts_behind note) split ∙ one.1 in
    All-cons (BecomesAsNoted (image_in rules defined) from m) x planned
    (noted_here (image_in rules defined) x.route.path file.path (bytes_at m (full from x.route.path)) file.bytes x.image (image_note note (map (link_count defined) kept ++ later)) path here (image ∙ ap (image_note note) split) one.0)
    (all_noted rules ss from m files planned (counts_behind note counts) there.1 (All-tail (λ (file : File). IsBytes file.bytes) file files bytes) rest behind images)

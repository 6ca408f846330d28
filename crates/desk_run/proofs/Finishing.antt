-- From what was gathered, planned and written to what a run promises.
use Rattle.std.proofs.Common.{All, ◌≡◌, ℕ, List, ◌++◌, map, Option, Some, None, refl, sym, ap, ◌∙◌, subst, IfSome, option_map}
use Rattle.desk_base.specs.Names.{Text}
use Rattle.desk_base.proofs.Results.{at_some}
use Rattle.desk_readings.proofs.Fronts.{if_some}
use Rattle.desk_batches.specs.Notes.{BecomesAsNoted, IsNoteOf}
use Rattle.desk_batches.specs.Turns.{outcome_of, works_in}
use Rattle.desk_batches.specs.Works.{files_after, ledger_after}
use Rattle.desk_batches.specs.declared.planned.PlannedFile.{PlannedFile}
use Rattle.desk_batches.specs.declared.planned.Outcome.{Outcome}
use Rattle.desk_batches.specs.declared.stops.Stop.{Stop}
use Rattle.desk_file.specs.Linked.{image_in}
use Rattle.desk_folders.specs.Contents.{Contents, files_below}
use Rattle.desk_graph.specs.Application.{link_count}
use Rattle.desk_graph.specs.Graphs.{Graph, graph_of}
use Rattle.desk_ledger.specs.Ledger.{Ledger, with_header}
use Rattle.desk_words.specs.Roots.{AreRoots}
use Rattle.desk_words.specs.declared.roots.Roots.{Roots}
use Rattle.desk_run.proofs.Staying.{all_noted, classes_noted, lines_bare, works_bare}
use Rattle.desk_run.proofs.Ending.{finish_stands, is_written_all, stop_finishes}
use Rattle.desk_run.proofs.Measures.{all_notes}
use Rattle.desk_run.proofs.Preparing.{names_of, planned_run}
use Rattle.desk_run.specs.Answers.{other_run}
use Rattle.desk_run.specs.Endings.{AllWritten, GatheredFrom, HasGathered, IsWritten, Planned, StandsAfter, Tells, WhereTold}
use Rattle.desk_run.specs.Meaning.{defined_in, finds_in, header_of}
use Rattle.desk_run.specs.Asked.{Asked, asked_roots}
use Rattle.desk_intake.proofs.There.{files_there}
use Rattle.desk_readings.specs.declared.measured.ClassNote.{ClassNote}
use Rattle.desk_readings.specs.declared.measured.MeasuredFile.{MeasuredFile}
use Rattle.desk_batches.specs.Details.{bare, image_notes, notes_in}
use Rattle.desk_run.specs.Notes.{measured_in, planned_by}
use Rattle.desk_report.specs.Texts.{summary_text}
use Rattle.desk_run.specs.Reports.{summary_by}
use Rattle.desk_run.specs.Stops.{StopsAt, status_of_stop}
use Rattle.desk_run.specs.Truth.{IsOurs}
use Rattle.desk_run.specs.declared.gather.Gathered.{Gathered}

-- what was planned says the truth of the files, where the folders tell
pub gathered_notes : (names : Roots) (g : Gathered) (planned : List PlannedFile) (told : Option Contents) → HasGathered names told g → map measured_in planned ≡ g.notes.files.items → IfSome told (λ m. All (IsNoteOf names.from m) planned)
gathered_notes names g planned told h e = if_some _ told (λ m t.
    let from = at_some (λ m. GatheredFrom names m g) told m t h.told_of in
    all_notes g.ruled.value.rules names.from m g.notes.files.items planned e from.files.are)

-- and of their images
pub gathered_images : (names : Roots) (g : Gathered) (graph : Graph) (planned : List PlannedFile) (told : Option Contents) → HasGathered names told g → graph ≡ graph_of g.ruled.value.rules g.notes.scanned.items
    → map measured_in planned ≡ g.notes.files.items → notes_in planned ≡ image_notes (map (λ (file : MeasuredFile). file.class) g.notes.files.items) graph.link_counts → IfSome told (λ m. All (BecomesAsNoted (image_in g.ruled.value.rules graph.defined) names.from m) planned)
gathered_images names g graph planned told h is measured images = if_some _ told (λ m t.
    let from = at_some (λ m. GatheredFrom names m g) told m t h.told_of in
    let rules = g.ruled.value.rules in
    let scanned = g.notes.scanned.items in
    let files = files_below names.from m in
    subst (λ (x : Graph). All (BecomesAsNoted (image_in rules x.defined) names.from m) planned) (sym is)
    (all_noted rules scanned names.from m files planned graph.link_counts (files_there names.from m) from.files.bytes (measured ∙ from.files.are)
    (ap (λ (x : Graph). x.link_counts) is ∙ ap (map (link_count (defined_in scanned))) from.files.scanned) (images ∙ ap (λ (ns : List ClassNote). image_notes ns graph.link_counts) (ap (map (λ (file : MeasuredFile). file.class)) from.files.are ∙ classes_noted rules files))))

-- what is known where a run was planned, of these names that classes define
pub record IsPlanned (names : Roots) (g : Gathered) (defined : List Text) (planned : List PlannedFile) (f0 : Option Contents) (k0 k1 : Option Ledger) : Type 0 where
  pub sound : AreRoots names
  pub gathered : HasGathered names f0 g
  pub defined_is : defined ≡ defined_in g.notes.scanned.items
  pub clear : names_of g ≡ None
  pub rows : WhereTold f0 k0 (λ m l. map bare planned ≡ map (planned_by (finds_in names m) l.rows) g.notes.files.items)
  pub ours : IfSome k0 (λ l. IsOurs (header_of names g.ruled.value) l.header)
  pub other : IfSome k0 (λ l. other_run (header_of names g.ruled.value) l.header ≡ None)
  pub ledger : k1 ≡ option_map (with_header (header_of names g.ruled.value)) k0

-- from what the planning ensures
pub is_planned : (names : Roots) (g : Gathered) (graph : Graph) (planned : List PlannedFile) (f0 : Option Contents) (k0 k1 : Option Ledger) → AreRoots names → HasGathered names f0 g → graph ≡ graph_of g.ruled.value.rules g.notes.scanned.items → names_of g ≡ None
    → WhereTold f0 k0 (λ m l. map bare planned ≡ map (planned_by (finds_in names m) l.rows) g.notes.files.items) → IfSome k0 (λ l. IsOurs (header_of names g.ruled.value) l.header) → IfSome k0 (λ l. other_run (header_of names g.ruled.value) l.header ≡ None) → k1 ≡ option_map (with_header (header_of names g.ruled.value)) k0
    → IsPlanned names g graph.defined planned f0 k0 k1
is_planned names g graph planned f0 k0 k1 sound gathered is clear rows ours other ledger =
    record { sound = sound; gathered = gathered; defined_is = ap (λ (x : Graph). x.defined) is; clear = clear; rows = rows; ours = ours; other = other; ledger = ledger }

plan_at : (names : Roots) (g : Gathered) (defined : List Text) (planned : List PlannedFile) (f0 : Option Contents) (k0 k1 : Option Ledger) (m : Contents) (l : Ledger) → f0 ≡ Some m → k0 ≡ Some l → IsPlanned names g defined planned f0 k0 k1
    → Planned (asked_roots names) m l names.to (header_of names g.ruled.value) (works_in (image_in g.ruled.value.rules (defined_in g.notes.scanned.items)) names.from m planned)
plan_at names g defined planned f0 k0 k1 m l ef ek p =
    let p0 = planned_run names m l g (map bare planned) p.sound (subst (λ o. HasGathered names o g) ef p.gathered) p.clear (p.rows m l ef ek)
    (at_some (λ l. IsOurs (header_of names g.ruled.value) l.header) k0 l ek p.ours) (at_some (λ l. other_run (header_of names g.ruled.value) l.header ≡ None) k0 l ek p.other) in
    record {
      run = p0.run;
      ready = p0.ready;
      runs = p0.runs;
      to_is = p0.to_is;
      header_is = p0.header_is;
      other = p0.other;
      ours = p0.ours;
      are = sym (works_bare (image_in g.ruled.value.rules (defined_in g.notes.scanned.items)) names.from m planned) ∙ p0.are;
    }

-- the report says nothing of what was known before
written_bare : (asked : Asked) (m0 : Contents) (l0 : Ledger) (planned : List PlannedFile) (outcomes : List Outcome) (f' : Option Contents) (k' : Option Ledger) → Tells f' k' (λ m l. IsWritten asked m0 l0 m l (map bare planned) outcomes)
    → Tells f' k' (λ m l. IsWritten asked m0 l0 m l planned outcomes)
written_bare asked m0 l0 planned outcomes f' k' t = record {
  m = t.m;
  l = t.l;
  folders = t.folders;
  ledger = t.ledger;
  holds = record {
    done = t.holds.done;
    report_is = ap (λ (lines : Text). lines ++ summary_text (summary_by outcomes)) (lines_bare planned outcomes) ∙ t.holds.report_is;
    totals = t.holds.totals;
    ends = t.holds.ends;
  };
}

-- all is written
pub gathered_written : (names : Roots) (g : Gathered) (defined : List Text) (planned : List PlannedFile) (outcomes : List Outcome) (f0 f' : Option Contents) (k0 k1 k' : Option Ledger) → IsPlanned names g defined planned f0 k0 k1
    → IfSome f0 (λ m. f' ≡ option_map (files_after names.to (works_in (image_in g.ruled.value.rules defined) names.from m planned)) f0)
    → IfSome f0 (λ m. k' ≡ option_map (ledger_after (works_in (image_in g.ruled.value.rules defined) names.from m planned)) k1)
    → IfSome f0 (λ m. outcomes ≡ map outcome_of (works_in (image_in g.ruled.value.rules defined) names.from m planned))
    → WhereTold f0 k0 (λ m0 l0. Tells f' k' (λ m l. IsWritten (asked_roots names) m0 l0 m l planned outcomes))
unfolding plan_at planned_run
gathered_written names g defined planned outcomes f0 f' k0 k1 k' p folders ledger became = λ m l ef ek.
    let rules = g.ruled.value.rules in
    let works : List Text → _ = λ ds. works_in (image_in rules ds) names.from m planned in
    let from : GatheredFrom names m g = at_some (λ m. GatheredFrom names m g) f0 m ef p.gathered.told_of in
    let file : f' ≡ Some (files_after names.to (works defined) m)
    = at_some (λ m. f' ≡ option_map (files_after names.to (works_in (image_in rules defined) names.from m planned)) f0) f0 m ef folders ∙ ap (option_map (files_after names.to (works defined))) ef in
    let row : k' ≡ Some (ledger_after (works defined) (with_header (header_of names g.ruled.value) l))
    = at_some (λ m. k' ≡ option_map (ledger_after (works_in (image_in rules defined) names.from m planned)) k1) f0 m ef ledger ∙ ap (option_map (ledger_after (works defined))) (p.ledger ∙ ap (option_map (with_header (header_of names g.ruled.value))) ek) in
    let all : AllWritten names.to (works (defined_in g.notes.scanned.items)) (Some m) f' (Some (with_header (header_of names g.ruled.value) l)) k'
    = subst (λ ds. AllWritten names.to (works ds) (Some m) f' (Some (with_header (header_of names g.ruled.value) l)) k') p.defined_is (record { folders = file; ledger = row }) in
    let outcome : outcomes ≡ map outcome_of (works (defined_in g.notes.scanned.items))
    = at_some (λ m. outcomes ≡ map outcome_of (works_in (image_in rules defined) names.from m planned)) f0 m ef became ∙ ap (λ ds. map outcome_of (works ds)) p.defined_is in
    written_bare (asked_roots names) m l planned outcomes f' k'
    (is_written_all (asked_roots names) m l names.to (header_of names g.ruled.value) (works (defined_in g.notes.scanned.items)) rules (map bare planned) outcomes f' k' (plan_at names g defined planned f0 k0 k1 m l ef ek p) (λ path. refl) all
    (p.rows m l ef ek ∙ ap (map (planned_by (finds_in names m) l.rows)) from.files.are) outcome)

-- the writing stopped
pub gathered_stopped : (names : Roots) (g : Gathered) (defined : List Text) (planned : List PlannedFile) (why : Stop) (done : ℕ) (f0 f' : Option Contents) (k0 k1 k' : Option Ledger) → IsPlanned names g defined planned f0 k0 k1
    → IfSome f0 (λ m. StopsAt why names.to (works_in (image_in g.ruled.value.rules defined) names.from m planned) done f0 f' k1 k')
    → WhereTold f0 k0 (λ m0 l0. Tells f' k' (λ m l. StandsAfter (asked_roots names) m0 l0 m l (status_of_stop why done)))
gathered_stopped names g defined planned why done f0 f' k0 k1 k' p stops = λ m l ef ek.
    let rules = g.ruled.value.rules in
    let works : List Text → _ = λ ds. works_in (image_in rules ds) names.from m planned in
    let s : StopsAt why names.to (works defined) done f0 f' k1 k' = at_some (λ m. StopsAt why names.to (works_in (image_in rules defined) names.from m planned) done f0 f' k1 k') f0 m ef stops in
    let t : StopsAt why names.to (works (defined_in g.notes.scanned.items)) done (Some m) f' (Some (with_header (header_of names g.ruled.value) l)) k'
    = subst (λ ds. StopsAt why names.to (works ds) done (Some m) f' (Some (with_header (header_of names g.ruled.value) l)) k') p.defined_is
    (subst (λ o. StopsAt why names.to (works defined) done o f' (Some (with_header (header_of names g.ruled.value) l)) k') ef (subst (λ o. StopsAt why names.to (works defined) done f0 f' o k') (p.ledger ∙ ap (option_map (with_header (header_of names g.ruled.value))) ek) s)) in
    finish_stands (asked_roots names) m l names.to (header_of names g.ruled.value) (works (defined_in g.notes.scanned.items)) f' k' (status_of_stop why done) (plan_at names g defined planned f0 k0 k1 m l ef ek p)
    (stop_finishes names.to (works (defined_in g.notes.scanned.items)) why done (Some m) f' (Some (with_header (header_of names g.ruled.value) l)) k' t)

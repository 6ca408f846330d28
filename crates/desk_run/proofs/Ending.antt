-- From the plan and the writing to where a run stands, and to what is promised of it.
use Rattle.std.proofs.Common.{◌≡◌, ◌⊎◌, inl, inr, ℕ, ◌+◌, List, [], ◌∷◌, ◌++◌, Option, Some, refl, sym, ap, ◌∙◌, subst, true, false, Bool, cond, append-nil, length, map, Result, Ok, Err}
use Rattle.std.specs.Prelude.{not, ◌&&◌, ◌||◌, count_by, is_ok, is_err, IsOkAnd, if◌then◌else◌}
use Rattle.std.specs.List.{flat_map, fold, list_any, sum_by}
use Rattle.std.proofs.lemmas.List.{length-map}
use Rattle.desk_base.specs.Names.{Text}
use Rattle.desk_base.specs.Paths.{full}
use Rattle.desk_batches.specs.Stops.{Broken, StoppedAt}
use Rattle.desk_batches.specs.Turns.{outcome_of, outcome_of_plan}
use Rattle.desk_batches.specs.Works.{Keep, Work, cleared, files_after, fresh, ledger_after, writes}
use Rattle.desk_batches.specs.declared.planned.PlannedFile.{PlannedFile}
use Rattle.desk_batches.specs.declared.planned.Outcome.{Outcome}
use Rattle.desk_batches.specs.declared.stops.Stop.{Stop}
use Rattle.desk_batches.specs.declared.stops.Stop.TheVariants as stop
use Rattle.desk_file.specs.Routes.{route_of}
use Rattle.desk_file.specs.declared.images.Image.{Image}
use Rattle.desk_folders.specs.Contents.{Contents, File, setting, files_below}
use Rattle.desk_ledger.specs.declared.keeper.Header.{Header}
use Rattle.desk_ledger.specs.declared.keeper.Held.{Held}
use Rattle.desk_ledger.specs.Ledger.{Ledger, Rows, with_header}
use Rattle.desk_report.specs.declared.lines.Detail.{Detail}
use Rattle.desk_report.specs.declared.lines.Reason.{Reason}
use Rattle.desk_report.specs.declared.lines.Summary.{Summary}
use Rattle.desk_report.specs.declared.status.Status.{Status}
use Rattle.desk_report.specs.declared.status.Status.TheVariants.{Done, Refusals, Memory, FolderFault, LedgerFault, OutputFault, Usage, NestedRoots, BadRules, Limit, PathClash, NameClash, Stranded, OtherRun, Moved, NotInvertible, Differs}
use Rattle.desk_report.specs.Texts.{summary_text}
use Rattle.desk_report.specs.Written.{WritesFront, writing}
use Rattle.desk_rules.specs.Rules.{Rules}
use Rattle.desk_run.proofs.NextFiles.{next_fresh}
use Rattle.desk_run.proofs.Splits.{Mapped, mapped}
use Rattle.desk_intake.specs.Standing.{names_answer}
use Rattle.desk_run.specs.Answers.{other_run, or_else, answer_of_run, first_answer, is_answer}
use Rattle.desk_run.specs.Endings.{WhereTold, Tells, Planned, LedgerEarly, HaltsEarly, AllWritten, Finishes, Reported, ReportedOf, StandsAt, IsDone, IsTold, IsWritten, StandsAfter, is_final}
use Rattle.desk_run.specs.Meaning.{run_of_asked}
use Rattle.desk_run.specs.Asked.{Asked}
use Rattle.desk_run.specs.Notes.{measured_of, planned_by}
use Rattle.desk_run.specs.Reports.{report_by, line_of, lines_of, file_line, summary_of, summary_by, ending, ending_by, outcome_line, is_written, was_kept, was_refused, number_in, renamed_uses, added_texts, number_in_file, number_of}
use Rattle.desk_run.specs.Runs.{Run, is_kept_file, is_fresh, is_refused}
use Rattle.desk_run.specs.Stands.{Unchanged, Between}
use Rattle.desk_run.specs.Stops.{StoppedBehind, StopsAt, status_of_halt, status_of_stop}
use Rattle.desk_run.specs.Truth.{IsOurs}
use Rattle.desk_run.specs.Works.{work_of, works_of}
use Rattle.desk_intake.specs.declared.halts.Halt.{Halt}
use Rattle.desk_intake.specs.declared.halts.Halt.TheVariants as halt

-- all is written
all_written : (asked : Asked) (m0 : Contents) (l0 : Ledger) (to : Text) (header : Header) (works : List Work) (f' : Option Contents) (k' : Option Ledger) → Planned asked m0 l0 to header works
    → AllWritten to works (Some m0) f' (Some (with_header header l0)) k' → Tells f' k' (λ m l. IsDone asked m0 l0 m l)
all_written asked m0 l0 to header works f' k' p a = record {
  m = files_after to works m0;
  l = ledger_after works (with_header header l0);
  folders = a.folders;
  ledger = a.ledger;
  holds = record {
    run = p.run;
    ready = p.ready;
    runs = p.runs;
    stands = record {
      before = files_below p.run.from m0;
      rest = [];
      split = sym (append-nil (files_below p.run.from m0));
      count = refl;
      apart = p.ready.apart;
      finds = p.ready.finds;
      ours = p.ours;
      folder = ap (λ ws. files_after to ws m0) p.are ∙ ap (λ t. files_after t (works_of p.run l0.rows (files_below p.run.from m0)) m0) p.to_is;
      ledger = ap (λ ws. ledger_after ws (with_header header l0)) p.are ∙ ap (λ h. ledger_after (works_of p.run l0.rows (files_below p.run.from m0)) (with_header h l0)) p.header_is;
    };
  };
}

-- some is written
stopped_stands : (asked : Asked) (m0 : Contents) (l0 : Ledger) (to : Text) (header : Header) (works : List Work) (done : ℕ) (f' : Option Contents) (k' : Option Ledger) → Planned asked m0 l0 to header works
    → StoppedAt to works done (Some m0) f' (Some (with_header header l0)) k' → Tells f' k' (λ m l. StandsAt asked m0 l0 m l done)
stopped_stands asked m0 l0 to header works done f' k' p s = by s.broken where
  run : Run
  run = p.run

  at : Mapped (work_of p.run l0.rows) (files_below p.run.from m0) s.before s.work s.rest
  at = mapped (work_of p.run l0.rows) (files_below p.run.from m0) s.before s.work s.rest (sym p.are ∙ s.split)

  count : length at.before ≡ done
  count = sym (ap length at.front ∙ length-map at.before (work_of p.run l0.rows)) ∙ s.count

  by : Broken to s.work (Some (files_after to s.before m0)) f' (Some (ledger_after s.before (with_header header l0))) k' → Tells f' k' (λ m l. StandsAt asked m0 l0 m l done)
  by (inl u) = record {
    m = files_after to s.before m0;
    l = ledger_after s.before (with_header header l0);
    folders = u.folders;
    ledger = u.ledger;
    holds = inr (record {
      run = p.run;
      is = p.ready.is;
      stands = inl (record {
        before = at.before;
        rest = at.at ∷ at.rest;
        split = at.split;
        count = count;
        apart = p.ready.apart;
        finds = p.ready.finds;
        ours = p.ours;
        folder = ap (λ ws. files_after to ws m0) at.front ∙ ap (λ t. files_after t (works_of p.run l0.rows at.before) m0) p.to_is;
        ledger = ap (λ ws. ledger_after ws (with_header header l0)) at.front ∙ ap (λ h. ledger_after (works_of p.run l0.rows at.before) (with_header h l0)) p.header_is;
      });
    });
  }
  by (inr b) = record {
    m = setting (full to s.work.target) b.folders.left (files_after to s.before m0);
    l = cleared s.work (ledger_after s.before (with_header header l0));
    folders = b.folders.is;
    ledger = b.ledger;
    holds = inr (record {
      run = p.run;
      is = p.ready.is;
      stands = inr (record {
        before = at.before;
        file = at.at;
        rest = at.rest;
        split = at.split;
        count = count;
        apart = p.ready.apart;
        finds = p.ready.finds;
        ours = p.ours;
        fresh = ap (λ (w : Work). writes w.plan) (sym at.is) ∙ b.writes;
        folder = record {
          left = b.folders.left;
          is = ap Some (ap (λ t. setting (full t s.work.target) b.folders.left (files_after t s.before m0)) p.to_is
              ∙ ap (λ (w : Work). setting (full p.run.to w.target) b.folders.left (files_after p.run.to s.before m0)) at.is
              ∙ ap (λ ws. setting (full p.run.to (p.run.target at.at.path)) b.folders.left (files_after p.run.to ws m0)) at.front);
        };
        ledger = ap (λ w. cleared w (ledger_after s.before (with_header header l0))) at.is
            ∙ ap (λ ws. cleared (work_of p.run l0.rows at.at) (ledger_after ws (with_header header l0))) at.front
            ∙ ap (λ h. cleared (work_of p.run l0.rows at.at) (ledger_after (works_of p.run l0.rows at.before) (with_header h l0))) p.header_is;
      });
    });
  }

-- all is written, but the ledger fails behind it
behind_stands : (asked : Asked) (m0 : Contents) (l0 : Ledger) (to : Text) (header : Header) (works : List Work) (done : ℕ) (f' : Option Contents) (k' : Option Ledger) → Planned asked m0 l0 to header works
    → StoppedBehind to works done (Some m0) f' (Some (with_header header l0)) k' → Tells f' k' (λ m l. StandsAt asked m0 l0 m l done)
unfolding all_written
behind_stands asked m0 l0 to header works done f' k' p s =
    let all = all_written asked m0 l0 to header works f' k' p (record { folders = s.folders; ledger = s.ledger }) in
    let count : length (files_below p.run.from m0) ≡ done = sym (ap length p.are ∙ length-map (files_below p.run.from m0) (work_of p.run l0.rows)) ∙ s.count in
    record {
      m = all.m;
      l = all.l;
      folders = all.folders;
      ledger = all.ledger;
      holds = inr (record { run = p.run; is = p.ready.is; stands = inl (subst (Between p.run m0 l0 all.m all.l) count all.holds.stands) });
    }

stops_stands : (asked : Asked) (m0 : Contents) (l0 : Ledger) (to : Text) (header : Header) (works : List Work) (done : ℕ) (f' : Option Contents) (k' : Option Ledger) → Planned asked m0 l0 to header works
    → StoppedAt to works done (Some m0) f' (Some (with_header header l0)) k' ⊎ StoppedBehind to works done (Some m0) f' (Some (with_header header l0)) k' → Tells f' k' (λ m l. StandsAt asked m0 l0 m l done)
stops_stands asked m0 l0 to header works done f' k' p (inl s) = stopped_stands asked m0 l0 to header works done f' k' p s
stops_stands asked m0 l0 to header works done f' k' p (inr s) = behind_stands asked m0 l0 to header works done f' k' p s

ok_and : {T E : Type 0} (r : Result T E) (x : T) (P : T → Type 0) → r ≡ Ok x → P x → IsOkAnd r P
ok_and r x P e p = subst (λ r. IsOkAnd r P) (sym e) p

-- where a run stands after the writing
pub finish_stands : (asked : Asked) (m0 : Contents) (l0 : Ledger) (to : Text) (header : Header) (works : List Work) (f' : Option Contents) (k' : Option Ledger) (status : Status) → Planned asked m0 l0 to header works
    → Finishes to works (Some m0) f' (Some (with_header header l0)) k' status → Tells f' k' (λ m l. StandsAfter asked m0 l0 m l status)
finish_stands asked m0 l0 to header works f' k' Done p a = all_written asked m0 l0 to header works f' k' p a
finish_stands asked m0 l0 to header works f' k' Refusals p a = all_written asked m0 l0 to header works f' k' p a
finish_stands asked m0 l0 to header works f' k' OutputFault p a = all_written asked m0 l0 to header works f' k' p a
finish_stands asked m0 l0 to header works f' k' Memory p a =
    let s = stops_stands asked m0 l0 to header works a.done f' k' p a.stopped in
    record { m = s.m; l = s.l; folders = s.folders; ledger = s.ledger; holds = record { done = a.done; stands = s.holds } }
finish_stands asked m0 l0 to header works f' k' (Moved path one other) p a =
    let s = stops_stands asked m0 l0 to header works a.done f' k' p a.stopped in
    record { m = s.m; l = s.l; folders = s.folders; ledger = s.ledger; holds = record { done = a.done; stands = s.holds } }
finish_stands asked m0 l0 to header works f' k' (NotInvertible fault) p a = absurd a
finish_stands asked m0 l0 to header works f' k' (Differs path) p a = absurd a
finish_stands asked m0 l0 to header works f' k' (FolderFault done) p a =
    let s = stopped_stands asked m0 l0 to header works done f' k' p a.stopped in
    record { m = s.m; l = s.l; folders = s.folders; ledger = s.ledger; holds = record { stands = s.holds; fresh = inr (ok_and (run_of_asked asked m0) p.run _ p.ready.is (next_fresh p.run m0 l0 works done p.are a.fresh)) } }
finish_stands asked m0 l0 to header works f' k' (LedgerFault done) p a = stops_stands asked m0 l0 to header works done f' k' p a
finish_stands asked m0 l0 to header works f' k' Usage p a = absurd a
finish_stands asked m0 l0 to header works f' k' (NestedRoots first second) p a = absurd a
finish_stands asked m0 l0 to header works f' k' (BadRules fault) p a = absurd a
finish_stands asked m0 l0 to header works f' k' (OtherRun kept wanted) p a = absurd a
finish_stands asked m0 l0 to header works f' k' (Limit kind path) p a = absurd a
finish_stands asked m0 l0 to header works f' k' (PathClash first second) p a = absurd a
finish_stands asked m0 l0 to header works f' k' (NameClash defined other image) p a = absurd a
finish_stands asked m0 l0 to header works f' k' (Stranded path held) p a = absurd a

-- nothing is written yet, and the header may be set
early : (asked : Asked) (m0 : Contents) (l0 : Ledger) (f' : Option Contents) (k' : Option Ledger) → f' ≡ Some m0 → LedgerEarly asked (Some m0) (Some l0) k' → Tells f' k' (λ m l. StandsAt asked m0 l0 m l 0)
early asked m0 l0 f' k' f (inl k) = record { m = m0; l = l0; folders = f; ledger = k; holds = inl (record { folder = refl; ledger = refl; none = refl }) }
early asked m0 l0 f' k' f (inr k) = record {
  m = m0;
  l = with_header k.header l0;
  folders = f;
  ledger = k.ledger;
  holds = inr (record {
    run = k.whose.0;
    is = k.whose.1.is;
    stands = inl (record {
      before = [];
      rest = files_below k.whose.0.from m0;
      split = refl;
      count = refl;
      apart = k.whose.1.apart;
      finds = k.whose.1.finds;
      ours = subst (λ h. IsOurs h l0.header) k.whose.2 k.ours;
      folder = refl;
      ledger = ap (λ h. with_header h l0) k.whose.2;
    });
  });
}

unchanged : (asked : Asked) (m0 : Contents) (l0 : Ledger) (f' : Option Contents) (k' : Option Ledger) → f' ≡ Some m0 → k' ≡ Some l0 → Tells f' k' (λ m l. Unchanged m0 l0 m l 0)
unchanged asked m0 l0 f' k' f k = record { m = m0; l = l0; folders = f; ledger = k; holds = record { folder = refl; ledger = refl; none = refl } }

answer_stands : (asked : Asked) (m0 : Contents) (l0 : Ledger) (m : Contents) (l : Ledger) (status : Status) → is_answer status ≡ true → Unchanged m0 l0 m l 0 → StandsAfter asked m0 l0 m l status
answer_stands asked m0 l0 m l Usage e u = u
answer_stands asked m0 l0 m l (NestedRoots first second) e u = u
answer_stands asked m0 l0 m l (BadRules fault) e u = u
answer_stands asked m0 l0 m l (OtherRun kept wanted) e u = u
answer_stands asked m0 l0 m l (Limit kind path) e u = u
answer_stands asked m0 l0 m l (PathClash first second) e u = u
answer_stands asked m0 l0 m l (NameClash defined other image) e u = u
answer_stands asked m0 l0 m l (Stranded path held) e u = u
answer_stands asked m0 l0 m l (Moved path one other) e u = cc
answer_stands asked m0 l0 m l (NotInvertible fault) e u = cc
answer_stands asked m0 l0 m l (Differs path) e u = cc
answer_stands asked m0 l0 m l Done e u = cc
answer_stands asked m0 l0 m l Refusals e u = cc
answer_stands asked m0 l0 m l Memory e u = cc
answer_stands asked m0 l0 m l (FolderFault done) e u = cc
answer_stands asked m0 l0 m l (LedgerFault done) e u = cc
answer_stands asked m0 l0 m l OutputFault e u = cc

-- where a run stands that halts early
pub early_stands : (asked : Asked) (m0 : Contents) (l0 : Ledger) (f' : Option Contents) (k' : Option Ledger) (a b c d : ℕ) (h : Halt) → f' ≡ Some m0
    → HaltsEarly asked (Some m0) (Some l0) k' a b c d h → Tells f' k' (λ m l. StandsAfter asked m0 l0 m l (status_of_halt h))
early_stands asked m0 l0 f' k' a b c d halt.Memory f s =
    let e = early asked m0 l0 f' k' f s in record { m = e.m; l = e.l; folders = e.folders; ledger = e.ledger; holds = record { done = 0; stands = e.holds } }
early_stands asked m0 l0 f' k' a b c d halt.Folders f s =
    let e = early asked m0 l0 f' k' f s.0 in record { m = e.m; l = e.l; folders = e.folders; ledger = e.ledger; holds = record { stands = e.holds; fresh = inl refl } }
early_stands asked m0 l0 f' k' a b c d halt.Ledger f s = early asked m0 l0 f' k' f s.0
early_stands asked m0 l0 f' k' a b c d (halt.Answer status) f s =
    let u = unchanged asked m0 l0 f' k' f s.0 in
    record { m = u.m; l = u.l; folders = u.folders; ledger = u.ledger; holds = answer_stands asked m0 l0 u.m u.l status s.1.is u.holds }

-- the report by outcomes is that of the run
line_outcome : (path target : Text) (kept found : Bool) (o : Result Image Reason) → outcome_line path target (outcome_of_plan (cond kept Keep (fresh found o))) ≡ file_line path target kept o
line_outcome path target true found o = refl
line_outcome path target false found (Ok image) = refl
line_outcome path target false found (Err reason) = refl

-- what became of the files of a run
abbrev pub outcomes_of : Run → Rows → List File → List Outcome
outcomes_of run rows files = map outcome_of (works_of run rows files)

lines_same : (run : Run) (rules : Rules) (finds : Text → Held → Bool) (rows : Rows) (files : List File) → ((path : Text) → (route_of rules path).target ≡ run.target path)
    → lines_of (map (planned_by finds rows) (map (measured_of rules) files)) (outcomes_of run rows files) ≡ flat_map (line_of run rows) files
lines_same run rules finds rows [] goes = refl
lines_same run rules finds rows (file ∷ files) goes =
    ap (λ t. outcome_line file.path t (outcome_of (work_of run rows file)) ++ lines_of (map (planned_by finds rows) (map (measured_of rules) files)) (outcomes_of run rows files)) (goes file.path)
    ∙ ap (λ t. t ++ lines_of (map (planned_by finds rows) (map (measured_of rules) files)) (outcomes_of run rows files)) (line_outcome file.path (run.target file.path) _ _ _)
    ∙ ap (λ t. line_of run rows file ++ t) (lines_same run rules finds rows files goes)

counted : (p : Outcome → Bool) (q : File → Bool) (run : Run) (rows : Rows) → ((file : File) → p (outcome_of (work_of run rows file)) ≡ q file) → (files : List File) → count_by p (outcomes_of run rows files) ≡ count_by q files
counted p q run rows same files = by 0 files where
  by : (n : ℕ) (files : List File) → fold (λ a o. a + cond (p o) 1 0) n (outcomes_of run rows files) ≡ fold (λ a f. a + cond (q f) 1 0) n files
  by n [] = refl
  by n (file ∷ files) = by (n + cond (p (outcome_of (work_of run rows file))) 1 0) files ∙ ap (λ b. fold (λ a f. a + cond (q f) 1 0) (n + cond b 1 0) files) (same file)

written_same : (kept found : Bool) (o : Result Image Reason) → is_written (outcome_of_plan (cond kept Keep (fresh found o))) ≡ not kept && is_ok o
written_same true found o = refl
written_same false found (Ok image) = refl
written_same false found (Err reason) = refl

kept_same : (kept found : Bool) (o : Result Image Reason) → was_kept (outcome_of_plan (cond kept Keep (fresh found o))) ≡ kept
kept_same true found o = refl
kept_same false found (Ok image) = refl
kept_same false found (Err reason) = refl

refused_same : (kept found : Bool) (o : Result Image Reason) → was_refused (outcome_of_plan (cond kept Keep (fresh found o))) ≡ not kept && is_err o
refused_same true found o = refl
refused_same false found (Ok image) = refl
refused_same false found (Err reason) = refl

number_same : (number : Detail → ℕ) (kept found : Bool) (o : Result Image Reason) → number_in number (outcome_of_plan (cond kept Keep (fresh found o))) ≡ number_in_file number kept o
number_same number true found o = refl
number_same number false found (Ok image) = refl
number_same number false found (Err reason) = refl

summed : (number : Detail → ℕ) (run : Run) (rows : Rows) (files : List File) → sum_by (number_in number) (outcomes_of run rows files) ≡ sum_by (number_of number run rows) files
summed number run rows files = by 0 files where
  by : (n : ℕ) (files : List File) → fold (λ a (o : Outcome). a + number_in number o) n (outcomes_of run rows files) ≡ fold (λ a f. a + number_of number run rows f) n files
  by n [] = refl
  by n (file ∷ files) =
      by (n + number_in number (outcome_of (work_of run rows file))) files
      ∙ ap (λ b. fold (λ a f. a + number_of number run rows f) (n + b) files) (number_same number (is_kept_file run rows file) _ (run.image file.path file.bytes))

summary_same : (run : Run) (rows : Rows) (files : List File) → summary_by (outcomes_of run rows files) ≡ summary_of run rows files
summary_same run rows files =
    let all : length (outcomes_of run rows files) ≡ length files = length-map (works_of run rows files) outcome_of ∙ length-map files (work_of run rows) in
    let written = counted is_written (is_fresh run rows) run rows (λ file. written_same (is_kept_file run rows file) _ (run.image file.path file.bytes)) files in
    let kept = counted was_kept (is_kept_file run rows) run rows (λ file. kept_same (is_kept_file run rows file) _ (run.image file.path file.bytes)) files in
    let refused = counted was_refused (is_refused run rows) run rows (λ file. refused_same (is_kept_file run rows file) _ (run.image file.path file.bytes)) files in
    λ i. record { files = all i; written = written i; kept = kept i; refused = refused i; renamed = summed renamed_uses run rows files i; added = summed added_texts run rows files i }

-- a run that completes ends as its files became
refused_any : (run : Run) (rows : Rows) (files : List File) → list_any was_refused (outcomes_of run rows files) ≡ list_any (is_refused run rows) files
refused_any run rows [] = refl
refused_any run rows (file ∷ files) =
    ap (λ b. b || list_any was_refused (outcomes_of run rows files)) (refused_same (is_kept_file run rows file) _ (run.image file.path file.bytes))
    ∙ ap (λ b. is_refused run rows file || b) (refused_any run rows files)

planned_first : (asked : Asked) (m0 : Contents) (l0 : Ledger) (to : Text) (header : Header) (works : List Work) (p : Planned asked m0 l0 to header works) → ending p.run l0.rows (files_below p.run.from m0) ≡ first_answer asked m0 l0
planned_first asked m0 l0 to header works p =
    let last = ending p.run l0.rows (files_below p.run.from m0) in
    sym (ap (answer_of_run m0 l0) p.ready.is
    ∙ ap (λ o. or_else o (or_else (names_answer p.run.name p.run.classes) (or_else (other_run p.run.header l0.header) last))) p.ready.built
    ∙ ap (λ o. or_else o (or_else (other_run p.run.header l0.header) last)) p.ready.names
    ∙ ap (λ o. or_else o last) p.other)

-- what became of the files of a run that is written whole
pub is_written_all : (asked : Asked) (m0 : Contents) (l0 : Ledger) (to : Text) (header : Header) (works : List Work) (rules : Rules) (planned : List PlannedFile) (outcomes : List Outcome) (f' : Option Contents) (k' : Option Ledger)
    → (p : Planned asked m0 l0 to header works) → ((path : Text) → (route_of rules path).target ≡ p.run.target path) → AllWritten to works (Some m0) f' (Some (with_header header l0)) k'
    → planned ≡ map (planned_by p.run.finds l0.rows) (map (measured_of rules) (files_below p.run.from m0)) → outcomes ≡ map outcome_of works → Tells f' k' (λ m l. IsWritten asked m0 l0 m l planned outcomes)
unfolding all_written
is_written_all asked m0 l0 to header works rules planned outcomes f' k' p goes a e o =
    let t = all_written asked m0 l0 to header works f' k' p a in
    let files = files_below p.run.from m0 in
    let are : outcomes ≡ outcomes_of p.run l0.rows files = o ∙ ap (map outcome_of) p.are in
    let totals : summary_by outcomes ≡ summary_of p.run l0.rows files = ap summary_by are ∙ summary_same p.run l0.rows files in
    record {
      m = t.m;
      l = t.l;
      folders = t.folders;
      ledger = t.ledger;
      holds = record {
        done = t.holds;
        report_is = ap (λ os. report_by planned os) are ∙ ap (λ ns. report_by ns (outcomes_of p.run l0.rows files)) e
            ∙ ap (λ t. t ++ summary_text (summary_by (outcomes_of p.run l0.rows files))) (lines_same p.run rules p.run.finds l0.rows files goes)
            ∙ ap (λ s. flat_map (line_of p.run l0.rows) files ++ summary_text s) (summary_same p.run l0.rows files);
        totals = totals;
        ends = ap ending_by are ∙ ap (λ b. if b then Refusals else Done) (refused_any p.run l0.rows files) ∙ planned_first asked m0 l0 to header works p;
      };
    }

-- what is told behind a run that is written
pub told_reported : (asked : Asked) (f0 f' : Option Contents) (k0 k' : Option Ledger) (planned : List PlannedFile) (outcomes : List Outcome) (o o' : Option Text) (status : Status)
    → WhereTold f0 k0 (λ m0 l0. Tells f' k' (λ m l. IsWritten asked m0 l0 m l planned outcomes)) → IsTold status → Reported (report_by planned outcomes) o o' status → ReportedOf asked f0 k0 o o' status
told_reported asked f0 f' k0 k' planned outcomes o o' Done w t r = λ m l ef ek. let x = w m l ef ek in ok_and (run_of_asked asked m) x.holds.done.run _ x.holds.done.ready.is (r ∙ ap (λ t. writing t o) x.holds.report_is)
told_reported asked f0 f' k0 k' planned outcomes o o' Refusals w t r = λ m l ef ek. let x = w m l ef ek in ok_and (run_of_asked asked m) x.holds.done.run _ x.holds.done.ready.is (r ∙ ap (λ t. writing t o) x.holds.report_is)
told_reported asked f0 f' k0 k' planned outcomes o o' OutputFault w t r = λ m l ef ek. let x = w m l ef ek in ok_and (run_of_asked asked m) x.holds.done.run _ x.holds.done.ready.is (subst (λ t. WritesFront t o o') x.holds.report_is r)
told_reported asked f0 f' k0 k' planned outcomes o o' Memory w t r = absurd t
told_reported asked f0 f' k0 k' planned outcomes o o' (FolderFault done) w t r = absurd t
told_reported asked f0 f' k0 k' planned outcomes o o' (LedgerFault done) w t r = absurd t
told_reported asked f0 f' k0 k' planned outcomes o o' Usage w t r = absurd t
told_reported asked f0 f' k0 k' planned outcomes o o' (NestedRoots first second) w t r = absurd t
told_reported asked f0 f' k0 k' planned outcomes o o' (BadRules fault) w t r = absurd t
told_reported asked f0 f' k0 k' planned outcomes o o' (OtherRun kept wanted) w t r = absurd t
told_reported asked f0 f' k0 k' planned outcomes o o' (Limit kind path) w t r = absurd t
told_reported asked f0 f' k0 k' planned outcomes o o' (PathClash first second) w t r = absurd t
told_reported asked f0 f' k0 k' planned outcomes o o' (NameClash defined other image) w t r = absurd t
told_reported asked f0 f' k0 k' planned outcomes o o' (Stranded path held) w t r = absurd t
told_reported asked f0 f' k0 k' planned outcomes o o' (Moved path one other) w t r = absurd t
told_reported asked f0 f' k0 k' planned outcomes o o' (NotInvertible fault) w t r = absurd t
told_reported asked f0 f' k0 k' planned outcomes o o' (Differs path) w t r = absurd t

pub told_stands : (asked : Asked) (f0 f' : Option Contents) (k0 k' : Option Ledger) (planned : List PlannedFile) (outcomes : List Outcome) (status : Status)
    → WhereTold f0 k0 (λ m0 l0. Tells f' k' (λ m l. IsWritten asked m0 l0 m l planned outcomes)) → IsTold status → WhereTold f0 k0 (λ m0 l0. Tells f' k' (λ m l. StandsAfter asked m0 l0 m l status))
told_stands asked f0 f' k0 k' planned outcomes status w t = λ m0 l0 ef ek.
    let x = w m0 l0 ef ek in record { m = x.m; l = x.l; folders = x.folders; ledger = x.ledger; holds = by m0 l0 x.m x.l status t x.holds.done } where
      by : (m0 : Contents) (l0 : Ledger) (m : Contents) (l : Ledger) (status : Status) → IsTold status → IsDone asked m0 l0 m l → StandsAfter asked m0 l0 m l status
      by m0 l0 m l Done t d = d
      by m0 l0 m l Refusals t d = d
      by m0 l0 m l OutputFault t d = d
      by m0 l0 m l Memory t d = absurd t
      by m0 l0 m l (FolderFault done) t d = absurd t
      by m0 l0 m l (LedgerFault done) t d = absurd t
      by m0 l0 m l Usage t d = absurd t
      by m0 l0 m l (NestedRoots first second) t d = absurd t
      by m0 l0 m l (BadRules fault) t d = absurd t
      by m0 l0 m l (OtherRun kept wanted) t d = absurd t
      by m0 l0 m l (Limit kind path) t d = absurd t
      by m0 l0 m l (PathClash first second) t d = absurd t
      by m0 l0 m l (NameClash defined other image) t d = absurd t
      by m0 l0 m l (Stranded path held) t d = absurd t
      by m0 l0 m l (Moved path one other) t d = absurd t
      by m0 l0 m l (NotInvertible fault) t d = absurd t
      by m0 l0 m l (Differs path) t d = absurd t

pub told_first : (asked : Asked) (f0 f' : Option Contents) (k0 k' : Option Ledger) (planned : List PlannedFile) (outcomes : List Outcome) (status : Status)
    → WhereTold f0 k0 (λ m0 l0. Tells f' k' (λ m l. IsWritten asked m0 l0 m l planned outcomes)) → (is_final status ≡ true → status ≡ ending_by outcomes) → WhereTold f0 k0 (λ m l. is_final status ≡ true → status ≡ first_answer asked m l)
told_first asked f0 f' k0 k' planned outcomes status w ends = λ m l ef ek e. ends e ∙ (w m l ef ek).holds.ends

pub told_totals : (asked : Asked) (f0 f' : Option Contents) (k0 k' : Option Ledger) (planned : List PlannedFile) (outcomes : List Outcome) (totals : Summary) → WhereTold f0 k0 (λ m0 l0. Tells f' k' (λ m l. IsWritten asked m0 l0 m l planned outcomes))
    → totals ≡ summary_by outcomes → WhereTold f0 k0 (λ m l. IsOkAnd (run_of_asked asked m) (λ run. totals ≡ summary_of run l.rows (files_below run.from m)))
told_totals asked f0 f' k0 k' planned outcomes totals w e = λ m l ef ek. let x = w m l ef ek in ok_and (run_of_asked asked m) x.holds.done.run _ x.holds.done.ready.is (e ∙ x.holds.totals)

-- ---- a stop of the writing

-- where the writing stopped
pub stop_finishes : (to : Text) (works : List Work) (why : Stop) (done : ℕ) (f f' : Option Contents) (k k' : Option Ledger) → StopsAt why to works done f f' k k' → Finishes to works f f' k k' (status_of_stop why done)
stop_finishes to works stop.Memory done f f' k k' s = record { done = done; stopped = s }
stop_finishes to works stop.Folders done f f' k k' s = s
stop_finishes to works stop.Ledger done f f' k k' s = s
stop_finishes to works (stop.Moved moved) done f f' k k' s = record { done = done; stopped = inl s }

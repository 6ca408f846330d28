-- What was read makes a run, or an answer.
use Rattle.std.proofs.Common.{All, ◌≡◌, ℕ, ◌≤◌, ◌<◌, ◌^◌, true, List, [], ◌∷◌, length, Option, Some, None, refl, sym, ap, ◌∙◌, map, Result, Ok, Err, IfOk, IfErr, IfSome}
use Rattle.desk_base.specs.Counts.{Rose-earlier}
use Rattle.desk_base.specs.Names.{Text}
use Rattle.desk_base.proofs.Results.{at_some}
use Rattle.desk_readings.proofs.Fronts.{if_some}
use Rattle.desk_readings.specs.Noting.{NotedTo}
use Rattle.desk_readings.specs.declared.measured.MeasuredFile.{MeasuredFile}
use Rattle.desk_clashes.specs.Clashes.{first_clash}
use Rattle.desk_file.specs.Images.{target}
use Rattle.desk_file.specs.Routes.{route_of}
use Rattle.desk_file.specs.Treatments.{is_whole}
use Rattle.desk_file.specs.declared.routes.Route.{Route}
use Rattle.desk_folders.specs.Contents.{Contents, file_at, files_below, paths_below}
use Rattle.desk_graph.specs.declared.scanned.Scanned.{Scanned}
use Rattle.desk_ledger.specs.Ledger.{Ledger}
use Rattle.desk_report.specs.declared.status.Status.{Status}
use Rattle.desk_report.specs.declared.status.Status.TheVariants.{Done, Refusals, Memory, FolderFault, LedgerFault, OutputFault, Usage, NestedRoots, BadRules, Limit, PathClash, NameClash, Stranded, OtherRun, Moved, NotInvertible, Differs}
use Rattle.desk_rules.specs.Rules.{Rules}
use Rattle.desk_second.specs.Second.{AreRules}
use Rattle.desk_words.specs.declared.roots.Roots.{Roots}
use Rattle.desk_run.proofs.FirstReadings.{SaysOf, says_of}
use Rattle.desk_intake.specs.Standing.{first_of, clash_status, clash_answer, names_answer}
use Rattle.desk_run.specs.Answers.{or_else, other_run, files_answer, answer_of_run, AskedCause}
use Rattle.desk_run.specs.Endings.{AreRead, HasGathered}
use Rattle.desk_run.specs.Halts.{HaltsAtFiles, HaltsGathering, HaltsReadingAll, clash_of, paths_in, reading_answer, is_read_status, is_early_answer, targets_in}
use Rattle.desk_intake.specs.Halts.{HaltsClashing, HaltsWith}
use Rattle.desk_intake.specs.Limits.{paths_answer, size_answer}
use Rattle.desk_run.specs.Meaning.{run_of, run_by_roots, run_by_rules, run_of_asked}
use Rattle.desk_intake.specs.Rulings.{ruled}
use Rattle.desk_run.specs.Asked.{Asked, asked_roots}
use Rattle.desk_run.specs.Notes.{IsRead, class_note_of, measured_of}
use Rattle.desk_run.specs.Reports.{ending}
use Rattle.desk_run.specs.declared.gather.Gathered.{Gathered}
use Rattle.desk_intake.specs.declared.rules.DigestedRules.{DigestedRules}
use Rattle.desk_intake.specs.declared.halts.Halt.{Halt}
use Rattle.desk_intake.specs.declared.halts.Halt.TheVariants as halt

-- a status of rules or files
reading_status : (asked : Asked) (status : Status) → is_read_status status ≡ true → (is_early_answer status ≡ true) × AskedCause asked status
reading_status asked (BadRules fault) e = (refl, tt)
reading_status asked (Limit kind path) e = (refl, tt)
reading_status asked (PathClash first second) e = (refl, tt)
reading_status asked Done e = cc
reading_status asked Refusals e = cc
reading_status asked Memory e = cc
reading_status asked (FolderFault done) e = cc
reading_status asked (LedgerFault done) e = cc
reading_status asked OutputFault e = cc
reading_status asked Usage e = cc
reading_status asked (NestedRoots first second) e = cc
reading_status asked (NameClash defined other image) e = cc
reading_status asked (Stranded path held) e = cc
reading_status asked (Moved path one other) e = cc
reading_status asked (NotInvertible fault) e = cc
reading_status asked (Differs path) e = cc
reading_status asked (OtherRun kept wanted) e = cc

reading_first : (names : Roots) (m : Contents) (l : Ledger) (status : Status) (r : Result DigestedRules Status) → reading_answer names m r ≡ Some status → answer_of_run m l (run_by_rules m names r) ≡ status
reading_first names m l status (Err s) e = cc
reading_first names m l status (Ok r) e =
    let run = run_of names r m in
    ap (λ o. or_else o (or_else (names_answer run.name run.classes) (or_else (other_run run.header l.header) (ending run l.rows (files_below names.from m))))) e

pub halts_reading : (asked : Asked) (names : Roots) (told : Option Contents) (f f' : ℕ) (h : Halt) → asked ≡ Ok names → HaltsReadingAll names told f f' h → HaltsGathering asked told f f' h
halts_reading asked names told f f' halt.Memory e g = tt
halts_reading asked names told f f' halt.Folders e g = g
halts_reading asked names told f f' halt.Ledger e g = absurd g
halts_reading asked names told f f' (halt.Answer status) e g =
    let s = reading_status asked status g.0 in
    record {
      is = s.0;
      cause = s.1;
      first = if_some _ told (λ m t l. ap (λ r. answer_of_run m l (run_by_roots m r)) e
          ∙ reading_first names m l status _ (at_some (λ m. reading_answer names m (ruled names.rules (files_below names.rules m)) ≡ Some status) told m t g.1));
    }

-- the run that was read
pub run_read : (asked : Asked) (names : Roots) (r : DigestedRules) (told : Option Contents) → asked ≡ Ok names → IfSome told (λ m. ruled names.rules (files_below names.rules m) ≡ Ok r)
    → IfSome told (λ m. run_of_asked asked m ≡ Ok (run_of names r m))
run_read asked names r told e g = if_some _ told (λ m t. ap (run_by_roots m) e ∙ ap (run_by_rules m names) (at_some (λ m. ruled names.rules (files_below names.rules m) ≡ Ok r) told m t g))

-- the first of two answers
first_none : (a b : Option Status) → a ≡ None → first_of a b ≡ b
first_none a b e = ap (λ o. first_of o b) e

first_some : (a b : Option Status) (status : Status) → a ≡ Some status → first_of a b ≡ Some status
first_some a b status e = ap (λ o. first_of o b) e

-- the paths and targets of what was read
paths_read : (rules : Rules) (from : Text) (m : Contents) (paths : List Text) → map (λ (file : MeasuredFile). file.route.path) (map (measured_of rules) (map (file_at from m) paths)) ≡ paths
paths_read rules from m [] = refl
paths_read rules from m (path ∷ paths) = ap (λ ps. path ∷ ps) (paths_read rules from m paths)

targets_read : (rules : Rules) (from : Text) (m : Contents) (paths : List Text) → map (λ (file : MeasuredFile). file.route.target) (map (measured_of rules) (map (file_at from m) paths)) ≡ map (target rules) paths
targets_read rules from m [] = refl
targets_read rules from m (path ∷ paths) = ap (λ ts. target rules path ∷ ts) (targets_read rules from m paths)

-- what clashes of them
clash_same : (rules : Rules) (from : Text) (m : Contents) (files : List MeasuredFile) → files ≡ map (measured_of rules) (files_below from m) → clash_of files ≡ clash_answer (target rules) (paths_below from m)
clash_same rules from m files e =
    ap clash_of e
    ∙ ap (λ ps. clash_status ps (first_clash (map (λ (file : MeasuredFile). file.route.target) (map (measured_of rules) (files_below from m))))) (paths_read rules from m (paths_below from m))
    ∙ ap (λ ts. clash_status (paths_below from m) (first_clash ts)) (targets_read rules from m (paths_below from m))

-- what stands against files of which none has too many bytes
files_answer_read : (rules : Rules) (from : Text) (m : Contents) (files : List MeasuredFile) (classes : List Scanned) → paths_answer from (target rules) (paths_below from m) ≡ None → SaysOf rules from m files classes
    → files_answer from (target rules) (is_whole rules) m ≡ clash_of files
files_answer_read rules from m files classes routed says = first_none _ _ routed ∙ first_none _ _ says.fit ∙ sym (clash_same rules from m files says.are)

-- what was noted of the files of these routes says this of them
pub says_told : (rules : Rules) (from : Text) (told mid : Option Contents) (routes : List Route) (files : List MeasuredFile) (classes : List Scanned) → mid ≡ told → IfSome told (λ m. routes ≡ map (route_of rules) (paths_below from m))
    → IfSome mid (λ m. NotedTo rules from m routes files classes) → IfSome told (λ m. SaysOf rules from m files classes)
says_told rules from told mid routes files classes same listed noted = if_some _ told (λ m t.
    says_of rules from m routes files classes (at_some (λ m. routes ≡ map (route_of rules) (paths_below from m)) told m t listed) (at_some (λ m. NotedTo rules from m routes files classes) mid m (same ∙ t) noted))

-- nothing stands against them
pub are_read : (rules : Rules) (from : Text) (told : Option Contents) (files : List MeasuredFile) (classes : List Scanned) → IfSome told (λ m. paths_answer from (target rules) (paths_below from m) ≡ None)
    → IfSome told (λ m. SaysOf rules from m files classes) → clash_of files ≡ None → IfSome told (λ m. AreRead rules from m files classes)
are_read rules from told files classes clear says e = if_some _ told (λ m t.
    let s = at_some (λ m. SaysOf rules from m files classes) told m t says in
    record {
      are = s.are;
      scanned = s.scanned;
      bytes = s.bytes;
      built = files_answer_read rules from m files classes (at_some (λ m. paths_answer from (target rules) (paths_below from m) ≡ None) told m t clear) s ∙ e;
    })

-- two of them clash
pub halts_clash : (rules : Rules) (from : Text) (told : Option Contents) (files : List MeasuredFile) (classes : List Scanned) (f f' : ℕ) (h : Halt) → IfSome told (λ m. paths_answer from (target rules) (paths_below from m) ≡ None)
    → IfSome told (λ m. SaysOf rules from m files classes) → HaltsClashing (paths_in files) (targets_in files) h → HaltsAtFiles from (target rules) (is_whole rules) told f f' h
halts_clash rules from told files classes f f' halt.Memory clear says g = tt
halts_clash rules from told files classes f f' halt.Folders clear says g = absurd g
halts_clash rules from told files classes f f' halt.Ledger clear says g = absurd g
halts_clash rules from told files classes f f' (halt.Answer status) clear says g = (
  g.0,
  if_some _ told (λ m t.
      files_answer_read rules from m files classes (at_some (λ m. paths_answer from (target rules) (paths_below from m) ≡ None) told m t clear) (at_some (λ m. SaysOf rules from m files classes) told m t says) ∙ g.1),
)

-- one has too many bytes
pub halts_sizes : (rules : Rules) (from : Text) (told mid : Option Contents) (f f1 f' : ℕ) (h : Halt) → f ≤ f1 → mid ≡ told → IfSome told (λ m. paths_answer from (target rules) (paths_below from m) ≡ None)
    → HaltsWith (λ m. size_answer (is_whole rules) (files_below from m)) mid f1 f' h → HaltsAtFiles from (target rules) (is_whole rules) told f f' h
halts_sizes rules from told mid f f1 f' halt.Memory le same clear g = tt
halts_sizes rules from told mid f f1 f' halt.Folders le same clear g = Rose-earlier f f1 f' le g
halts_sizes rules from told mid f f1 f' halt.Ledger le same clear g = absurd g
halts_sizes rules from told mid f f1 f' (halt.Answer status) le same clear g = (
  g.0,
  if_some _ told (λ m t.
      first_none _ _ (at_some (λ m. paths_answer from (target rules) (paths_below from m) ≡ None) told m t clear)
      ∙ first_some _ _ status (at_some (λ m. size_answer (is_whole rules) (files_below from m) ≡ Some status) mid m (same ∙ t) g.1)),
)

pub err_reading : {T : Type 0} (asked : Asked) (names : Roots) (told : Option Contents) (f f' : ℕ) (r : Result T Halt) → asked ≡ Ok names
    → IfErr r (HaltsReadingAll names told f f') → IfErr r (HaltsGathering asked told f f')
err_reading asked names told f f' (Ok x) e g = tt
err_reading asked names told f f' (Err h) e g = halts_reading asked names told f f' h e g

-- what was gathered
pub ok_gathered : (names : Roots) (told : Option Contents) (r : Result Gathered Halt) → IfOk r (λ g. IfSome told (λ m. ruled names.rules (files_below names.rules m) ≡ Ok g.ruled.value))
    → IfOk r (λ g. AreRules g.ruled.value.rules) → IfOk r (λ g. IfSome told (λ m. AreRead g.ruled.value.rules names.from m g.notes.files.items g.notes.scanned.items)) → IfOk r (λ g. All (IsRead g.ruled.value.rules) g.notes.files.items)
    → IfOk r (λ g. length g.notes.files.items < 2 ^ 32) → IfOk r (λ g. length g.notes.scanned.items < 2 ^ 32) → IfOk r (HasGathered names told)
ok_gathered names told (Ok g) rules are files read few few_classes = record {
  are = are;
  read = read;
  few = few;
  few_classes = few_classes;
  told_of = if_some _ told (λ m t. record {
    rules = at_some (λ m. ruled names.rules (files_below names.rules m) ≡ Ok g.ruled.value) told m t rules;
    run = at_some (λ m. run_of_asked (asked_roots names) m ≡ Ok (run_of names g.ruled.value m)) told m t (run_read (asked_roots names) names g.ruled.value told refl rules);
    files = at_some (λ m. AreRead g.ruled.value.rules names.from m g.notes.files.items g.notes.scanned.items) told m t files;
  });
}
ok_gathered names told (Err x) rules are files read few few_classes = tt

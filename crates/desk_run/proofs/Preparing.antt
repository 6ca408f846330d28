-- From what was gathered and planned to a run that is ready.
use Rattle.std.proofs.Common.{All, ◌≡◌, inl, inr, ℕ, true, List, [], ◌∷◌, Option, Some, None, refl, sym, ap, ◌∙◌, subst, map, Result}
use Rattle.std.proofs.lemmas.List.Elements.{All-head, All-tail}
use Rattle.desk_base.specs.Names.{Text}
use Rattle.desk_base.proofs.Results.{at_some}
use Rattle.desk_readings.proofs.Fronts.{if_some}
use Rattle.desk_batches.specs.Turns.{works_in}
use Rattle.desk_batches.specs.declared.planned.PlannedFile.{PlannedFile}
use Rattle.desk_clashes.specs.ClashLaws.{ApartFromAll, AllApart, all_apart}
use Rattle.desk_clashes.specs.declared.Clash.{Clash}
use Rattle.desk_file.specs.Images.{target}
use Rattle.desk_file.specs.Linked.{image_in}
use Rattle.desk_file.specs.declared.images.Image.{Image}
use Rattle.desk_folders.specs.Contents.{Contents, File, file_at, files_below, paths_below}
use Rattle.desk_ledger.specs.Ledger.{Ledger}
use Rattle.desk_rename.specs.Images.{cls}
use Rattle.desk_report.specs.declared.lines.Reason.{Reason}
use Rattle.desk_report.specs.declared.status.Status.{Status}
use Rattle.desk_report.specs.declared.status.Status.TheVariants.{Done, Refusals, Memory, FolderFault, LedgerFault, OutputFault, Usage, NestedRoots, BadRules, Limit, PathClash, NameClash, Stranded, OtherRun, Moved, NotInvertible, Differs}
use Rattle.desk_rules.specs.Rules.{Rules}
use Rattle.desk_second.specs.Applications.{classes_of}
use Rattle.desk_words.specs.Roots.{AreRoots}
use Rattle.desk_words.specs.declared.roots.Roots.{Roots}
use Rattle.desk_run.proofs.Measures.{works_planned}
use Rattle.desk_intake.specs.Standing.{clash_status, clash_answer, first_of, names_answer}
use Rattle.desk_run.specs.Answers.{files_answer, or_else, other_run, first_answer, answer_of_run, is_answer, AskedCause}
use Rattle.desk_run.specs.Endings.{GatheredFrom, HasGathered, IsAnswer, IsReady, Planned, LedgerEarly, HaltsEarly}
use Rattle.desk_run.specs.Halts.{HaltsGathering, HaltsPlan, AnswersPlan, LedgerOwn, is_ledger_status, is_early_answer}
use Rattle.desk_intake.specs.Halts.{is_names_status}
use Rattle.desk_run.specs.Meaning.{defined_in, finds_in, header_of, run_of}
use Rattle.desk_run.specs.Asked.{Asked, asked_roots}
use Rattle.desk_run.specs.Notes.{IsRead, measured_of, planned_by}
use Rattle.desk_run.specs.Reports.{ending}
use Rattle.desk_run.specs.Runs.{Run, AllRelative, targets_of}
use Rattle.desk_intake.specs.Apart.{AllApart as Distinct, Misses}
use Rattle.desk_run.specs.Truth.{IsOurs}
use Rattle.desk_run.specs.declared.gather.Gathered.{Gathered}
use Rattle.desk_intake.specs.declared.rules.DigestedRules.{DigestedRules}
use Rattle.desk_intake.specs.declared.halts.Halt.{Halt}
use Rattle.desk_intake.specs.declared.halts.Halt.TheVariants as halt

misses_apart : (t : Text) (ts : List Text) → ApartFromAll t ts → Misses t ts
misses_apart t [] h = tt
misses_apart t (u ∷ us) h = (h.0.differ, misses_apart t us h.1)

distinct : (ts : List Text) → AllApart ts → Distinct ts
distinct [] h = tt
distinct (t ∷ ts) h = (misses_apart t ts h.0, distinct ts h.1)

-- where no two targets clash, they differ
pub no_clash : (paths : List Text) (o : Option Clash) → clash_status paths o ≡ None → o ≡ None
no_clash paths None e = refl
no_clash paths (Some clash) e = cc

pub last_none : (a b : Option Status) → first_of a b ≡ None → b ≡ None
last_none None b e = e
last_none (Some status) b e = cc

built_apart : (run : Run) (m : Contents) → files_answer run.from run.target run.whole m ≡ None → Distinct (targets_of run (files_below run.from m))
built_apart run m e =
    let paths = paths_below run.from m in
    let clear : clash_answer run.target paths ≡ None = last_none _ _ (last_none _ _ e) in
    subst Distinct (targets_paths run m paths) (distinct (map run.target paths) (all_apart (map run.target paths) (no_clash paths _ clear))) where
      targets_paths : (run : Run) (m : Contents) (paths : List Text) → map run.target paths ≡ targets_of run (map (file_at run.from m) paths)
      targets_paths run m [] = refl
      targets_paths run m (path ∷ paths) = ap (λ ts. run.target path ∷ ts) (targets_paths run m paths)

-- the run over the files below its root
abbrev pub run_at : Roots → DigestedRules → Contents → Run
run_at names r m = run_of names r m

-- what stands against its classes
abbrev pub names_of : Gathered → Option Status
names_of g = names_answer (cls g.ruled.value.rules.renames) g.notes.scanned.items

names_same : (names : Roots) (m : Contents) (g : Gathered) → GatheredFrom names m g → names_of g ≡ names_answer (run_at names g.ruled.value m).name (run_at names g.ruled.value m).classes
names_same names m g from = ap (names_answer (cls g.ruled.value.rules.renames)) from.files.scanned

targets_relative : (rules : Rules) (files : List File) → All (IsRead rules) (map (measured_of rules) files) → AllRelative (map (λ (file : File). target rules file.path) files)
targets_relative rules [] h = tt
targets_relative rules (file ∷ files) h =
    ((All-head (IsRead rules) (measured_of rules file) (map (measured_of rules) files) h).relative.target, targets_relative rules files (All-tail (IsRead rules) (measured_of rules file) (map (measured_of rules) files) h))

-- a run that was gathered is ready, where nothing stands against its classes
pub ready : (names : Roots) (m : Contents) (g : Gathered) → AreRoots names → GatheredFrom names m g → All (IsRead g.ruled.value.rules) g.notes.files.items → names_of g ≡ None
    → IsReady (asked_roots names) m (run_at names g.ruled.value m)
ready names m g sound from read clear = record {
  is = from.run;
  built = from.files.built;
  names = sym (names_same names m g from) ∙ clear;
  apart = record {
    roots = sound.apart;
    relative = targets_relative g.ruled.value.rules (files_below names.from m) (subst (All (IsRead g.ruled.value.rules)) from.files.are read);
    distinct = built_apart (run_at names g.ruled.value m) m from.files.built;
  };
  finds = λ target row. refl;
}

-- the images of a run over these classes
abbrev images_over : Gathered → Text → Text → Result Image Reason
images_over g = image_in g.ruled.value.rules (defined_in g.notes.scanned.items)

-- what was planned
unfoldable pub planned_run : (names : Roots) (m : Contents) (l : Ledger) (g : Gathered) (planned : List PlannedFile) → AreRoots names → HasGathered names (Some m) g → names_of g ≡ None → planned ≡ map (planned_by (finds_in names m) l.rows) g.notes.files.items
    → IsOurs (header_of names g.ruled.value) l.header → other_run (header_of names g.ruled.value) l.header ≡ None → Planned (asked_roots names) m l names.to (header_of names g.ruled.value) (works_in (images_over g) names.from m planned)
planned_run names m l g planned sound h clear e ours other =
    let r = g.ruled.value in
    let run = run_at names r m in
    let from : GatheredFrom names m g = h.told_of in
    let classes : defined_in g.notes.scanned.items ≡ defined_in (classes_of r.rules (files_below names.from m)) = ap defined_in from.files.scanned in
    record {
      run = run;
      ready = ready names m g sound from h.read clear;
      runs = record { roots = names; ruled = r; asks = refl; rules = from.rules; is = refl; are = h.are; bytes = from.files.bytes };
      to_is = refl;
      header_is = refl;
      other = other;
      ours = ours;
      are = ap (λ ds. works_in (image_in r.rules ds) names.from m planned) classes
          ∙ works_planned run r.rules (defined_in (classes_of r.rules (files_below names.from m))) l.rows m g.notes.files.items planned refl (λ path. refl) e from.files.are;
    }

own_early : (names : Roots) (g : Gathered) (f0 : Option Contents) (k0 k1 : Option Ledger) → AreRoots names → HasGathered names f0 g → LedgerOwn (names_of g) (header_of names g.ruled.value) k0 k1 → LedgerEarly (asked_roots names) f0 k0 k1
own_early names g f0 k0 k1 sound h (inl e) = inl e
own_early names g f0 k0 k1 sound h (inr own) = inr (record {
  header = header_of names g.ruled.value;
  ledger = own.0;
  ours = own.2;
  whose = if_some _ f0 (λ m ef. (run_at names g.ruled.value m, ready names m g sound (at_some (λ m. GatheredFrom names m g) f0 m ef h.told_of) h.read own.1, refl));
})

ledger_status : (asked : Asked) (status : Status) → is_ledger_status status ≡ true → (is_answer status ≡ true) × AskedCause asked status
ledger_status asked (OtherRun kept wanted) e = (refl, tt)
ledger_status asked (BadRules fault) e = cc
ledger_status asked (Limit kind path) e = cc
ledger_status asked (PathClash first second) e = cc
ledger_status asked (NameClash defined other image) e = cc
ledger_status asked (Stranded path held) e = cc
ledger_status asked (Moved path one other) e = cc
ledger_status asked (NotInvertible fault) e = cc
ledger_status asked (Differs path) e = cc
ledger_status asked Done e = cc
ledger_status asked Refusals e = cc
ledger_status asked Memory e = cc
ledger_status asked (FolderFault done) e = cc
ledger_status asked (LedgerFault done) e = cc
ledger_status asked OutputFault e = cc
ledger_status asked Usage e = cc
ledger_status asked (NestedRoots first second) e = cc

names_status : (asked : Asked) (status : Status) → is_names_status status ≡ true → (is_answer status ≡ true) × AskedCause asked status
names_status asked (NameClash defined other image) e = (refl, tt)
names_status asked (Stranded path held) e = (refl, tt)
names_status asked (Moved path one other) e = cc
names_status asked (NotInvertible fault) e = cc
names_status asked (Differs path) e = cc
names_status asked (OtherRun kept wanted) e = cc
names_status asked (BadRules fault) e = cc
names_status asked (Limit kind path) e = cc
names_status asked (PathClash first second) e = cc
names_status asked Done e = cc
names_status asked Refusals e = cc
names_status asked Memory e = cc
names_status asked (FolderFault done) e = cc
names_status asked (LedgerFault done) e = cc
names_status asked OutputFault e = cc
names_status asked Usage e = cc
names_status asked (NestedRoots first second) e = cc

-- the first answer, where what stands against the files is nothing
first_behind : (names : Roots) (m : Contents) (l : Ledger) (g : Gathered) → GatheredFrom names m g
    → first_answer (asked_roots names) m l ≡ or_else (names_of g) (or_else (other_run (header_of names g.ruled.value) l.header) (ending (run_at names g.ruled.value m) l.rows (files_below names.from m)))
first_behind names m l g from =
    let run = run_at names g.ruled.value m in
    let last = or_else (other_run run.header l.header) (ending run l.rows (files_below run.from m)) in
    ap (answer_of_run m l) from.run ∙ ap (λ o. or_else o (or_else (names_answer run.name run.classes) last)) from.files.built ∙ ap (λ o. or_else o last) (sym (names_same names m g from))

-- an answer of the planning is the first
plan_answer : (names : Roots) (g : Gathered) (f0 : Option Contents) (k0 : Option Ledger) (status : Status) → HasGathered names f0 g → AnswersPlan (names_of g) (header_of names g.ruled.value) k0 status → IsAnswer (asked_roots names) f0 k0 status
plan_answer names g f0 k0 status h (inl a) =
    let s = names_status (asked_roots names) status a.0 in
    record {
      is = s.0;
      cause = s.1;
      first = λ m l ef ek.
          first_behind names m l g (at_some (λ m. GatheredFrom names m g) f0 m ef h.told_of)
          ∙ ap (λ o. or_else o (or_else (other_run (header_of names g.ruled.value) l.header) (ending (run_at names g.ruled.value m) l.rows (files_below names.from m)))) a.1;
    }
plan_answer names g f0 k0 status h (inr b) =
    let s = ledger_status (asked_roots names) status b.0 in
    record {
      is = s.0;
      cause = s.1;
      first = λ m l ef ek.
          let last = ending (run_at names g.ruled.value m) l.rows (files_below names.from m) in
          first_behind names m l g (at_some (λ m. GatheredFrom names m g) f0 m ef h.told_of)
          ∙ ap (λ o. or_else o (or_else (other_run (header_of names g.ruled.value) l.header) last)) b.1
          ∙ ap (λ o. or_else o last) (at_some (λ l. other_run (header_of names g.ruled.value) l.header ≡ Some status) k0 l ek b.2);
    }

-- where the names are looked at, the ledger is opened or the rows are looked up, a run halts early
pub plan_early : (names : Roots) (g : Gathered) (f0 : Option Contents) (k0 k1 : Option Ledger) (a b c d : ℕ) (h : Halt) → AreRoots names → HasGathered names f0 g → HaltsPlan (names_of g) (header_of names g.ruled.value) k0 k1 a b c d h
    → HaltsEarly (asked_roots names) f0 k0 k1 a b c d h
plan_early names g f0 k0 k1 a b c d halt.Memory sound is p = own_early names g f0 k0 k1 sound is p
plan_early names g f0 k0 k1 a b c d halt.Folders sound is p = (own_early names g f0 k0 k1 sound is p.0, p.1)
plan_early names g f0 k0 k1 a b c d halt.Ledger sound is p = (own_early names g f0 k0 k1 sound is p.0, p.1)
plan_early names g f0 k0 k1 a b c d (halt.Answer status) sound is p = (p.0, plan_answer names g f0 k0 status is p.1)

early_status : (status : Status) → is_early_answer status ≡ true → is_answer status ≡ true
early_status Usage e = refl
early_status (NestedRoots first second) e = refl
early_status (BadRules fault) e = refl
early_status (Limit kind path) e = refl
early_status (PathClash first second) e = refl
early_status (NameClash defined other image) e = cc
early_status (Stranded path held) e = cc
early_status (Moved path one other) e = cc
early_status (NotInvertible fault) e = cc
early_status (Differs path) e = cc
early_status Done e = cc
early_status Refusals e = cc
early_status Memory e = cc
early_status (FolderFault done) e = cc
early_status (LedgerFault done) e = cc
early_status OutputFault e = cc
early_status (OtherRun kept wanted) e = cc

-- where something is gathered, too
pub gather_early : (asked : Asked) (f0 : Option Contents) (k0 : Option Ledger) (a b c d : ℕ) (h : Halt) → HaltsGathering asked f0 a b h → HaltsEarly asked f0 k0 k0 a b c d h
gather_early asked f0 k0 a b c d halt.Memory g = inl refl
gather_early asked f0 k0 a b c d halt.Folders g = (inl refl, g)
gather_early asked f0 k0 a b c d halt.Ledger g = absurd g
gather_early asked f0 k0 a b c d (halt.Answer status) g = (
  refl,
  record {
    is = early_status status g.is;
    cause = g.cause;
    first = λ m l ef ek. at_some (λ m. (l : Ledger) → first_answer asked m l ≡ status) f0 m ef g.first l;
  },
)

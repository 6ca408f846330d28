-- How a run ends.
use Rattle.std.specs.Prelude.{All, ◌≡◌, ◌≢◌, ◌⊎◌, ◌<◌, ◌^◌, ℕ, List, length, Option, Some, None, Bool, true, false, Ok, Err, IfSome, option_map, map, IsOkAnd}
use Rattle.desk_base.specs.Names.{Text}
use Rattle.desk_base.specs.Counts.{Rose}
use Rattle.desk_folders.specs.Contents.{Contents, File, files_below}
use Rattle.desk_format.specs.Laws.{IsBytes}
use Rattle.desk_file.specs.Images.{target}
use Rattle.desk_file.specs.Treatments.{is_whole}
use Rattle.desk_graph.specs.declared.scanned.Scanned.{Scanned}
use Rattle.desk_rules.specs.Rules.{Rules}
use Rattle.desk_second.specs.Applications.{classes_of}
use Rattle.desk_second.specs.Second.{AreRules}
use Rattle.desk_ledger.specs.declared.keeper.Header.{Header}
use Rattle.desk_ledger.specs.declared.keeper.Row.{Row}
use Rattle.desk_ledger.specs.Ledger.{Ledger, NoneWaits, with_header}
use Rattle.desk_report.specs.declared.status.Status.{Status}
use Rattle.desk_report.specs.declared.status.Status.TheVariants.{Done, Refusals, Memory, FolderFault, LedgerFault, OutputFault, OtherRun, Moved}
use Rattle.desk_report.specs.Written.{WritesFront, writing}
use Rattle.desk_batches.specs.Works.{Work, files_after, ledger_after}
use Rattle.desk_readings.specs.declared.measured.MeasuredFile.{MeasuredFile}
use Rattle.desk_batches.specs.declared.planned.PlannedFile.{PlannedFile}
use Rattle.desk_batches.specs.declared.planned.Outcome.{Outcome}
use Rattle.desk_batches.specs.declared.stops.Stop.TheVariants as stop
use Rattle.desk_words.specs.declared.roots.Roots.{Roots}
use Rattle.desk_intake.specs.Rulings.{ruled as ruled_of}
use Rattle.desk_intake.specs.declared.rules.DigestedRules.{DigestedRules}
use Rattle.desk_intake.specs.declared.halts.Halt.{Halt}
use Rattle.desk_intake.specs.declared.halts.Halt.TheVariants as halt
use Rattle.desk_run.specs.Runs.{Run, FindsIn, TargetsApart}
use Rattle.desk_run.specs.Works.{works_of}
use Rattle.desk_run.specs.Truth.{IsOurs}
use Rattle.desk_run.specs.Reports.{ending_by, report, report_by, summary_by, summary_of}
use Rattle.desk_run.specs.Notes.{IsRead, measured_of}
use Rattle.desk_run.specs.declared.gather.Gathered.{Gathered}
use Rattle.desk_run.specs.Stops.{StopsAt, status_of_halt}
use Rattle.desk_run.specs.Stands.{Unchanged, Between, NextIsFresh, Within}
use Rattle.desk_run.specs.Asked.{Asked, asked_roots}
use Rattle.desk_run.specs.Meaning.{run_of, run_of_asked}
use Rattle.desk_intake.specs.Standing.{names_answer}
use Rattle.desk_run.specs.Answers.{files_answer, other_run, first_answer, is_answer, AskedCause}

-- where folders and keeper tell their contents
abbrev pub WhereTold : Option Contents → Option Ledger → (Contents → Ledger → Type 0) → Type 0
WhereTold f k P = (m : Contents) (l : Ledger) → f ≡ Some m → k ≡ Some l → P m l

-- they tell these
pub record Tells (f : Option Contents) (k : Option Ledger) (P : Contents → Ledger → Type 0) : Type 0 where
  pub m : Contents
  pub l : Ledger
  pub folders : f ≡ Some m
  pub ledger : k ≡ Some l
  pub holds : P m l

-- a run whose words and rules are read and against whose files and classes nothing stands, over the folders that it finds
pub record IsReady (asked : Asked) (m : Contents) (run : Run) : Type 0 where
  pub is : run_of_asked asked m ≡ Ok run
  pub built : files_answer run.from run.target run.whole m ≡ None
  pub names : names_answer run.name run.classes ≡ None
  pub apart : TargetsApart run m
  pub finds : FindsIn run m

-- what was read of the files below a root, against which nothing stands: their sizes and digests, the classes among them, and that
-- what stands in them are bytes
pub record AreRead (rules : Rules) (from : Text) (m : Contents) (files : List MeasuredFile) (classes : List Scanned) : Type 0 where
  pub are : files ≡ map (measured_of rules) (files_below from m)
  pub scanned : classes ≡ classes_of rules (files_below from m)
  pub bytes : All (λ (file : File). IsBytes file.bytes) (files_below from m)
  pub built : files_answer from (target rules) (is_whole rules) m ≡ None

-- what was gathered where the folders tell this
pub record GatheredFrom (names : Roots) (m : Contents) (gathered : Gathered) : Type 0 where
  pub rules : ruled_of names.rules (files_below names.rules m) ≡ Ok gathered.ruled.value
  pub run : run_of_asked (asked_roots names) m ≡ Ok (run_of names gathered.ruled.value m)
  pub files : AreRead gathered.ruled.value.rules names.from m gathered.notes.files.items gathered.notes.scanned.items

-- what was gathered, whatever the folders tell
pub record HasGathered (names : Roots) (told : Option Contents) (gathered : Gathered) : Type 0 where
  pub are : AreRules gathered.ruled.value.rules
  pub read : All (IsRead gathered.ruled.value.rules) gathered.notes.files.items
  pub few : length gathered.notes.files.items < 2 ^ 32
  pub few_classes : length gathered.notes.scanned.items < 2 ^ 32
  pub told_of : IfSome told (λ m. GatheredFrom names m gathered)

-- the run that was asked for, by the rule set of the files below its rule root; its files are bytes
pub record RunsOn (asked : Asked) (run : Run) (m : Contents) : Type 0 where
  pub roots : Roots
  pub ruled : DigestedRules
  pub asks : asked ≡ Ok roots
  pub rules : ruled_of roots.rules (files_below roots.rules m) ≡ Ok ruled
  pub is : run ≡ run_of roots ruled m
  pub are : AreRules ruled.rules
  pub bytes : All (λ (file : File). IsBytes file.bytes) (files_below run.from m)

-- the works are planned, and nothing stands against the run
pub record Planned (asked : Asked) (m : Contents) (l : Ledger) (to : Text) (header : Header) (works : List Work) : Type 0 where
  pub run : Run
  pub ready : IsReady asked m run
  pub runs : RunsOn asked run m
  pub to_is : to ≡ run.to
  pub header_is : header ≡ run.header
  pub other : other_run run.header l.header ≡ None
  pub ours : IsOurs run.header l.header
  pub are : works ≡ works_of run l.rows (files_below run.from m)

-- the header is this run's now
pub record SetsHeader (asked : Asked) (f : Option Contents) (k k' : Option Ledger) : Type 0 where
  pub header : Header
  pub ledger : k' ≡ option_map (with_header header) k
  pub ours : IfSome k (λ l. IsOurs header l.header)
  pub whose : IfSome f (λ m. (run : Run) × IsReady asked m run × (header ≡ run.header))

-- the ledger is as before, or has this run's header
abbrev pub LedgerEarly : Asked → Option Contents → Option Ledger → Option Ledger → Type 0
LedgerEarly asked f k k' = (k' ≡ k) ⊎ SetsHeader asked f k k'

-- it is the first answer
pub record IsAnswer (asked : Asked) (f : Option Contents) (k : Option Ledger) (status : Status) : Type 0 where
  pub is : is_answer status ≡ true
  pub cause : AskedCause asked status
  pub first : WhereTold f k (λ m l. first_answer asked m l ≡ status)

-- before the first file is written, a run may halt so
abbrev pub HaltsEarly : Asked → Option Contents → Option Ledger → Option Ledger → ℕ → ℕ → ℕ → ℕ → Halt → Type 0
HaltsEarly asked f k k' f1 f2 k1 k2 halt.Memory = LedgerEarly asked f k k'
HaltsEarly asked f k k' f1 f2 k1 k2 halt.Folders = LedgerEarly asked f k k' × Rose f1 f2
HaltsEarly asked f k k' f1 f2 k1 k2 halt.Ledger = LedgerEarly asked f k k' × Rose k1 k2
HaltsEarly asked f k k' f1 f2 k1 k2 (halt.Answer status) = (k' ≡ k) × IsAnswer asked f k status

pub record AllWritten (to : Text) (works : List Work) (f f' : Option Contents) (k k' : Option Ledger) : Type 0 where
  pub folders : f' ≡ option_map (files_after to works) f
  pub ledger : k' ≡ option_map (ledger_after works) k

pub record SomeWritten (to : Text) (works : List Work) (f f' : Option Contents) (k k' : Option Ledger) : Type 0 where
  pub done : ℕ
  pub stopped : StopsAt stop.Memory to works done f f' k k'

-- what the writing leaves
abbrev pub Finishes : Text → List Work → Option Contents → Option Contents → Option Ledger → Option Ledger → Status → Type 0
Finishes to works f f' k k' Done = AllWritten to works f f' k k'
Finishes to works f f' k k' Refusals = AllWritten to works f f' k k'
Finishes to works f f' k k' OutputFault = AllWritten to works f f' k k'
Finishes to works f f' k k' Memory = SomeWritten to works f f' k k'
Finishes to works f f' k k' (FolderFault done) = StopsAt stop.Folders to works done f f' k k'
Finishes to works f f' k k' (Moved path first second) = SomeWritten to works f f' k k'
Finishes to works f f' k k' (LedgerFault done) = StopsAt stop.Ledger to works done f f' k k'
Finishes to works f f' k k' _ = ⊥

-- no row waits behind a run whose files are all done and whose report was begun
abbrev pub Committed : Option (List Row) → Status → Type 0
Committed waiting Done = NoneWaits waiting
Committed waiting Refusals = NoneWaits waiting
Committed waiting OutputFault = NoneWaits waiting
Committed waiting _ = Unit {0}

-- what was written of a report
abbrev pub Reported : Text → Option Text → Option Text → Status → Type 0
Reported text o o' Done = o' ≡ writing text o
Reported text o o' Refusals = o' ≡ writing text o
Reported text o o' OutputFault = WritesFront text o o'
Reported text o o' _ = o' ≡ o

-- what was written of the report of a run of these words; nothing of it at any other status
abbrev pub ReportedOf : Asked → Option Contents → Option Ledger → Option Text → Option Text → Status → Type 0
ReportedOf asked f k o o' Done = WhereTold f k (λ m l. IsOkAnd (run_of_asked asked m) (λ run. o' ≡ writing (report run l.rows (files_below run.from m)) o))
ReportedOf asked f k o o' Refusals = WhereTold f k (λ m l. IsOkAnd (run_of_asked asked m) (λ run. o' ≡ writing (report run l.rows (files_below run.from m)) o))
ReportedOf asked f k o o' OutputFault = WhereTold f k (λ m l. IsOkAnd (run_of_asked asked m) (λ run. WritesFront (report run l.rows (files_below run.from m)) o o'))
ReportedOf asked f k o o' _ = o' ≡ o

-- a status has its cause: the count of what failed rose; or two digests of a file differ, which folders that tell their contents
-- never give
abbrev pub HasCauses : Asked → Option Contents → Status → ℕ → ℕ → ℕ → ℕ → ℕ → ℕ → Type 0
HasCauses asked told (FolderFault done) f f' k k' o o' = Rose f f'
HasCauses asked told (LedgerFault done) f f' k k' o o' = Rose k k'
HasCauses asked told OutputFault f f' k k' o o' = Rose o o'
HasCauses asked told (Moved path first second) f f' k k' o o' = (first ≢ second) × (told ≡ None)
HasCauses asked told status f f' k k' o o' = AskedCause asked status

-- a run has begun to write, and stands here
pub record HasBegun (asked : Asked) (m0 : Contents) (l0 : Ledger) (m : Contents) (l : Ledger) (done : ℕ) : Type 0 where
  pub run : Run
  pub is : run_of_asked asked m0 ≡ Ok run
  pub stands : Between run m0 l0 m l done ⊎ Within run m0 l0 m l done

abbrev pub StandsAt : Asked → Contents → Ledger → Contents → Ledger → ℕ → Type 0
StandsAt asked m0 l0 m l done = Unchanged m0 l0 m l done ⊎ HasBegun asked m0 l0 m l done

-- no file is done, or the next one isn't kept
abbrev pub ComesAtFresh : Asked → Contents → Ledger → ℕ → Type 0
ComesAtFresh asked m0 l0 done = (done ≡ 0) ⊎ IsOkAnd (run_of_asked asked m0) (λ run. NextIsFresh run m0 l0 done)

-- where a run stands that the folders stopped
pub record StandsAtFresh (asked : Asked) (m0 : Contents) (l0 : Ledger) (m : Contents) (l : Ledger) (done : ℕ) : Type 0 where
  pub stands : StandsAt asked m0 l0 m l done
  pub fresh : ComesAtFresh asked m0 l0 done

pub record StandsSomewhere (asked : Asked) (m0 : Contents) (l0 : Ledger) (m : Contents) (l : Ledger) : Type 0 where
  pub done : ℕ
  pub stands : StandsAt asked m0 l0 m l done

-- all files of the run are done
pub record IsDone (asked : Asked) (m0 : Contents) (l0 : Ledger) (m : Contents) (l : Ledger) : Type 0 where
  pub run : Run
  pub ready : IsReady asked m0 run
  pub runs : RunsOn asked run m0
  pub stands : Between run m0 l0 m l (length (files_below run.from m0))

-- what became of each file of a run whose files are all done
pub record IsWritten (asked : Asked) (m0 : Contents) (l0 : Ledger) (m : Contents) (l : Ledger) (planned : List PlannedFile) (outcomes : List Outcome) : Type 0 where
  pub done : IsDone asked m0 l0 m l
  pub report_is : report_by planned outcomes ≡ report done.run l0.rows (files_below done.run.from m0)
  pub totals : summary_by outcomes ≡ summary_of done.run l0.rows (files_below done.run.from m0)
  pub ends : ending_by outcomes ≡ first_answer asked m0 l0

-- where a run stands at its end
abbrev pub StandsAfter : Asked → Contents → Ledger → Contents → Ledger → Status → Type 0
StandsAfter asked m0 l0 m l Done = IsDone asked m0 l0 m l
StandsAfter asked m0 l0 m l Refusals = IsDone asked m0 l0 m l
StandsAfter asked m0 l0 m l OutputFault = IsDone asked m0 l0 m l
StandsAfter asked m0 l0 m l Memory = StandsSomewhere asked m0 l0 m l
StandsAfter asked m0 l0 m l (Moved path first second) = StandsSomewhere asked m0 l0 m l
StandsAfter asked m0 l0 m l (FolderFault done) = StandsAtFresh asked m0 l0 m l done
StandsAfter asked m0 l0 m l (LedgerFault done) = StandsAt asked m0 l0 m l done
StandsAfter asked m0 l0 m l _ = Unchanged m0 l0 m l 0

-- a status that is no fault of the outside, no file that moved and no want of memory
abbrev pub is_final : Status → Bool
is_final Memory = false
is_final (FolderFault done) = false
is_final (LedgerFault done) = false
is_final OutputFault = false
is_final (Moved path first second) = false
is_final _ = true

-- a status that the report ends with
abbrev pub IsTold : Status → Type 0
IsTold Done = Unit {0}
IsTold Refusals = Unit {0}
IsTold OutputFault = Unit {0}
IsTold _ = ⊥

-- a status before which nothing of a report was written
abbrev pub IsSilent : Status → Type 0
IsSilent Done = ⊥
IsSilent Refusals = ⊥
IsSilent OutputFault = ⊥
IsSilent _ = Unit {0}

-- the name that is attached in the end, of a ledger of this name
abbrev pub NamedBy : Option Text → Option Text → Text → Status → Type 0
NamedBy old new name Done = new ≡ Some name
NamedBy old new name Refusals = new ≡ Some name
NamedBy old new name OutputFault = new ≡ Some name
NamedBy old new name (Moved path first second) = new ≡ Some name
NamedBy old new name (OtherRun kept wanted) = new ≡ Some name
NamedBy old new name Memory = (new ≡ old) ⊎ (new ≡ Some name)
NamedBy old new name (FolderFault done) = (new ≡ old) ⊎ (new ≡ Some name)
NamedBy old new name (LedgerFault done) = (new ≡ old) ⊎ (new ≡ Some name)
NamedBy old new name _ = new ≡ old

abbrev pub NamedByRoots : Option Text → Option Text → Status → Asked → Type 0
NamedByRoots old new status (Ok roots) = NamedBy old new roots.ledger status
NamedByRoots old new status (Err fault) = new ≡ old

abbrev pub Named : Asked → Option Text → Option Text → Status → Type 0
Named asked old new status = NamedByRoots old new status (asked)

-- the name that is attached where a run halts early
abbrev pub NamedEarly : Asked → Option Text → Option Text → Halt → Type 0
NamedEarly asked old new halt = Named asked old new (status_of_halt halt)

-- the ledger of these words is attached
pub record IsAttached (asked : Asked) (name : Option Text) : Type 0 where
  pub roots : Roots
  pub are : asked ≡ Ok roots
  pub is : name ≡ Some roots.ledger

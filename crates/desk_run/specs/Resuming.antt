-- What a run leaves as it was, and how a run goes on where another was stopped.
use Rattle.std.specs.Prelude.{◌≡◌, Bool, true, false, List, [], ◌∷◌, Ok, IfOk}
use Rattle.desk_folders.specs.Contents.{Contents, files_below}
use Rattle.desk_ledger.specs.Ledger.{Ledger}
use Rattle.desk_report.specs.declared.status.Status.{Status}
use Rattle.desk_report.specs.declared.status.Status.TheVariants.{Done, Refusals, Memory, FolderFault, LedgerFault, OutputFault}
use Rattle.desk_words.specs.declared.roots.Roots.{Roots}
use Rattle.desk_run.specs.Asked.{Asked}
use Rattle.desk_run.specs.Runs.{Run}
use Rattle.desk_run.specs.Truth.{IsTrusted}
use Rattle.desk_run.specs.Meaning.{run_of_asked}
use Rattle.desk_run.specs.Clauses.{HoldsFiles, KeepsLedger, Left}

-- the files below source and rule folder are as they were
pub record SourcesStay (roots : Roots) (m0 m : Contents) : Type 0 where
  pub source : files_below roots.from m ≡ files_below roots.from m0
  pub rules : files_below roots.rules m ≡ files_below roots.rules m0

-- sources: for the roots that the words name
abbrev pub LeavesSources : Asked → Contents → Contents → Type 0
LeavesSources asked m0 m = IfOk (asked) (λ roots. SourcesStay roots m0 m)

-- a status with which a run stops: want of memory, or a fault of folders, ledger or output
abbrev pub is_stop : Status → Bool
is_stop Memory = true
is_stop (FolderFault done) = true
is_stop (LedgerFault done) = true
is_stop OutputFault = true
is_stop _ = false

-- a run of these words was stopped: it left these folders and this ledger, by what is promised of its status
pub record WasStopped (asked : Asked) (m0 : Contents) (l0 : Ledger) (m : Contents) (l : Ledger) : Type 0 where
  pub status : Status
  pub stopped : is_stop status ≡ true
  pub ledger : KeepsLedger asked m0 l0 m l status
  pub remains : Left asked m0 l0 m l status
  pub sources : LeavesSources asked m0 m

-- one run of these words, or more of them one behind the other, was stopped: each but the first over what the one before left, of
-- which the list has what each but the last left
abbrev pub WereStopped : Asked → Contents → Ledger → List (Contents × Ledger) → Contents → Ledger → Type 0
WereStopped asked m0 l0 [] m l = WasStopped asked m0 l0 m l
WereStopped asked m0 l0 (left ∷ more) m l = WasStopped asked m0 l0 left.0 left.1 × WereStopped asked left.0 left.1 more m l

-- what is known of ledger and folders before the first of them, as of a run that completes
abbrev pub AreTrusted : Asked → Contents → Ledger → Type 0
AreTrusted asked m0 l0 = (run : Run) → run_of_asked asked m0 ≡ Ok run → IsTrusted run m0 l0

-- the folders are those of one run, and only these are
pub record IsOneRun (asked : Asked) (m0 : Contents) (l0 : Ledger) (m : Contents) : Type 0 where
  pub run : Run
  pub is : run_of_asked asked m0 ≡ Ok run
  pub files : HoldsFiles run m0 l0 m
  pub only : (other : Contents) → HoldsFiles run m0 l0 other → other ≡ m

-- a run that completes over what stopped runs left, however many, leaves the folders of one run that was never stopped
abbrev pub GoesOn : Asked → Contents → Ledger → Contents → Type 0
GoesOn asked m1 l1 m = (m0 : Contents) (l0 : Ledger) (left : List (Contents × Ledger)) → AreTrusted asked m0 l0 → WereStopped asked m0 l0 left m1 l1 → IsOneRun asked m0 l0 m

-- resume: after a run that completes
abbrev pub Resumes : Asked → Contents → Ledger → Contents → Status → Type 0
Resumes asked m1 l1 m Done = GoesOn asked m1 l1 m
Resumes asked m1 l1 m Refusals = GoesOn asked m1 l1 m
Resumes asked m1 l1 m _ = Unit {0}

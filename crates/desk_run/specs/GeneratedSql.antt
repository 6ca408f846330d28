-- A run over a generated application, in folders of its own, whose rows go into the ledger that is handed in.
use Rattle.std.specs.Prelude.{◌≡◌, ◌≢◌, ◌==◌, ℕ, ◌++◌, List, ◌∷◌, Option, Some, None, Result, Ok, Err, IsOkAnd, IfSome, cond}
use Rattle.std.specs.FinMap as fin
use Rattle.desk_base.specs.Counts.{Rose}
use Rattle.desk_base.specs.Names.{Text}
use Rattle.desk_folders.specs.Contents.{Contents, File, files_below}
use Rattle.desk_ledger.specs.Ledger.{Ledger}
use Rattle.desk_report.specs.declared.lines.Summary.{Summary}
use Rattle.desk_report.specs.declared.status.Status.{Status}
use Rattle.desk_report.specs.declared.status.Status.TheVariants.{Done, Memory, LedgerFault, OutputFault, OtherRun}
use Rattle.desk_report.specs.Texts.{fault_text, summary_text}
use Rattle.desk_report.specs.Written.{WritesFront, writing}
use Rattle.desk_run.specs.Answers.{first_answer}
use Rattle.desk_run.specs.Clauses.{HoldsRows, RemainsAt, TwoFronts}
use Rattle.desk_run.specs.Generated.{generated_contents, generated_roots}
use Rattle.desk_run.specs.Meaning.{run_of_asked}
use Rattle.desk_run.specs.Asked.{Asked, asked_roots}
use Rattle.desk_run.specs.Queries.{WritesLine}
use Rattle.desk_run.specs.Reports.{ending, summary_of}
use Rattle.desk_run.specs.Runs.{Run, written_of}

-- a ledger tells this
pub record TellsLedger (k : Option Ledger) (P : Ledger → Type 0) : Type 0 where
  pub l : Ledger
  pub ledger : k ≡ Some l
  pub holds : P l

-- a run over what the folders hold has completed over a ledger: its totals are such, the ledger has its rows, and nothing stood
-- against it but files that are refused, if some are
pub record Completes (asked : Asked) (m0 : Contents) (l0 l : Ledger) (P : Summary → Type 0) : Type 0 where
  pub run : IsOkAnd (run_of_asked asked m0) (λ run. HoldsRows run m0 l0 l × (first_answer asked m0 l0 ≡ ending run l0.rows (files_below run.from m0)) × P (summary_of run l0.rows (files_below run.from m0)))

-- the rows of a ledger are one for each file, with the file's path, the digest of its bytes and that of its image's bytes, and there
-- are no others
pub record HasRowOfEach (run : Run) (m0 : Contents) (l : Ledger) : Type 0 where
  pub each : (before rest : List File) (file : File) → files_below run.from m0 ≡ before ++ file ∷ rest
      → IsOkAnd (run.image file.path file.bytes) (λ image. fin.get l.rows (run.target file.path) ≡ Some (written_of file image))
  pub others : (target : Text) → ((before rest : List File) (file : File) → files_below run.from m0 ≡ before ++ file ∷ rest → run.target file.path ≢ target)
      → fin.get l.rows target ≡ None

-- what a run leaves of whose files none is refused: where the ledger had no rows, those of its files
abbrev pub LeavesWhole : Run → Contents → Ledger → Ledger → Type 0
LeavesWhole run m0 l0 l = HoldsRows run m0 l0 l × (l0.rows ≡ fin.empty → HasRowOfEach run m0 l)

-- a run has completed over a ledger, and nothing stood against it: its totals are such, no file is refused, and the ledger has its rows
pub record CompletesWhole (asked : Asked) (m0 : Contents) (l0 l : Ledger) (P : Summary → Type 0) : Type 0 where
  pub run : IsOkAnd (run_of_asked asked m0) (λ run. LeavesWhole run m0 l0 l × P (summary_of run l0.rows (files_below run.from m0)))
  pub first : first_answer asked m0 l0 ≡ Done

-- the same of a generated application of so many classes
abbrev pub CompletesGenerated : ℕ → Ledger → Option Ledger → (Summary → Type 0) → Type 0
CompletesGenerated n l0 k P = TellsLedger k (λ l. CompletesWhole (asked_roots generated_roots) (generated_contents n) l0 l P)

-- the rows of so many files are done
pub record LeavesRows (n : ℕ) (l0 l : Ledger) (done : ℕ) : Type 0 where
  pub m : Contents
  pub remains : RemainsAt (asked_roots generated_roots) (generated_contents n) l0 m l done

-- how it ends before its totals: the ledger belongs to another run, and is as it was; a call on it failed; or memory ran out
abbrev pub StopsGenerated : ℕ → Option Ledger → Option Ledger → ℕ → ℕ → Status → Type 0
StopsGenerated n k0 k a a' (OtherRun kept wanted) = IfSome k0 (λ l0. (k ≡ k0) × (first_answer (asked_roots generated_roots) (generated_contents n) l0 ≡ OtherRun kept wanted))
StopsGenerated n k0 k a a' (LedgerFault done) = Rose a a' × IfSome k0 (λ l0. TellsLedger k (λ l. LeavesRows n l0 l done))
StopsGenerated n k0 k a a' Memory = Unit {0}
StopsGenerated n k0 k a a' _ = ⊥

-- another run's ledger is all that ends it before its totals
abbrev pub totals_status : Status → Status
totals_status (OtherRun kept wanted) = OtherRun kept wanted
totals_status _ = Done

-- what such a run ends with over a ledger, unless a call fails or memory runs out: that the ledger has another run's header, or that
-- all is done
abbrev pub generated_answer : ℕ → Ledger → Status
generated_answer n l = totals_status (first_answer (asked_roots generated_roots) (generated_contents n) l)

-- how a stop of the run is told
abbrev pub kept_status : Status → Status
kept_status (OtherRun kept wanted) = OtherRun kept wanted
kept_status (LedgerFault done) = LedgerFault done
kept_status _ = Memory

-- of a generated application no file is refused, and nothing but another run's ledger stands against it
abbrev pub kept_totals : Result Summary Status → Result Summary Status
kept_totals (Ok totals) = cond (totals.refused == 0) (Ok totals) (Err Memory)
kept_totals (Err status) = Err (kept_status status)

-- what the writing of totals leaves, or of a status in place of them
abbrev pub TellsResult : Result Summary Status → Option Text → Option Text → ℕ → ℕ → Status → Type 0
TellsResult (Ok totals) old new o o' Done = new ≡ writing (summary_text totals) old
TellsResult (Ok totals) old new o o' OutputFault = Rose o o' × WritesFront (summary_text totals) old new
TellsResult (Ok totals) old new o o' _ = ⊥
TellsResult (Err stop) old new o o' status = (status ≡ stop) × (new ≡ old)

-- what it leaves before the line of a fault: the line of its totals, a front of it, or nothing
abbrev pub LeavesSql : ℕ → Option Ledger → Option Ledger → ℕ → ℕ → Option Text → Option Text → ℕ → ℕ → Status → Type 0
LeavesSql n k0 k a a' old new o o' Done = IfSome k0 (λ l0. CompletesGenerated n l0 k (λ totals. new ≡ writing (summary_text totals) old))
LeavesSql n k0 k a a' old new o o' OutputFault = Rose o o' × IfSome k0 (λ l0. CompletesGenerated n l0 k (λ totals. WritesFront (summary_text totals) old new))
LeavesSql n k0 k a a' old new o o' status = StopsGenerated n k0 k a a' status × (new ≡ old)

-- generate with an SQL ledger: at 0 the line of the totals alone, and the ledger has the rows of the run and its header, which are one
-- for each file and no others where it had none; at 13 a front of that line and one of the fault's line; at 27, exactly where the ledger had another run's header, it is as it was; at 12 a
-- call on it failed; else want of memory
abbrev pub GeneratesSql : ℕ → Option Ledger → Option Ledger → ℕ → ℕ → Option Text → Option Text → ℕ → ℕ → Status → Type 0
GeneratesSql n k0 k a a' old new o o' Done = IfSome k0 (λ l0. CompletesGenerated n l0 k (λ totals. new ≡ writing (summary_text totals) old))
GeneratesSql n k0 k a a' old new o o' OutputFault = Rose o o' × IfSome k0 (λ l0. CompletesGenerated n l0 k (λ totals. TwoFronts (summary_text totals) (fault_text OutputFault) old new))
GeneratesSql n k0 k a a' old new o o' status = StopsGenerated n k0 k a a' status × WritesLine (fault_text status) old new o o'

-- What is promised of a run, clause by clause.
use Rattle.std.specs.Prelude.{◌≡◌, ◌≢◌, ◌⊎◌, ℕ, ◌++◌, List, ◌∷◌, Option, Some, true, false, Ok, IsOkAnd, MatchResult}
use Rattle.std.specs.FinMap as fin
use Rattle.desk_base.specs.Names.{Text}
use Rattle.desk_base.specs.Paths.{full}
use Rattle.desk_base.specs.Counts.{Rose}
use Rattle.desk_folders.specs.Contents.{Contents, File, files_below}
use Rattle.desk_ledger.specs.Ledger.{Ledger}
use Rattle.desk_report.specs.declared.status.Status.{Status}
use Rattle.desk_report.specs.declared.status.Status.TheVariants.{Done, Refusals, Memory, FolderFault, LedgerFault, OutputFault, Moved}
use Rattle.desk_report.specs.Texts.{fault_text}
use Rattle.desk_report.specs.Written.{WritesFront, writing}
use Rattle.desk_file.specs.declared.images.Image.{Image}
use Rattle.desk_run.specs.Asked.{Asked}
use Rattle.desk_run.specs.Runs.{Run, row_of, is_kept_file, is_fresh}
use Rattle.desk_run.specs.Truth.{IsTrusted, IsVerified, SoundLedger, TrueLedger}
use Rattle.desk_run.specs.Stands.{Unchanged, Remains}
use Rattle.desk_run.specs.Reports.{report}
use Rattle.desk_run.specs.Meaning.{run_of_asked}
use Rattle.desk_run.specs.Endings.{ComesAtFresh, WhereTold, Tells, Named, is_final}

-- the targets of accepted files hold their images, of a kept file where the ledger was true, or the run verifies; every path
-- that is no target of a file that was written holds what it held
pub record HoldsFiles (run : Run) (m0 : Contents) (l0 : Ledger) (m : Contents) : Type 0 where
  pub images : (before rest : List File) (file : File) (image : Image) → files_below run.from m0 ≡ before ++ file ∷ rest
      → run.image file.path file.bytes ≡ Ok image → IsTrusted run m0 l0 ⊎ (is_kept_file run l0.rows file ≡ false)
      → fin.get m (full run.to (run.target file.path)) ≡ Some image.bytes
  pub paths : (path : Text) → ((before rest : List File) (file : File) → files_below run.from m0 ≡ before ++ file ∷ rest → is_fresh run l0.rows file ≡ true
      → full run.to (run.target file.path) ≢ path) → fin.get m path ≡ fin.get m0 path

-- the header is this run's; each accepted file has its row with its path, the digest of its bytes and that of its image's, that
-- of a kept one is as it was; and every other row is as it was
pub record HoldsRows (run : Run) (m0 : Contents) (l0 l : Ledger) : Type 0 where
  pub header : l.header ≡ Some run.header
  pub rows : (before rest : List File) (file : File) (image : Image) → files_below run.from m0 ≡ before ++ file ∷ rest
      → run.image file.path file.bytes ≡ Ok image → fin.get l.rows (run.target file.path) ≡ row_of run l0.rows file image
  pub others : (target : Text) → ((before rest : List File) (file : File) → files_below run.from m0 ≡ before ++ file ∷ rest → is_fresh run l0.rows file ≡ true
      → run.target file.path ≢ target) → fin.get l.rows target ≡ fin.get l0.rows target

-- files: after a run that completes
abbrev pub Files : Asked → Contents → Ledger → Contents → Status → Type 0
Files asked m0 l0 m Done = IsOkAnd (run_of_asked asked m0) (λ run. HoldsFiles run m0 l0 m)
Files asked m0 l0 m Refusals = IsOkAnd (run_of_asked asked m0) (λ run. HoldsFiles run m0 l0 m)
Files asked m0 l0 m _ = Unit {0}

abbrev pub CompleteRows : Asked → Contents → Ledger → Ledger → Status → Type 0
CompleteRows asked m0 l0 l Done = IsOkAnd (run_of_asked asked m0) (λ run. HoldsRows run m0 l0 l)
CompleteRows asked m0 l0 l Refusals = IsOkAnd (run_of_asked asked m0) (λ run. HoldsRows run m0 l0 l)
CompleteRows asked m0 l0 l _ = Unit {0}

-- after a run that completes and verifies, the ledger is true
abbrev pub TrueBehind : Asked → Contents → Ledger → Contents → Ledger → Status → Type 0
TrueBehind asked m0 l0 m l Done = IsOkAnd (run_of_asked asked m0) (λ run. IsVerified run m0 l0 → TrueLedger run m l)
TrueBehind asked m0 l0 m l Refusals = IsOkAnd (run_of_asked asked m0) (λ run. IsVerified run m0 l0 → TrueLedger run m l)
TrueBehind asked m0 l0 m l OutputFault = IsOkAnd (run_of_asked asked m0) (λ run. IsVerified run m0 l0 → TrueLedger run m l)
TrueBehind asked m0 l0 m l _ = Unit {0}

-- a true ledger is true at exit, and a sound one sound; it has all rows after a run that completes, and is true after one that
-- verifies
pub record KeepsLedger (asked : Asked) (m0 : Contents) (l0 : Ledger) (m : Contents) (l : Ledger) (status : Status) : Type 0 where
  pub stays : (run : Run) → run_of_asked asked m0 ≡ Ok run → TrueLedger run m0 l0 → TrueLedger run m l
  pub sound : (run : Run) → run_of_asked asked m0 ≡ Ok run → SoundLedger run m0 l0 → SoundLedger run m l
  pub complete : CompleteRows asked m0 l0 l status
  pub verified : TrueBehind asked m0 l0 m l status

-- ledger: what is told of it, and the name that is attached
pub record LedgerHolds (asked : Asked) (f0 f : Option Contents) (k0 k : Option Ledger) (name0 name : Option Text) (status : Status) : Type 0 where
  pub kept : WhereTold f0 k0 (λ m0 l0. Tells f k (λ m l. KeepsLedger asked m0 l0 m l status))
  pub attached : Named asked name0 name status

-- a front of a text, and behind it a front of a line
pub record TwoFronts (text line : Text) (old new : Option Text) : Type 0 where
  pub mid : Option Text
  pub report : WritesFront text old mid
  pub fault : WritesFront line mid new

-- output
abbrev pub Output : Asked → Option Contents → Option Ledger → Option Text → Option Text → ℕ → ℕ → Status → Type 0
Output asked f0 k0 old new o o' Done = WhereTold f0 k0 (λ m l. IsOkAnd (run_of_asked asked m) (λ run. new ≡ writing (report run l.rows (files_below run.from m)) old))
Output asked f0 k0 old new o o' Refusals = WhereTold f0 k0 (λ m l. IsOkAnd (run_of_asked asked m) (λ run. new ≡ writing (report run l.rows (files_below run.from m)) old))
Output asked f0 k0 old new o o' OutputFault = WhereTold f0 k0 (λ m l. IsOkAnd (run_of_asked asked m) (λ run. TwoFronts (report run l.rows (files_below run.from m)) (fault_text OutputFault) old new))
Output asked f0 k0 old new o o' status = (new ≡ writing (fault_text status) old) ⊎ (WritesFront (fault_text status) old new × Rose o o')

-- status: the first answer, or a fault of the outside, or want of memory
pub record Exact (first status : Status) (f f' k k' o o' : ℕ) : Type 0 where
  pub final : is_final status ≡ true → status ≡ first
  pub quiet : ¬ Rose f f' → ¬ Rose k k' → ¬ Rose o o' → (status ≡ first) ⊎ (status ≡ Memory)

-- what stands after so many files; where there is no run, all stands as it was
abbrev pub RemainsAt : Asked → Contents → Ledger → Contents → Ledger → ℕ → Type 0
RemainsAt asked m0 l0 m l done = MatchResult (run_of_asked asked m0) (λ run. Remains run m0 l0 m l done) (λ _. Unchanged m0 l0 m l done)

-- and after a fault of the folders, which comes before the first file is written, or at one that isn't kept
pub record RemainsAtFresh (asked : Asked) (m0 : Contents) (l0 : Ledger) (m : Contents) (l : Ledger) (done : ℕ) : Type 0 where
  pub remains : RemainsAt asked m0 l0 m l done
  pub fresh : ComesAtFresh asked m0 l0 done

pub record RemainsSomewhere (asked : Asked) (m0 : Contents) (l0 : Ledger) (m : Contents) (l : Ledger) : Type 0 where
  pub done : ℕ
  pub remains : RemainsAt asked m0 l0 m l done

-- remains: what stands after the other statuses
abbrev pub Left : Asked → Contents → Ledger → Contents → Ledger → Status → Type 0
Left asked m0 l0 m l Done = Unit {0}
Left asked m0 l0 m l Refusals = Unit {0}
Left asked m0 l0 m l OutputFault = IsOkAnd (run_of_asked asked m0) (λ run. HoldsFiles run m0 l0 m × HoldsRows run m0 l0 l)
Left asked m0 l0 m l Memory = RemainsSomewhere asked m0 l0 m l
Left asked m0 l0 m l (Moved path first second) = RemainsSomewhere asked m0 l0 m l
Left asked m0 l0 m l (FolderFault done) = RemainsAtFresh asked m0 l0 m l done
Left asked m0 l0 m l (LedgerFault done) = RemainsAt asked m0 l0 m l done
Left asked m0 l0 m l _ = (m ≡ m0) × (l ≡ l0)

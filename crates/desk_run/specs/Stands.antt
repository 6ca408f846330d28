-- Where a run stands: how many files are done, and what that leaves.
use Rattle.std.specs.Prelude.{◌≡◌, ◌≢◌, ◌⊎◌, ℕ, ◌<◌, ◌≤◌, ◌++◌, List, ◌∷◌, length, Some, None, true, false, Ok}
use Rattle.std.specs.FinMap as fin
use Rattle.desk_base.specs.Names.{Text}
use Rattle.desk_base.specs.Paths.{full}
use Rattle.desk_folders.specs.Contents.{Contents, File, ChangesOnly, files_below}
use Rattle.desk_ledger.specs.Ledger.{Ledger, with_header}
use Rattle.desk_file.specs.declared.images.Image.{Image}
use Rattle.desk_run.specs.Runs.{Run, FindsIn, TargetsApart, row_of, is_fresh, is_kept_file}
use Rattle.desk_batches.specs.Works.{files_after, ledger_after, cleared, writes}
use Rattle.desk_run.specs.Works.{work_of, works_of}
use Rattle.desk_run.specs.Truth.{IsOurs, IsTrusted}

-- nothing is changed
pub record Unchanged (m0 : Contents) (l0 : Ledger) (m : Contents) (l : Ledger) (done : ℕ) : Type 0 where
  pub folder : m ≡ m0
  pub ledger : l ≡ l0
  pub none : done ≡ 0

-- these files are done, and no other is begun
pub record Between (run : Run) (m0 : Contents) (l0 : Ledger) (m : Contents) (l : Ledger) (done : ℕ) : Type 0 where
  pub before : List File
  pub rest : List File
  pub split : files_below run.from m0 ≡ before ++ rest
  pub count : length before ≡ done
  pub apart : TargetsApart run m0
  pub finds : FindsIn run m0
  pub ours : IsOurs run.header l0.header
  pub folder : m ≡ files_after run.to (works_of run l0.rows before) m0
  pub ledger : l ≡ ledger_after (works_of run l0.rows before) (with_header run.header l0)

-- these files are done, and the next is begun
pub record Within (run : Run) (m0 : Contents) (l0 : Ledger) (m : Contents) (l : Ledger) (done : ℕ) : Type 0 where
  pub before : List File
  pub file : File
  pub rest : List File
  pub split : files_below run.from m0 ≡ before ++ file ∷ rest
  pub count : length before ≡ done
  pub apart : TargetsApart run m0
  pub finds : FindsIn run m0
  pub ours : IsOurs run.header l0.header
  pub fresh : writes (work_of run l0.rows file).plan ≡ true
  pub folder : ChangesOnly (full run.to (run.target file.path)) (Some (files_after run.to (works_of run l0.rows before) m0)) (Some m)
  pub ledger : l ≡ cleared (work_of run l0.rows file) (ledger_after (works_of run l0.rows before) (with_header run.header l0))

abbrev pub Stands : Run → Contents → Ledger → Contents → Ledger → ℕ → Type 0
Stands run m0 l0 m l done = Unchanged m0 l0 m l done ⊎ (Between run m0 l0 m l done ⊎ Within run m0 l0 m l done)

-- the file behind so many isn't kept
abbrev pub NextIsFresh : Run → Contents → Ledger → ℕ → Type 0
NextIsFresh run m0 l0 done = (before rest : List File) (file : File) → files_below run.from m0 ≡ before ++ file ∷ rest → length before ≡ done → is_kept_file run l0.rows file ≡ false

-- what is said of a run that has done so many files, in the order of their paths
pub record Remains (run : Run) (m0 : Contents) (l0 : Ledger) (m : Contents) (l : Ledger) (done : ℕ) : Type 0 where
  -- each accepted file before has its image at its target; a kept one where the ledger was true, or the run verifies
  pub images : (before rest : List File) (file : File) (image : Image) → files_below run.from m0 ≡ before ++ file ∷ rest → length before < done
      → run.image file.path file.bytes ≡ Ok image → IsTrusted run m0 l0 ⊎ (is_kept_file run l0.rows file ≡ false) → fin.get m (full run.to (run.target file.path)) ≡ Some image.bytes
  -- and its row, with the digest of its image; that of a kept one is as it was
  pub rows : (before rest : List File) (file : File) (image : Image) → files_below run.from m0 ≡ before ++ file ∷ rest → length before < done
      → run.image file.path file.bytes ≡ Ok image → fin.get l.rows (run.target file.path) ≡ row_of run l0.rows file image
  -- the next file's row is missing, or it is as at entry, and then its target is as at entry
  pub next : (before rest : List File) (file : File) → files_below run.from m0 ≡ before ++ file ∷ rest → length before ≡ done
      → (fin.get l.rows (run.target file.path) ≡ None)
      ⊎ ((fin.get l.rows (run.target file.path) ≡ fin.get l0.rows (run.target file.path)) × (fin.get m (full run.to (run.target file.path)) ≡ fin.get m0 (full run.to (run.target file.path))))
  -- every other path is as at entry
  pub paths : (path : Text) → ((before rest : List File) (file : File) → files_below run.from m0 ≡ before ++ file ∷ rest → length before ≤ done → is_fresh run l0.rows file ≡ true
      → full run.to (run.target file.path) ≢ path) → fin.get m path ≡ fin.get m0 path
  -- and every other row
  pub others : (target : Text) → ((before rest : List File) (file : File) → files_below run.from m0 ≡ before ++ file ∷ rest → length before ≤ done → is_fresh run l0.rows file ≡ true
      → run.target file.path ≢ target) → fin.get l.rows target ≡ fin.get l0.rows target
  -- the header is as at entry, or this run's
  pub header : (l.header ≡ l0.header) ⊎ (l.header ≡ Some run.header)

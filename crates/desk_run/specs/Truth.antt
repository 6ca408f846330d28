-- A ledger is true of a folder, or sound.
use Rattle.std.specs.Prelude.{◌≡◌, ◌⊎◌, ◌++◌, List, ◌∷◌, Option, Some, None, true, Ok, IfSome}
use Rattle.std.specs.FinMap as fin
use Rattle.sha2.specs.Sha256.{sha256}
use Rattle.desk_base.specs.Names.{Text}
use Rattle.desk_base.specs.Paths.{full, is_relative_path}
use Rattle.desk_folders.specs.Contents.{Contents, File, files_below}
use Rattle.desk_ledger.specs.declared.keeper.Header.{Header}
use Rattle.desk_ledger.specs.declared.keeper.Held.{Held}
use Rattle.desk_ledger.specs.Digests.{digest}
use Rattle.desk_ledger.specs.Ledger.{Ledger, Rows}
use Rattle.desk_file.specs.declared.images.Image.{Image}
use Rattle.desk_run.specs.Runs.{Run, is_kept_file}

-- no header, or this run's
abbrev pub IsOurs : Header → Option Header → Type 0
IsOurs ours None = Unit {0}
IsOurs ours (Some header) = header ≡ ours

-- the image of these bytes, which stand at a row's source, goes to this target, and the row's output, where it has one, is the
-- digest of the image's bytes
pub record IsSoundRow (run : Run) (target : Text) (row : Held) (bytes : Text) : Type 0 where
  pub image : Image
  pub is : run.image row.source bytes ≡ Ok image
  pub goes : run.target row.source ≡ target
  pub output : IfSome row.output (λ output. output ≡ digest image.bytes)

-- and the target holds exactly the image's bytes
pub record IsTrueRow (run : Run) (m : Contents) (target : Text) (row : Held) (bytes : Text) : Type 0 where
  pub sound : IsSoundRow run target row bytes
  pub held : fin.get m (full run.to target) ≡ Some sound.image.bytes

-- each row whose source is there with the row's digest has its image at its target
abbrev pub TrueRows : Run → Contents → Rows → Type 0
TrueRows run m rows = (target : Text) (row : Held) (bytes : Text) → fin.get rows target ≡ Some row
    → is_relative_path row.source ≡ true → fin.get m (full run.from row.source) ≡ Some bytes → sha256 bytes ≡ row.digest.0 → IsTrueRow run m target row bytes

-- each such row goes where its image goes, and its output is that of its image; of what the target holds nothing is said
abbrev pub SoundRows : Run → Contents → Rows → Type 0
SoundRows run m rows = (target : Text) (row : Held) (bytes : Text) → fin.get rows target ≡ Some row
    → is_relative_path row.source ≡ true → fin.get m (full run.from row.source) ≡ Some bytes → sha256 bytes ≡ row.digest.0 → IsSoundRow run target row bytes

-- of another run's ledger nothing is said
abbrev pub TrueLedger : Run → Contents → Ledger → Type 0
TrueLedger run m l = IsOurs run.header l.header → TrueRows run m l.rows

abbrev pub SoundLedger : Run → Contents → Ledger → Type 0
SoundLedger run m l = IsOurs run.header l.header → SoundRows run m l.rows

-- no target of a file that the run keeps holds other bytes than the image of its file that have the image's digest
abbrev pub TargetsTell : Run → Contents → Rows → Type 0
TargetsTell run m rows = (before rest : List File) (file : File) (image : Image) (bytes : Text) → files_below run.from m ≡ before ++ file ∷ rest → is_kept_file run rows file ≡ true
    → run.image file.path file.bytes ≡ Ok image → fin.get m (full run.to (run.target file.path)) ≡ Some bytes → sha256 bytes ≡ sha256 image.bytes → bytes ≡ image.bytes

-- a run that verifies, over a sound ledger and such targets
pub record IsVerified (run : Run) (m : Contents) (l : Ledger) : Type 0 where
  pub verify : run.verify ≡ true
  pub sound : SoundLedger run m l
  pub targets : TargetsTell run m l.rows

-- what is to be known of ledger and folders, for kept files to hold their images: the ledger is true; or the run verifies
abbrev pub IsTrusted : Run → Contents → Ledger → Type 0
IsTrusted run m l = TrueLedger run m l ⊎ IsVerified run m l

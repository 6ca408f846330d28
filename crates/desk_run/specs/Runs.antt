-- What a run goes by, and what is said of its files one by one.
use Rattle.std.specs.Prelude.{◌≡◌, Bool, true, false, not, ◌&&◌, ◌==◌, List, [], ◌∷◌, Option, Some, None, Result, is_ok, is_err, map, cond}
use Rattle.std.specs.Cmp.Lexicographic.{pointwise}
use Rattle.std.specs.FinMap as fin
use Rattle.sha2.specs.Sha256.{sha256}
use Rattle.desk_base.specs.Names.{Text}
use Rattle.desk_base.specs.Paths.{full, is_relative_path}
use Rattle.desk_batches.specs.Turns.{same_digest}
use Rattle.desk_folders.specs.Contents.{Contents, File, files_below}
use Rattle.desk_graph.specs.declared.scanned.Scanned.{Scanned}
use Rattle.desk_intake.specs.Apart.{AllApart}
use Rattle.desk_ledger.specs.declared.digest.Digest.{Digest}
use Rattle.desk_ledger.specs.declared.keeper.Header.{Header}
use Rattle.desk_ledger.specs.declared.keeper.Held.{Held}
use Rattle.desk_ledger.specs.Digests.{digest}
use Rattle.desk_ledger.specs.Ledger.{Rows}
use Rattle.desk_words.specs.Roots.{RootsApart}
use Rattle.desk_file.specs.declared.images.Image.{Image}
use Rattle.desk_report.specs.declared.lines.Reason.{Reason}

-- the roots of source, target and ledger as they are written, the header, the image of each class name, the classes of the
-- source, and for each path its target, whether the file there is read whole, and the image of bytes at it, or why they have
-- none; whether the run verifies, and whether it finds at a target what the target's row says
pub record Run : Type 0 where
  pub from : Text
  pub to : Text
  pub ledger : Text
  pub header : Header
  pub name : Text → Text
  pub classes : List Scanned
  pub target : Text → Text
  pub whole : Text → Bool
  pub image : Text → Text → Result Image Reason
  pub verify : Bool
  pub finds : Text → Held → Bool

-- bytes, where there are any, have the digest that a row has for its output
abbrev pub has_output : Option Text → Option Digest → Bool
has_output (Some bytes) (Some output) = same_digest (digest bytes) output
has_output held output = false

-- a run that verifies finds at each target what these folders hold there; one that doesn't takes each target to be as its row says
abbrev pub FindsIn : Run → Contents → Type 0
FindsIn run m = (target : Text) (row : Held) → run.finds target row ≡ cond run.verify (has_output (fin.get m (full run.to target)) row.output) true

-- a row has a file's path and the digest of its bytes
abbrev pub is_candidate : Held → Text → Text → Bool
is_candidate row path digest = pointwise ◌==◌ row.source path && pointwise ◌==◌ row.digest.0 digest

-- the row at a file's target is such, and the target is found as the row says
abbrev pub is_kept : (Held → Bool) → Option Held → Text → Text → Bool
is_kept finds None path digest = false
is_kept finds (Some row) path digest = is_candidate row path digest && finds row

-- a file is kept where the ledger has such a row
abbrev pub is_kept_file : Run → Rows → File → Bool
is_kept_file run rows file = is_kept (run.finds (run.target file.path)) (fin.get rows (run.target file.path)) file.path (sha256 file.bytes)

-- a file that has an image and isn't kept
abbrev pub is_fresh : Run → Rows → File → Bool
is_fresh run rows file = not (is_kept_file run rows file) && is_ok (run.image file.path file.bytes)

-- a file that is neither kept nor accepted
abbrev pub is_refused : Run → Rows → File → Bool
is_refused run rows file = not (is_kept_file run rows file) && is_err (run.image file.path file.bytes)

-- what the row says of a file whose image was written: its path, the digest of its bytes, and that of its image's bytes
abbrev pub written_of : File → Image → Held
written_of file image = record { source = file.path; digest = digest file.bytes; output = Some (digest image.bytes) }

-- the row of an accepted file that is done: that of a kept file is as it was
abbrev pub row_of : Run → Rows → File → Image → Option Held
row_of run rows file image = cond (is_kept_file run rows file) (fin.get rows (run.target file.path)) (Some (written_of file image))

abbrev pub targets_of : Run → List File → List Text
targets_of run = map (λ file. run.target file.path)

-- each of these is a relative path
abbrev pub AllRelative : List Text → Type 0
AllRelative [] = Unit {0}
AllRelative (t ∷ ts) = (is_relative_path t ≡ true) × AllRelative ts

-- the targets of a run's files are paths that differ, and lie apart from the files themselves
pub record TargetsApart (run : Run) (m : Contents) : Type 0 where
  pub roots : RootsApart run.from run.to
  pub relative : AllRelative (targets_of run (files_below run.from m))
  pub distinct : AllApart (targets_of run (files_below run.from m))

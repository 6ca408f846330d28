-- A sound ledger stays sound, and is true behind a run that completes and verifies.
use Rattle.std.proofs.Common.{◌≡◌, ◌≢◌, ◌⊎◌, inl, inr, ℕ, List, [], ◌∷◌, ◌++◌, Option, Some, None, Bool, true, false, refl, sym, ap, ◌∙◌, subst, cond, map, length, take, drop, suc, Result, Ok, Err}
use Rattle.std.specs.Prelude.{IfSome, IsSome, Contains, unwrap_or}
use Rattle.std.proofs.lemmas.List.{map-append}
use Rattle.std.specs.FinMap as fin
use Rattle.desk_base.specs.Names.{Text}
use Rattle.desk_base.specs.Paths.{full, is_relative_path}
use Rattle.desk_base.specs.TextMaps.{get-insert-same, get-insert-other, get-remove-same, get-remove-other}
use Rattle.desk_readings.proofs.Fronts.{split_at}
use Rattle.desk_batches.specs.Works.{Plan, Keep, Leave, Write, fresh, forgot, cleared_plan, logged, logged_plan, ledger_after}
use Rattle.desk_file.specs.declared.images.Image.{Image}
use Rattle.desk_folders.proofs.Members.{path_below-of}
use Rattle.desk_folders.specs.Contents.{Contents, File, bytes_at, file_at, files_below, paths_below}
use Rattle.desk_ledger.specs.Digests.{digest}
use Rattle.desk_ledger.specs.declared.keeper.Held.{Held}
use Rattle.desk_ledger.specs.Ledger.{Ledger, Rows, with_header}
use Rattle.desk_report.specs.declared.lines.Reason.{Reason}
use Rattle.desk_run.specs.Runs.{Run, written_of}
use Rattle.desk_run.specs.Works.{work_of, works_of}
use Rattle.desk_run.specs.Truth.{IsOurs, SoundRows, SoundLedger, TrueLedger, IsVerified, IsSoundRow}
use Rattle.desk_run.specs.Stands.{Between, Stands}
use Rattle.desk_run.proofs.Remaining.{remains_of}
use Rattle.desk_run.proofs.Sparing.{TellSame, spared}
use Rattle.desk_run.proofs.Splits.{shorter_than}
use Rattle.desk_intake.proofs.There.{AllThere, files_there, there_at}
use Rattle.desk_run.proofs.Truths.{text_case}

-- ---- where a row comes from

-- the row of a file that was written
record IsWritten (run : Run) (files : List File) (target : Text) (row : Held) : Type 0 where
  before : List File
  file : File
  rest : List File
  image : Image
  split : files ≡ before ++ file ∷ rest
  at : target ≡ run.target file.path
  is : run.image file.path file.bytes ≡ Ok image
  row_is : row ≡ written_of file image

written_step : (run : Run) (file : File) (files : List File) (l : Ledger) (target : Text) (row : Held) (kept found : Bool) (o : Result Image Reason) → run.image file.path file.bytes ≡ o
    → fin.get (logged_plan (run.target file.path) file.path (digest file.bytes) (cond kept Keep (fresh found o)) l).rows target ≡ Some row → (fin.get l.rows target ≡ Some row) ⊎ IsWritten run (file ∷ files) target row
written_step run file files l target row true found o is e = inl e
written_step run file files l target row false found (Err reason) is e = inl e
written_step run file files l target row false found (Ok image) is e = by (text_case target (run.target file.path)) where
  by : (target ≡ run.target file.path) ⊎ (target ≢ run.target file.path) → (fin.get l.rows target ≡ Some row) ⊎ IsWritten run (file ∷ files) target row
  by (inl at) =
      let here : ◌≡◌ {A = Option Held} (Some (written_of file image)) (Some row) = sym (get-insert-same l.rows (run.target file.path) (written_of file image)) ∙ ap (fin.get (fin.insert l.rows (run.target file.path) (written_of file image))) (sym at) ∙ e in
      let same : written_of file image ≡ row = cc in
      inr (record { before = []; file = file; rest = files; image = image; split = refl; at = at; is = is; row_is = sym same })
  by (inr off) = inl (sym (get-insert-other l.rows (run.target file.path) (written_of file image) target off) ∙ e)

-- a row behind these works was there before, or is that of a file that was written
origin : (run : Run) (rows0 : Rows) (files : List File) (l : Ledger) (target : Text) (row : Held) → fin.get (ledger_after (works_of run rows0 files) l).rows target ≡ Some row → (fin.get l.rows target ≡ Some row) ⊎ IsWritten run files target row
origin run rows0 [] l target row e = inl e
origin run rows0 (file ∷ files) l target row e = by (origin run rows0 files (logged (work_of run rows0 file) l) target row e) where
  by : (fin.get (logged (work_of run rows0 file) l).rows target ≡ Some row) ⊎ IsWritten run files target row → (fin.get l.rows target ≡ Some row) ⊎ IsWritten run (file ∷ files) target row
  by (inl here) = written_step run file files l target row _ _ _ refl here
  by (inr w) = inr (record { before = file ∷ w.before; file = w.file; rest = w.rest; image = w.image; split = ap (λ x. file ∷ x) w.split; at = w.at; is = w.is; row_is = w.row_is })

-- a row that is left was there
forgot_row : (found : Bool) (target other : Text) (row : Held) (l : Ledger) → fin.get (forgot found target l).rows other ≡ Some row → fin.get l.rows other ≡ Some row
forgot_row false target other row l e = e
forgot_row true target other row l e = by (text_case other target) where
  by : (other ≡ target) ⊎ (other ≢ target) → fin.get l.rows other ≡ Some row
  by (inl at) = absurd (let none : ◌≡◌ {A = Option Held} None (Some row) = sym (get-remove-same l.rows target) ∙ ap (fin.get (fin.remove l.rows target)) (sym at) ∙ e in cc)
  by (inr off) = sym (get-remove-other l.rows target other off) ∙ e

cleared_row : (target other : Text) (plan : Plan) (row : Held) (l : Ledger) → fin.get (cleared_plan target plan l).rows other ≡ Some row → fin.get l.rows other ≡ Some row
cleared_row target other Keep row l e = e
cleared_row target other (Leave reason) row l e = e
cleared_row target other (Write found image) row l e = forgot_row found target other row l e

-- ---- a sound ledger stays sound

-- rows behind works, over folders that tell the same below the source
sound_after : (run : Run) (m0 : Contents) (l0 : Ledger) (m : Contents) (before rest : List File) (rows : Rows) → files_below run.from m0 ≡ before ++ rest → TellSame run.from m0 m → SoundRows run m0 l0.rows
    → ((target : Text) (row : Held) → fin.get rows target ≡ Some row → fin.get (ledger_after (works_of run l0.rows before) (with_header run.header l0)).rows target ≡ Some row) → SoundRows run m rows
sound_after run m0 l0 m before rest rows split same sound was target row bytes at rel there sha = by (origin run l0.rows before (with_header run.header l0) target row (was target row at)) where
  then : fin.get m0 (full run.from row.source) ≡ Some bytes
  then = sym (same row.source rel) ∙ there

  all : AllThere run.from m0 (before ++ rest)
  all = subst (AllThere run.from m0) split (files_there run.from m0)

  front : (a b : List File) → AllThere run.from m0 (a ++ b) → AllThere run.from m0 a
  front [] b h = tt
  front (x ∷ a) b h = (h.0, front a b h.1)

  by : (fin.get l0.rows target ≡ Some row) ⊎ IsWritten run before target row → IsSoundRow run target row bytes
  by (inl old) = sound target row bytes old rel then sha
  by (inr w) =
      let here = there_at run.from m0 w.before w.file w.rest (subst (AllThere run.from m0) w.split (front before rest all)) in
      let held : ◌≡◌ {A = Option Text} (Some w.file.bytes) (Some bytes) = sym here.held ∙ ap (λ (r : Held). fin.get m0 (full run.from r.source)) (sym w.row_is) ∙ then in
      let are : w.file.bytes ≡ bytes = cc in
      record {
        image = w.image;
        is = ap (λ (r : Held). run.image r.source bytes) w.row_is ∙ ap (run.image w.file.path) (sym are) ∙ w.is;
        goes = ap (λ (r : Held). run.target r.source) w.row_is ∙ sym w.at;
        output = subst (λ (r : Held). IfSome r.output (λ output. output ≡ digest w.image.bytes)) (sym w.row_is) refl;
      }

-- Wherever a run stands, the ledger is sound if it was.
pub sound_of : (run : Run) (m0 : Contents) (l0 : Ledger) (m : Contents) (l : Ledger) (done : ℕ) → Stands run m0 l0 m l done → SoundLedger run m0 l0 → SoundLedger run m l
sound_of run m0 l0 m l done (inl u) sound ours =
    subst (λ x. SoundRows run x l.rows) (sym u.folder) (subst (λ (x : Ledger). SoundRows run m0 x.rows) (sym u.ledger) (sound (subst (λ (x : Ledger). IsOurs run.header x.header) u.ledger ours)))
sound_of run m0 l0 m l done (inr (inl s)) sound ours =
    sound_after run m0 l0 m s.before s.rest l.rows s.split (spared run m0 l0 m l done run.from s.apart s.apart.roots (inr (inl s))) (sound s.ours)
    (λ target row at. ap (λ (x : Ledger). fin.get x.rows target) (sym s.ledger) ∙ at)
sound_of run m0 l0 m l done (inr (inr s)) sound ours =
    sound_after run m0 l0 m s.before (s.file ∷ s.rest) l.rows s.split (spared run m0 l0 m l done run.from s.apart s.apart.roots (inr (inr s))) (sound s.ours)
    (λ target row at. cleared_row (run.target s.file.path) target (work_of run l0.rows s.file).plan row (ledger_after (works_of run l0.rows s.before) (with_header run.header l0)) (ap (λ (x : Ledger). fin.get x.rows target) (sym s.ledger) ∙ at))

-- ---- a file that is there is among those below its root

record IsAmong (root : Text) (m : Contents) (file : File) : Type 0 where
  before : List File
  rest : List File
  split : files_below root m ≡ before ++ file ∷ rest

file_among : (root : Text) (m : Contents) (path bytes : Text) → is_relative_path path ≡ true → fin.get m (full root path) ≡ Some bytes → IsAmong root m (record { path = path; bytes = bytes })
file_among root m path bytes rel there =
    let in_paths : Contains (paths_below root m) path = path_below-of root path m rel (subst IsSome (sym there) refl) in
    let paths = split_at (paths_below root m) in_paths.0 path in_paths.1 (sym in_paths.2) in
    let a = take in_paths.0 (paths_below root m) in
    let b = drop (suc in_paths.0) (paths_below root m) in
    let bytes_are : bytes_at m (full root path) ≡ bytes = ap (λ (o : Option Text). unwrap_or o []) there in
    record {
      before = map (file_at root m) a;
      rest = map (file_at root m) b;
      split = ap (map (file_at root m)) paths ∙ map-append (file_at root m) a (path ∷ b)
          ∙ ap (λ (t : Text). map (file_at root m) a ++ record { path = path; bytes = t } ∷ map (file_at root m) b) bytes_are;
    }

-- behind a run whose files are all done, and that verifies, the ledger is true
pub true_behind : (run : Run) (m0 : Contents) (l0 : Ledger) (m : Contents) (l : Ledger) → Between run m0 l0 m l (length (files_below run.from m0)) → IsVerified run m0 l0 → TrueLedger run m l
true_behind run m0 l0 m l b v ours target row bytes at rel there sha =
    let sound = sound_of run m0 l0 m l _ (inr (inl b)) v.sound ours target row bytes at rel there sha in
    let then : fin.get m0 (full run.from row.source) ≡ Some bytes = sym (spared run m0 l0 m l _ run.from b.apart b.apart.roots (inr (inl b)) row.source rel) ∙ there in
    let among = file_among run.from m0 row.source bytes rel then in
    let files = remains_of run m0 l0 m l _ (inr (inl b)) in
    let held = files.images among.before among.rest (record { path = row.source; bytes = bytes }) sound.image among.split (shorter_than (files_below run.from m0) among.before among.rest _ among.split) sound.is (inl (inr v)) in
    record { sound = sound; held = ap (λ t. fin.get m (full run.to t)) (sym sound.goes) ∙ held }

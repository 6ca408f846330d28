-- What remains of a run that stands at some file.
use Rattle.std.proofs.Common.{◌≡◌, ◌≢◌, ◌⊎◌, inl, inr, ℕ, ◌<◌, ◌≤◌, List, [], ◌∷◌, ◌++◌, Option, Some, None, refl, sym, ap, ◌∙◌, subst, true, false, Bool, cond, arith, append_assoc, is_some, map, length, length-append, Result, Ok, Err}
use Rattle.std.specs.Prelude.{not, ◌&&◌, ◌==◌, is_ok, IfSome}
use Rattle.sha2.specs.Sha256.{sha256}
use Rattle.std.specs.FinMap as fin
use Rattle.std.specs.Cmp.Lexicographic.{pointwise}
use Rattle.std.proofs.lemmas.List.{map-append}
use Rattle.std.proofs.lemmas.Slice.Eq.{bytes_eq-Decides}
use Rattle.std.proofs.lemmas.Bool.{and_parts}
use Rattle.desk_base.specs.Names.{Text}
use Rattle.desk_base.specs.Paths.{full, is_relative_path}
use Rattle.desk_folders.specs.Contents.{Contents, File, setting, files_below}
use Rattle.desk_ledger.specs.declared.digest.Digest.{Digest}
use Rattle.desk_ledger.specs.declared.keeper.Held.{Held}
use Rattle.desk_ledger.specs.Digests.{digest}
use Rattle.desk_ledger.specs.Ledger.{Ledger, Rows, with_header}
use Rattle.desk_base.specs.TextMaps.{get-insert-same, get-remove-same}
use Rattle.desk_folders.specs.ContentsLaws.{get-setting-other}
use Rattle.desk_file.specs.declared.images.Image.{Image}
use Rattle.desk_report.specs.declared.lines.Reason.{Reason}
use Rattle.desk_run.specs.Runs.{Run, FindsIn, TargetsApart, AllRelative, written_of, row_of, has_output, is_candidate, is_kept, is_kept_file, is_fresh, targets_of}
use Rattle.desk_intake.specs.Apart.{Misses, AllApart}
use Rattle.desk_batches.specs.Works.{Keep, Work, fresh, wrote_plan, logged_plan, cleared_plan, writes, files_after, ledger_after}
use Rattle.desk_run.specs.Works.{work_of, works_of}
use Rattle.desk_batches.proofs.Steps.{files_after-join, ledger_after-join}
use Rattle.desk_run.specs.Truth.{TrueRows, SoundRows, TargetsTell, TrueLedger, IsTrusted, IsOurs}
use Rattle.desk_run.specs.Stands.{Unchanged, Between, Within, Stands, Remains}
use Rattle.desk_run.proofs.Splits.{covered, same_route, apart_before, apart_behind, misses_front, misses_back, relative_at, relative_front}
use Rattle.desk_run.proofs.After.{Off, Spares, full_apart, files_spare, rows_spare, off_from_misses, spares_from_misses, header_after, header_cleared, cleared_spares}
use Rattle.desk_intake.proofs.There.{AllThere, IsThere, there_at, files_there}
use Rattle.desk_run.proofs.Truths.{true_after, true_broken}

-- the row by which a file is kept
pub record IsKeptBy (finds : Held → Bool) (o : Option Held) (path digest : Text) : Type 0 where
  pub row : Held
  pub is : o ≡ Some row
  pub source : row.source ≡ path
  pub digest_is : row.digest.0 ≡ digest
  pub found : finds row ≡ true

pub kept_row : (finds : Held → Bool) (o : Option Held) (path digest : Text) → is_kept finds o path digest ≡ true → IsKeptBy finds o path digest
kept_row finds None path digest e = cc
kept_row finds (Some row) path digest e =
    let found = and_parts (is_candidate row path digest) (finds row) e in
    let both = and_parts (pointwise ◌==◌ row.source path) (pointwise ◌==◌ row.digest.0 digest) found.0 in
    record { row = row; is = refl; source = (bytes_eq-Decides row.source path).0 both.0; digest_is = (bytes_eq-Decides row.digest.0 digest).0 both.1; found = found.1 }

-- a file's work writes where it is fresh
fresh_works : (kept found : Bool) (o : Result Image Reason) → writes (cond kept Keep (fresh found o)) ≡ not kept && is_ok o
fresh_works true found o = refl
fresh_works false found (Ok image) = refl
fresh_works false found (Err reason) = refl

targets_of_works : (run : Run) (rows : Rows) (files : List File) → map (λ (w : Work). w.target) (works_of run rows files) ≡ targets_of run files
targets_of_works run rows [] = refl
targets_of_works run rows (file ∷ files) = ap (λ ts. run.target file.path ∷ ts) (targets_of_works run rows files)

-- the works of files that no target of which is this one
off_works : (run : Run) (rows : Rows) (target : List ℕ) (files : List File) → Misses target (targets_of run files) → Off run.to (full run.to target) (works_of run rows files)
off_works run rows target files h = off_from_misses run.to target (works_of run rows files) (subst (Misses target) (sym (targets_of_works run rows files)) h)

spare_works : (run : Run) (rows : Rows) (target : List ℕ) (files : List File) → Misses target (targets_of run files) → Spares target (works_of run rows files)
spare_works run rows target files h = spares_from_misses target (works_of run rows files) (subst (Misses target) (sym (targets_of_works run rows files)) h)

-- what holds of the targets round one file
record Round (run : Run) (a : List File) (file : File) (b : List File) : Type 0 where
  before : Misses (run.target file.path) (targets_of run a)
  behind : Misses (run.target file.path) (targets_of run b)

round : (run : Run) (files a : List File) (file : File) (b : List File) → AllApart (targets_of run files) → files ≡ a ++ file ∷ b → Round run a file b
round run files a file b h e =
    let split : targets_of run files ≡ targets_of run a ++ run.target file.path ∷ targets_of run b = ap (targets_of run) e ∙ map-append (λ (f : File). run.target f.path) a (file ∷ b) in
    let all = subst AllApart split h in
    record {
      before = apart_before (targets_of run a) (run.target file.path) (targets_of run b) all;
      behind = apart_behind (targets_of run a) (run.target file.path) (targets_of run b) all;
    }

-- what these files leave at the target of one of them
folder_at : (run : Run) (rows : Rows) (m : Contents) (a : List File) (file : File) (b : List File) → Round run a file b
    → fin.get (files_after run.to (works_of run rows (a ++ file ∷ b)) m) (full run.to (run.target file.path))
    ≡ fin.get (wrote_plan (full run.to (run.target file.path)) (work_of run rows file).plan (files_after run.to (works_of run rows a) m)) (full run.to (run.target file.path))
folder_at run rows m a file b r =
    ap (λ ws. fin.get (files_after run.to ws m) (full run.to (run.target file.path))) (map-append (work_of run rows) a (file ∷ b))
    ∙ ap (λ n. fin.get n (full run.to (run.target file.path))) (files_after-join run.to (works_of run rows a) (works_of run rows (file ∷ b)) m)
    ∙ files_spare run.to (full run.to (run.target file.path)) (works_of run rows b) _ (off_works run rows (run.target file.path) b r.behind)

folder_before : (run : Run) (rows : Rows) (m : Contents) (target : List ℕ) (a : List File) → Misses target (targets_of run a)
    → fin.get (files_after run.to (works_of run rows a) m) (full run.to target) ≡ fin.get m (full run.to target)
folder_before run rows m target a h = files_spare run.to (full run.to target) (works_of run rows a) m (off_works run rows target a h)

rows_at : (run : Run) (rows : Rows) (l : Ledger) (a : List File) (file : File) (b : List File) → Round run a file b
    → fin.get (ledger_after (works_of run rows (a ++ file ∷ b)) l).rows (run.target file.path)
    ≡ fin.get (logged_plan (run.target file.path) file.path (digest file.bytes) (work_of run rows file).plan (ledger_after (works_of run rows a) l)).rows (run.target file.path)
rows_at run rows l a file b r =
    ap (λ ws. fin.get (ledger_after ws l).rows (run.target file.path)) (map-append (work_of run rows) a (file ∷ b))
    ∙ ap (λ (n : Ledger). fin.get n.rows (run.target file.path)) (ledger_after-join (works_of run rows a) (works_of run rows (file ∷ b)) l)
    ∙ rows_spare (run.target file.path) (works_of run rows b) _ (spare_works run rows (run.target file.path) b r.behind)

rows_before : (run : Run) (rows : Rows) (l : Ledger) (target : List ℕ) (a : List File) → Misses target (targets_of run a)
    → fin.get (ledger_after (works_of run rows a) l).rows target ≡ fin.get l.rows target
rows_before run rows l target a h = rows_spare target (works_of run rows a) l (spare_works run rows target a h)

-- the target of an accepted file that is done
written_or_kept : (run : Run) (m : Contents) (rows : Rows) (file : File) (image : Image) (kept found : Bool) (o : Result Image Reason) → o ≡ Ok image → (kept ≡ true → fin.get m (full run.to (run.target file.path)) ≡ Some image.bytes)
    → fin.get (wrote_plan (full run.to (run.target file.path)) (cond kept Keep (fresh found o)) m) (full run.to (run.target file.path)) ≡ Some image.bytes
written_or_kept run m rows file image true found o e h = h refl
written_or_kept run m rows file image false found (Ok x) e h =
    let same : x ≡ image = cc in get-insert-same m (full run.to (run.target file.path)) x.bytes ∙ ap (λ (y : Image). Some y.bytes) same
written_or_kept run m rows file image false found (Err reason) e h = cc

logged_or_kept : (run : Run) (l : Ledger) (file : File) (image : Image) (row : Option Held) (kept found : Bool) (o : Result Image Reason) → o ≡ Ok image → fin.get l.rows (run.target file.path) ≡ row
    → fin.get (logged_plan (run.target file.path) file.path (digest file.bytes) (cond kept Keep (fresh found o)) l).rows (run.target file.path) ≡ cond kept row (Some (written_of file image))
logged_or_kept run l file image row true found o e h = h
logged_or_kept run l file image row false found (Ok x) e h =
    let same : x ≡ image = cc in get-insert-same l.rows (run.target file.path) (written_of file x) ∙ ap (λ (y : Image). Some (written_of file y)) same
logged_or_kept run l file image row false found (Err reason) e h = cc

-- a kept file's target holds its image, where the rows are true
kept_image : (run : Run) (m : Contents) (rows : Rows) (file : File) (image : Image) → TrueRows run m rows → IsThere run.from m file
    → run.image file.path file.bytes ≡ Ok image → is_kept_file run rows file ≡ true → fin.get m (full run.to (run.target file.path)) ≡ Some image.bytes
kept_image run m rows file image truth there is kept =
    let by = kept_row (run.finds (run.target file.path)) _ _ _ kept in
    let has = truth (run.target file.path) by.row file.bytes by.is (ap is_relative_path by.source ∙ there.relative) (ap (λ p. fin.get m (full run.from p)) by.source ∙ there.held) (sym by.digest_is) in
    let same : ◌≡◌ {A = Result Image Reason} (Ok has.sound.image) (Ok image) = sym has.sound.is ∙ ap (λ p. run.image p file.bytes) by.source ∙ is in
    let at : has.sound.image ≡ image = cc in
    has.held ∙ ap (λ (y : Image). Some y.bytes) at

-- bytes that have the digest of a row's output
record HasBytes (held : Option Text) (output : Option Digest) : Type 0 where
  bytes : Text
  there : held ≡ Some bytes
  of_row : output ≡ Some (digest bytes)

output_bytes : (held : Option Text) (output : Option Digest) → has_output held output ≡ true → HasBytes held output
output_bytes None output e = cc
output_bytes (Some bytes) None e = cc
output_bytes (Some bytes) (Some output) e =
    let same = (bytes_eq-Decides (sha256 bytes) output.0).0 e in
    record { bytes = bytes; there = refl; of_row = ap (λ (t : Text). Some (record { 0 = t })) (sym same) }

same_hash : (image : Text) (output : Option Digest) (bytes : Text) → output ≡ Some (digest bytes) → IfSome output (λ d. d ≡ digest image) → sha256 bytes ≡ sha256 image
same_hash image output bytes e h = ap (λ (d : Digest). d.0) (subst (λ o. IfSome o (λ d. d ≡ digest image)) e h)

-- what is to be known of rows and folders, for kept files to hold their images
record Verified (run : Run) (m : Contents) (rows : Rows) : Type 0 where
  verify : run.verify ≡ true
  sound : SoundRows run m rows
  targets : TargetsTell run m rows

-- a kept file's target holds its image, where the run verifies over sound rows
verified_image : (run : Run) (m : Contents) (rows : Rows) (a b : List File) (file : File) (image : Image) → FindsIn run m → Verified run m rows → files_below run.from m ≡ a ++ file ∷ b → IsThere run.from m file
    → run.image file.path file.bytes ≡ Ok image → is_kept_file run rows file ≡ true → fin.get m (full run.to (run.target file.path)) ≡ Some image.bytes
verified_image run m rows a b file image finds v split there is kept =
    let goes = run.target file.path in
    let by = kept_row (run.finds goes) _ _ _ kept in
    let found : has_output (fin.get m (full run.to goes)) by.row.output ≡ true = ap (λ x. cond x (has_output (fin.get m (full run.to goes)) by.row.output) true) (sym v.verify) ∙ sym (finds goes by.row) ∙ by.found in
    let held = output_bytes _ _ found in
    let sound = v.sound goes by.row file.bytes by.is (ap is_relative_path by.source ∙ there.relative) (ap (λ p. fin.get m (full run.from p)) by.source ∙ there.held) (sym by.digest_is) in
    let same : ◌≡◌ {A = Result Image Reason} (Ok sound.image) (Ok image) = sym sound.is ∙ ap (λ p. run.image p file.bytes) by.source ∙ is in
    let at : sound.image ≡ image = cc in
    let hash : sha256 held.bytes ≡ sha256 image.bytes = same_hash sound.image.bytes by.row.output held.bytes held.of_row sound.output ∙ ap (λ (y : Image). sha256 y.bytes) at in
    held.there ∙ ap Some (v.targets a b file image held.bytes split kept is held.there hash)

-- what is known of a file that may be kept
abbrev Trust : Run → Contents → Rows → File → Type 0
Trust run m rows file = (TrueRows run m rows ⊎ Verified run m rows) ⊎ (is_kept_file run rows file ≡ false)

kept_or_not : (run : Run) (m : Contents) (rows : Rows) (a b : List File) (file : File) (image : Image) → FindsIn run m → Trust run m rows file → files_below run.from m ≡ a ++ file ∷ b → IsThere run.from m file
    → run.image file.path file.bytes ≡ Ok image → is_kept_file run rows file ≡ true → fin.get m (full run.to (run.target file.path)) ≡ Some image.bytes
kept_or_not run m rows a b file image finds (inl (inl truth)) split there is kept = kept_image run m rows file image truth there is kept
kept_or_not run m rows a b file image finds (inl (inr v)) split there is kept = verified_image run m rows a b file image finds v split there is kept
kept_or_not run m rows a b file image finds (inr fresh) split there is kept = cc

true_here : (run : Run) (m : Contents) (l : Ledger) (file : File) → IsOurs run.header l.header → IsTrusted run m l ⊎ (is_kept_file run l.rows file ≡ false) → Trust run m l.rows file
true_here run m l file ours (inl (inl truth)) = inl (inl (truth ours))
true_here run m l file ours (inl (inr v)) = inl (inr (record { verify = v.verify; sound = v.sound ours; targets = v.targets }))
true_here run m l file ours (inr fresh) = inr fresh

-- images and rows of the files before
front_image : (run : Run) (m0 : Contents) (l0 : Ledger) (before rest a b : List File) (file : File) (image : Image) → TargetsApart run m0 → FindsIn run m0 → Trust run m0 l0.rows file
    → files_below run.from m0 ≡ before ++ rest → files_below run.from m0 ≡ a ++ file ∷ b → length a < length before → run.image file.path file.bytes ≡ Ok image
    → fin.get (files_after run.to (works_of run l0.rows before) m0) (full run.to (run.target file.path)) ≡ Some image.bytes
front_image run m0 l0 before rest a b file image given finds truth split e lt is =
    let c = covered before rest a file b (sym split ∙ e) lt in
    let r = round run (files_below run.from m0) a file b given.distinct e in
    let r' : Round run a file c.between = record {
      before = r.before;
      behind = misses_front (run.target file.path) (targets_of run c.between) (targets_of run rest)
          (subst (Misses (run.target file.path)) (map-append (λ (f : File). run.target f.path) c.between rest) (subst (λ x. Misses (run.target file.path) (targets_of run x)) c.back r.behind));
    } in
    let there = there_at run.from m0 a file b (subst (AllThere run.from m0) e (files_there run.from m0)) in
    ap (λ fs. fin.get (files_after run.to (works_of run l0.rows fs) m0) (full run.to (run.target file.path))) c.front
    ∙ folder_at run l0.rows m0 a file c.between r'
    ∙ written_or_kept run (files_after run.to (works_of run l0.rows a) m0) l0.rows file image _ _ _ is
    (λ kept. folder_before run l0.rows m0 (run.target file.path) a r.before ∙ kept_or_not run m0 l0.rows a b file image finds truth e there is kept)

front_row : (run : Run) (m0 : Contents) (l0 : Ledger) (before rest a b : List File) (file : File) (image : Image) → TargetsApart run m0
    → files_below run.from m0 ≡ before ++ rest → files_below run.from m0 ≡ a ++ file ∷ b → length a < length before → run.image file.path file.bytes ≡ Ok image
    → fin.get (ledger_after (works_of run l0.rows before) (with_header run.header l0)).rows (run.target file.path) ≡ row_of run l0.rows file image
front_row run m0 l0 before rest a b file image given split e lt is =
    let c = covered before rest a file b (sym split ∙ e) lt in
    let r = round run (files_below run.from m0) a file b given.distinct e in
    let r' : Round run a file c.between = record {
      before = r.before;
      behind = misses_front (run.target file.path) (targets_of run c.between) (targets_of run rest)
          (subst (Misses (run.target file.path)) (map-append (λ (f : File). run.target f.path) c.between rest) (subst (λ x. Misses (run.target file.path) (targets_of run x)) c.back r.behind));
    } in
    ap (λ fs. fin.get (ledger_after (works_of run l0.rows fs) (with_header run.header l0)).rows (run.target file.path)) c.front
    ∙ rows_at run l0.rows (with_header run.header l0) a file c.between r'
    ∙ logged_or_kept run (ledger_after (works_of run l0.rows a) (with_header run.header l0)) file image (fin.get l0.rows (run.target file.path)) _ _ _ is
    (rows_before run l0.rows (with_header run.header l0) (run.target file.path) a r.before)

-- a path that no fresh file among these has
off_all : (run : Run) (rows : Rows) (path : List ℕ) (files : List File) → ((a b : List File) (file : File) → files ≡ a ++ file ∷ b → is_fresh run rows file ≡ true → full run.to (run.target file.path) ≢ path)
    → Off run.to path (works_of run rows files)
off_all run rows path [] h = tt
off_all run rows path (file ∷ files) h =
    ((λ w. h [] files file refl (sym (fresh_works _ _ _) ∙ w)), off_all run rows path files (λ a b f e. h (file ∷ a) b f (ap (λ x. file ∷ x) e)))

spare_all : (run : Run) (rows : Rows) (target : List ℕ) (files : List File) → ((a b : List File) (file : File) → files ≡ a ++ file ∷ b → is_fresh run rows file ≡ true → run.target file.path ≢ target)
    → Spares target (works_of run rows files)
spare_all run rows target [] h = tt
spare_all run rows target (file ∷ files) h =
    ((λ w. h [] files file refl (sym (fresh_works _ _ _) ∙ w)), spare_all run rows target files (λ a b f e. h (file ∷ a) b f (ap (λ x. file ∷ x) e)))

-- a file before a split stands before it in the whole
shorter : (before a b : List File) (file : File) → before ≡ a ++ file ∷ b → length a ≤ length before
shorter before a b file e = let h = ap length e in let k = length-append a (file ∷ b) in omega arith

longer : (all before rest a b : List File) (file : File) → all ≡ before ++ rest → before ≡ a ++ file ∷ b → all ≡ a ++ file ∷ (b ++ rest)
longer all before rest a b file e f = e ∙ ap (λ x. x ++ rest) f ∙ append_assoc a (file ∷ b) rest

remains_unchanged : (run : Run) (m0 : Contents) (l0 : Ledger) (m : Contents) (l : Ledger) (done : ℕ) → Unchanged m0 l0 m l done → Remains run m0 l0 m l done
remains_unchanged run m0 l0 m l done u = record {
  images = λ a b file image e lt is truth. absurd (let none = u.none in omega arith);
  rows = λ a b file image e lt is. absurd (let none = u.none in omega arith);
  next = λ a b file e here. inr (ap (λ (x : Ledger). fin.get x.rows (run.target file.path)) u.ledger, ap (λ x. fin.get x (full run.to (run.target file.path))) u.folder);
  paths = λ path h. ap (λ x. fin.get x path) u.folder;
  others = λ target h. ap (λ (x : Ledger). fin.get x.rows target) u.ledger;
  header = inl (ap (λ (x : Ledger). x.header) u.ledger);
}

-- the next file's target isn't among those before
next_misses : (run : Run) (m0 : Contents) (a b : List File) (file : File) → TargetsApart run m0 → files_below run.from m0 ≡ a ++ file ∷ b → Misses (run.target file.path) (targets_of run a)
next_misses run m0 a b file given e = (round run (files_below run.from m0) a file b given.distinct e).before

same_front : {X : Type 0} (before rest a b : List X) (x : X) → before ++ rest ≡ a ++ x ∷ b → length a ≡ length before → before ≡ a
same_front [] rest [] b x e h = refl
same_front [] rest (z ∷ a) b x e h = absurd (omega arith)
same_front (w ∷ before) rest [] b x e h = absurd (omega arith)
same_front (w ∷ before) rest (z ∷ a) b x e h = let t = same_front before rest a b x (cc) (omega arith) in let s : w ≡ z = cc in ap (λ v. v ∷ before) s ∙ ap (λ v. z ∷ v) t

remains_between : (run : Run) (m0 : Contents) (l0 : Ledger) (m : Contents) (l : Ledger) (done : ℕ) → TargetsApart run m0 → Between run m0 l0 m l done → Remains run m0 l0 m l done
remains_between run m0 l0 m l done given s = record {
  images = λ a b file image e lt is truth.
      let lt' : length a < length s.before = let n = s.count in omega arith in
      ap (λ x. fin.get x (full run.to (run.target file.path))) s.folder ∙ front_image run m0 l0 s.before s.rest a b file image given s.finds (true_here run m0 l0 file s.ours truth) s.split e lt' is;
  rows = λ a b file image e lt is.
      let lt' : length a < length s.before = let n = s.count in omega arith in
      ap (λ (x : Ledger). fin.get x.rows (run.target file.path)) s.ledger ∙ front_row run m0 l0 s.before s.rest a b file image given s.split e lt' is;
  next = λ a b file e here.
      let same = same_front s.before s.rest a b file (sym s.split ∙ e) (here ∙ sym s.count) in
      let misses = subst (λ x. Misses (run.target file.path) (targets_of run x)) (sym same) (next_misses run m0 a b file given e) in
      inr (
        ap (λ (x : Ledger). fin.get x.rows (run.target file.path)) s.ledger ∙ rows_before run l0.rows (with_header run.header l0) (run.target file.path) s.before misses,
        ap (λ x. fin.get x (full run.to (run.target file.path))) s.folder ∙ folder_before run l0.rows m0 (run.target file.path) s.before misses,
      );
  paths = λ path h. ap (λ x. fin.get x path) s.folder ∙ files_spare run.to path (works_of run l0.rows s.before) m0
      (off_all run l0.rows path s.before (λ a b file e. h a (b ++ s.rest) file (longer (files_below run.from m0) s.before s.rest a b file s.split e) (let n = shorter s.before a b file e in let k = s.count in omega arith)));
  others = λ target h. ap (λ (x : Ledger). fin.get x.rows target) s.ledger ∙ rows_spare target (works_of run l0.rows s.before) (with_header run.header l0)
      (spare_all run l0.rows target s.before (λ a b file e. h a (b ++ s.rest) file (longer (files_below run.from m0) s.before s.rest a b file s.split e) (let n = shorter s.before a b file e in let k = s.count in omega arith)));
  header = inr (ap (λ (x : Ledger). x.header) s.ledger ∙ header_after (works_of run l0.rows s.before) (with_header run.header l0));
}

-- once the row of a fresh file is forgotten, there is none
gone_plan : (target : Text) (row : Option Held) (kept : Bool) (o : Result Image Reason) (l : Ledger) → writes (cond kept Keep (fresh (is_some row) o)) ≡ true → fin.get l.rows target ≡ row
    → fin.get (cleared_plan target (cond kept Keep (fresh (is_some row) o)) l).rows target ≡ None
gone_plan target row true o l w e = cc
gone_plan target row false (Err reason) l w e = cc
gone_plan target None false (Ok image) l w e = e
gone_plan target (Some held) false (Ok image) l w e = get-remove-same l.rows target

row_gone : (run : Run) (m0 : Contents) (l0 : Ledger) (m : Contents) (l : Ledger) (done : ℕ) → TargetsApart run m0 → (s : Within run m0 l0 m l done) → fin.get l.rows (run.target s.file.path) ≡ None
row_gone run m0 l0 m l done given s =
    let misses = next_misses run m0 s.before s.rest s.file given s.split in
    ap (λ (x : Ledger). fin.get x.rows (run.target s.file.path)) s.ledger
    ∙ gone_plan (run.target s.file.path) _ _ _ _ s.fresh (rows_before run l0.rows (with_header run.header l0) (run.target s.file.path) s.before misses)

-- what the file within has at any other path
folder_within : (run : Run) (m0 : Contents) (l0 : Ledger) (m : Contents) (l : Ledger) (done : ℕ) → (s : Within run m0 l0 m l done) (path : List ℕ) → full run.to (run.target s.file.path) ≢ path
    → fin.get m path ≡ fin.get (files_after run.to (works_of run l0.rows s.before) m0) path
folder_within run m0 l0 m l done s path apart =
    let before = files_after run.to (works_of run l0.rows s.before) m0 in
    let some : ◌≡◌ {A = Option Contents} (Some m) (Some (setting (full run.to (run.target s.file.path)) s.folder.left before)) = s.folder.is in
    let is : m ≡ setting (full run.to (run.target s.file.path)) s.folder.left before = cc in
    ap (λ x. fin.get x path) is ∙ get-setting-other (full run.to (run.target s.file.path)) s.folder.left before path (λ e. apart (sym e))

-- a file's target isn't that of one before it
other_target : (run : Run) (m0 : Contents) (before rest : List File) (next : File) (a b : List File) (file : File) → TargetsApart run m0 → files_below run.from m0 ≡ before ++ next ∷ rest
    → files_below run.from m0 ≡ a ++ file ∷ b → length a < length before → run.target next.path ≢ run.target file.path
other_target run m0 before rest next a b file given split e lt =
    let c = covered before (next ∷ rest) a file b (sym split ∙ e) lt in
    let misses = next_misses run m0 before rest next given split in
    (misses_back (run.target next.path) (targets_of run a) (targets_of run (file ∷ c.between))
    (subst (Misses (run.target next.path)) (ap (targets_of run) c.front ∙ map-append (λ (f : File). run.target f.path) a (file ∷ c.between)) misses)).0

remains_within : (run : Run) (m0 : Contents) (l0 : Ledger) (m : Contents) (l : Ledger) (done : ℕ) → TargetsApart run m0 → Within run m0 l0 m l done → Remains run m0 l0 m l done
remains_within run m0 l0 m l done given s =
    let off : (a b : List File) (file : File) → files_below run.from m0 ≡ a ++ file ∷ b → length a < length s.before → run.target s.file.path ≢ run.target file.path
    = λ a b file e lt. other_target run m0 s.before s.rest s.file a b file given s.split e lt in
    record {
      images = λ a b file image e lt is truth.
          let lt' : length a < length s.before = let n = s.count in omega arith in
          folder_within run m0 l0 m l done s (full run.to (run.target file.path)) (full_apart run.to _ _ (off a b file e lt'))
          ∙ front_image run m0 l0 s.before (s.file ∷ s.rest) a b file image given s.finds (true_here run m0 l0 file s.ours truth) s.split e lt' is;
      rows = λ a b file image e lt is.
          let lt' : length a < length s.before = let n = s.count in omega arith in
          ap (λ (x : Ledger). fin.get x.rows (run.target file.path)) s.ledger
          ∙ cleared_spares (run.target s.file.path) (run.target file.path) _ _ (off a b file e lt')
          ∙ front_row run m0 l0 s.before (s.file ∷ s.rest) a b file image given s.split e lt' is;
      next = λ a b file e here.
          let same = same_route s.before s.rest a s.file file b (sym s.split ∙ e) (here ∙ sym s.count) in
          inl (subst (λ (f : File). fin.get l.rows (run.target f.path) ≡ None) same.1 (row_gone run m0 l0 m l done given s));
      paths = λ path h.
          folder_within run m0 l0 m l done s path (h s.before s.rest s.file s.split (let n = s.count in omega arith) (sym (fresh_works _ _ _) ∙ s.fresh))
          ∙ files_spare run.to path (works_of run l0.rows s.before) m0
          (off_all run l0.rows path s.before (λ a b file e. h a (b ++ s.file ∷ s.rest) file (longer (files_below run.from m0) s.before (s.file ∷ s.rest) a b file s.split e) (let n = shorter s.before a b file e in let k = s.count in omega arith)));
      others = λ target h.
          ap (λ (x : Ledger). fin.get x.rows target) s.ledger
          ∙ cleared_spares (run.target s.file.path) target _ _ (h s.before s.rest s.file s.split (let n = s.count in omega arith) (sym (fresh_works _ _ _) ∙ s.fresh))
          ∙ rows_spare target (works_of run l0.rows s.before) (with_header run.header l0)
          (spare_all run l0.rows target s.before (λ a b file e. h a (b ++ s.file ∷ s.rest) file (longer (files_below run.from m0) s.before (s.file ∷ s.rest) a b file s.split e) (let n = shorter s.before a b file e in let k = s.count in omega arith)));
      header = inr (ap (λ (x : Ledger). x.header) s.ledger ∙ header_cleared (run.target s.file.path) _ _ ∙ header_after (works_of run l0.rows s.before) (with_header run.header l0));
    }

-- Wherever a run stands, this remains.
pub remains_of : (run : Run) (m0 : Contents) (l0 : Ledger) (m : Contents) (l : Ledger) (done : ℕ) → Stands run m0 l0 m l done → Remains run m0 l0 m l done
remains_of run m0 l0 m l done (inl u) = remains_unchanged run m0 l0 m l done u
remains_of run m0 l0 m l done (inr (inl s)) = remains_between run m0 l0 m l done s.apart s
remains_of run m0 l0 m l done (inr (inr s)) = remains_within run m0 l0 m l done s.apart s

there_front : (from : List ℕ) (m : Contents) (a b : List File) → AllThere from m (a ++ b) → AllThere from m a
there_front from m [] b h = tt
there_front from m (x ∷ a) b h = (h.0, there_front from m a b h.1)

truth_front : (run : Run) (m0 : Contents) (l0 : Ledger) (before rest : List File) → TargetsApart run m0 → files_below run.from m0 ≡ before ++ rest → IsOurs run.header l0.header → TrueLedger run m0 l0
    → TrueRows run (files_after run.to (works_of run l0.rows before) m0) (ledger_after (works_of run l0.rows before) (with_header run.header l0)).rows
truth_front run m0 l0 before rest apart split ours truth =
    true_after run l0.rows before m0 (with_header run.header l0) apart.roots
    (relative_front (targets_of run before) (targets_of run rest) (subst AllRelative (ap (targets_of run) split ∙ map-append (λ (f : File). run.target f.path) before rest) apart.relative))
    (there_front run.from m0 before rest (subst (AllThere run.from m0) split (files_there run.from m0))) (truth ours)

-- Wherever a run stands, the ledger is true if it was.
pub truth_of : (run : Run) (m0 : Contents) (l0 : Ledger) (m : Contents) (l : Ledger) (done : ℕ) → Stands run m0 l0 m l done → TrueLedger run m0 l0 → TrueLedger run m l
truth_of run m0 l0 m l done (inl u) truth ours =
    subst (λ x. TrueRows run x l.rows) (sym u.folder) (subst (λ (x : Ledger). TrueRows run m0 x.rows) (sym u.ledger) (truth (subst (λ (x : Ledger). IsOurs run.header x.header) u.ledger ours)))
truth_of run m0 l0 m l done (inr (inl s)) truth ours =
    subst (λ x. TrueRows run x l.rows) (sym s.folder) (subst (λ (x : Ledger). TrueRows run (files_after run.to (works_of run l0.rows s.before) m0) x.rows) (sym s.ledger)
    (truth_front run m0 l0 s.before s.rest s.apart s.split s.ours truth))
truth_of run m0 l0 m l done (inr (inr s)) truth ours =
    let before = files_after run.to (works_of run l0.rows s.before) m0 in
    let some : ◌≡◌ {A = Option Contents} (Some m) (Some (setting (full run.to (run.target s.file.path)) s.folder.left before)) = s.folder.is in
    let is : m ≡ setting (full run.to (run.target s.file.path)) s.folder.left before = cc in
    let relative : is_relative_path (run.target s.file.path) ≡ true =
    relative_at (targets_of run s.before) (run.target s.file.path) (targets_of run s.rest) (subst AllRelative (ap (targets_of run) s.split ∙ map-append (λ (f : File). run.target f.path) s.before (s.file ∷ s.rest)) s.apart.relative) in
    subst (λ x. TrueRows run x l.rows) (sym is) (true_broken run before (ledger_after (works_of run l0.rows s.before) (with_header run.header l0)).rows l.rows (run.target s.file.path) s.folder.left s.apart.roots relative
    (row_gone run m0 l0 m l done s.apart s)
    (λ q apart'. ap (λ (x : Ledger). fin.get x.rows q) s.ledger ∙ cleared_spares (run.target s.file.path) q _ _ (λ e. apart' (sym e)))
    (truth_front run m0 l0 s.before (s.file ∷ s.rest) s.apart s.split s.ours truth))

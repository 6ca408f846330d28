-- A run goes on where another was stopped: the folders are those of one run.
use Rattle.std.proofs.Common.{◌≡◌, ◌≢◌, ◌⊎◌, inl, inr, ℕ, zero, suc, ◌<◌, ◌≤◌, List, [], ◌∷◌, ◌++◌, length, Option, Some, None, Bool, true, false, refl, sym, ap, ◌∙◌, subst, cond, Result, Ok, Err, arith}
use Rattle.std.specs.Prelude.{not, ◌&&◌, is_ok, IsOkAnd, MatchResult}
use Rattle.std.specs.FinMap as fin
use Rattle.std.proofs.lemmas.Bool.{and_parts, not-true}
use Rattle.std.proofs.lemmas.List.{append_cancel_left}
use Rattle.std.proofs.Math.Nat.{eq-or-lt_of_le}
use Rattle.sha2.specs.Sha256.{sha256}
use Rattle.desk_base.specs.Names.{Text}
use Rattle.desk_base.specs.Paths.{full, folder}
use Rattle.desk_base.specs.TextMaps.{same_texts}
use Rattle.desk_folders.specs.Contents.{Contents, File, files_below}
use Rattle.desk_file.specs.declared.images.Image.{Image}
use Rattle.desk_ledger.specs.declared.keeper.Held.{Held}
use Rattle.desk_ledger.specs.Ledger.{Ledger, Rows}
use Rattle.desk_report.specs.declared.lines.Reason.{Reason}
use Rattle.desk_report.specs.declared.status.Status.{Status}
use Rattle.desk_report.specs.declared.status.Status.TheVariants.{Done, Refusals, Memory, FolderFault, LedgerFault, OutputFault, Usage, NestedRoots, BadRules, Limit, PathClash, NameClash, Stranded, OtherRun, Moved, NotInvertible, Differs}
use Rattle.desk_second.specs.Applications.{classes_of}
use Rattle.desk_words.specs.declared.roots.Roots.{Roots}
use Rattle.desk_intake.specs.declared.rules.DigestedRules.{DigestedRules}
use Rattle.desk_run.specs.Asked.{Asked}
use Rattle.desk_run.specs.Runs.{Run, has_output, is_kept, is_kept_file, is_fresh, written_of, row_of}
use Rattle.desk_run.specs.Truth.{TrueLedger, SoundLedger, TargetsTell, IsVerified, IsTrusted}
use Rattle.desk_run.specs.Meaning.{Meant, finds_in, run_of, run_over, run_by_rules, run_of_asked}
use Rattle.desk_intake.specs.Rulings.{ruled}
use Rattle.desk_run.specs.Stands.{Unchanged, Remains}
use Rattle.desk_run.specs.Endings.{Tells, StandsAfter}
use Rattle.desk_run.specs.Clauses.{HoldsFiles, HoldsRows, KeepsLedger, Files, RemainsAt, Left}
use Rattle.desk_run.specs.Resuming.{is_stop, LeavesSources, WasStopped, AreTrusted, IsOneRun, GoesOn, Resumes}
use Rattle.desk_run.proofs.Truths.{text_case}
use Rattle.desk_intake.proofs.There.{AllThere, IsThere, there_at, files_there}
use Rattle.desk_run.proofs.Promised.{files_clause}
use Rattle.desk_run.proofs.Remaining.{kept_row}

-- ---- the folders that one run leaves are told by what is promised of them

-- a fresh file whose target is this path
record IsTarget (run : Run) (rows : Rows) (files : List File) (path : Text) : Type 0 where
  before : List File
  file : File
  rest : List File
  split : files ≡ before ++ file ∷ rest
  fresh : is_fresh run rows file ≡ true
  at : full run.to (run.target file.path) ≡ path

abbrev IsNoTarget : Run → Rows → List File → Text → Type 0
IsNoTarget run rows files path = (before rest : List File) (file : File) → files ≡ before ++ file ∷ rest → is_fresh run rows file ≡ true → full run.to (run.target file.path) ≢ path

no_target_more : (run : Run) (rows : Rows) (file : File) (files : List File) (path : Text) → (is_fresh run rows file ≡ true → full run.to (run.target file.path) ≢ path) → IsNoTarget run rows files path → IsNoTarget run rows (file ∷ files) path
no_target_more run rows file files path first more [] rest f e fresh =
    let is : f ≡ file = cc in
    λ at. first (ap (is_fresh run rows) (sym is) ∙ fresh) (ap (λ (x : File). full run.to (run.target x.path)) (sym is) ∙ at)
no_target_more run rows file files path first more (g ∷ before) rest f e fresh = more before rest f (cc) fresh

a_target : (run : Run) (rows : Rows) (files : List File) (path : Text) → IsTarget run rows files path ⊎ IsNoTarget run rows files path
a_target run rows [] path = inr (none) where
  none : IsNoTarget run rows [] path
  none [] rest f e fresh = cc
  none (g ∷ before) rest f e fresh = cc
a_target run rows (file ∷ files) path = by (is_fresh run rows file) refl (text_case (full run.to (run.target file.path)) path) (a_target run rows files path) where
  further : (is_fresh run rows file ≡ true → full run.to (run.target file.path) ≢ path) → IsTarget run rows files path ⊎ IsNoTarget run rows files path → IsTarget run rows (file ∷ files) path ⊎ IsNoTarget run rows (file ∷ files) path
  further first (inl t) = inl (record { before = file ∷ t.before; file = t.file; rest = t.rest; split = ap (λ x. file ∷ x) t.split; fresh = t.fresh; at = t.at })
  further first (inr none) = inr (no_target_more run rows file files path first none)

  by : (b : Bool) → is_fresh run rows file ≡ b → (full run.to (run.target file.path) ≡ path) ⊎ (full run.to (run.target file.path) ≢ path) → IsTarget run rows files path ⊎ IsNoTarget run rows files path
      → IsTarget run rows (file ∷ files) path ⊎ IsNoTarget run rows (file ∷ files) path
  by true e (inl at) more = inl (record { before = []; file = file; rest = files; split = refl; fresh = e; at = at })
  by true e (inr off) more = further (λ _. off) more
  by false e case more = further (λ f. absurd (let no : true ≡ false = sym f ∙ e in cc)) more

-- the image of a fresh file
record HasImage (run : Run) (rows : Rows) (file : File) : Type 0 where
  image : Image
  is : run.image file.path file.bytes ≡ Ok image
  fresh : is_kept_file run rows file ≡ false

fresh_image : (run : Run) (rows : Rows) (file : File) → is_fresh run rows file ≡ true → HasImage run rows file
fresh_image run rows file e = by (run.image file.path file.bytes) refl (and_parts _ _ e).1 where
  by : (o : Result Image Reason) → run.image file.path file.bytes ≡ o → is_ok o ≡ true → HasImage run rows file
  by (Ok image) f g = record { image = image; is = f; fresh = not-true _ (and_parts _ _ e).0 }
  by (Err reason) f g = cc

same_folders : (run : Run) (m0 : Contents) (l0 : Ledger) (m other : Contents) → HoldsFiles run m0 l0 m → HoldsFiles run m0 l0 other → other ≡ m
same_folders run m0 l0 m other h g = same_texts other m at where
  at : (path : Text) → fin.get other path ≡ fin.get m path
  at path = by (a_target run l0.rows (files_below run.from m0) path) where
    by : IsTarget run l0.rows (files_below run.from m0) path ⊎ IsNoTarget run l0.rows (files_below run.from m0) path → fin.get other path ≡ fin.get m path
    by (inl t) =
        let has = fresh_image run l0.rows t.file t.fresh in
        let is = λ (x : Contents) (hx : HoldsFiles run m0 l0 x). hx.images t.before t.rest t.file has.image t.split has.is (inr has.fresh) in
        ap (fin.get other) (sym t.at) ∙ is other g ∙ sym (is m h) ∙ ap (fin.get m) t.at
    by (inr none) = g.paths path none ∙ sym (h.paths path none)

-- ---- what a stopped run leaves

-- what no file that it was to write has for its target is as it was
record Spares (run : Run) (m0 : Contents) (l0 : Ledger) (m : Contents) (l : Ledger) : Type 0 where
  paths : (path : Text) → IsNoTarget run l0.rows (files_below run.from m0) path → fin.get m path ≡ fin.get m0 path
  rows : (target : Text) → IsNoTarget run l0.rows (files_below run.from m0) (full run.to target) → fin.get l.rows target ≡ fin.get l0.rows target

spares_remains : (run : Run) (m0 : Contents) (l0 : Ledger) (m : Contents) (l : Ledger) (done : ℕ) → Remains run m0 l0 m l done → Spares run m0 l0 m l
spares_remains run m0 l0 m l done r = record {
  paths = λ path none. r.paths path (λ b a file e le fresh. none b a file e fresh);
  rows = λ target none. r.others target (λ b a file e le fresh at. none b a file e fresh (ap (full run.to) at));
}

spares_complete : (run : Run) (m0 : Contents) (l0 : Ledger) (m : Contents) (l : Ledger) → HoldsFiles run m0 l0 m → HoldsRows run m0 l0 l → Spares run m0 l0 m l
spares_complete run m0 l0 m l h r = record {
  paths = λ path none. h.paths path none;
  rows = λ target none. r.others target (λ b a file e fresh at. none b a file e fresh (ap (full run.to) at));
}

spares_at : (asked : Asked) (m0 : Contents) (l0 : Ledger) (m : Contents) (l : Ledger) (done : ℕ) (run : Run) → run_of_asked asked m0 ≡ Ok run → RemainsAt asked m0 l0 m l done → Spares run m0 l0 m l
spares_at asked m0 l0 m l done run e r = spares_remains run m0 l0 m l done (subst (λ (x : Meant). MatchResult x (λ run. Remains run m0 l0 m l done) (λ _. Unchanged m0 l0 m l done)) e r)

spares_stopped : (asked : Asked) (m0 : Contents) (l0 : Ledger) (m : Contents) (l : Ledger) (run : Run) → run_of_asked asked m0 ≡ Ok run → WasStopped asked m0 l0 m l → Spares run m0 l0 m l
spares_stopped asked m0 l0 m l run e w = by w.status w.stopped w.remains where
  by : (status : Status) → is_stop status ≡ true → Left asked m0 l0 m l status → Spares run m0 l0 m l
  by Memory s r = spares_at asked m0 l0 m l r.done run e r.remains
  by (FolderFault done) s r = spares_at asked m0 l0 m l done run e r.remains
  by (LedgerFault done) s r = spares_at asked m0 l0 m l done run e r
  by OutputFault s r =
      let both = subst (λ (x : Meant). IsOkAnd x (λ run. HoldsFiles run m0 l0 m × HoldsRows run m0 l0 l)) e r in
      spares_complete run m0 l0 m l both.0 both.1
  by Done s r = cc
  by Refusals s r = cc
  by Usage s r = cc
  by (NestedRoots first second) s r = cc
  by (BadRules fault) s r = cc
  by (OtherRun kept wanted) s r = cc
  by (Limit kind path) s r = cc
  by (PathClash first second) s r = cc
  by (NameClash defined other image) s r = cc
  by (Stranded path held) s r = cc
  by (Moved path one other) s r = cc
  by (NotInvertible fault) s r = cc
  by (Differs path) s r = cc

-- ---- the run behind it

-- a run as these folders show it
abbrev showing : Roots → Contents → Run → Run
showing roots m run = record run { finds = finds_in roots m }

-- what words and folders mean, where source and rules are as they were
record SameRun (asked : Asked) (m0 m : Contents) (run : Run) : Type 0 where
  roots : Roots
  are : asked ≡ Ok roots
  is : run_of_asked asked m ≡ Ok (showing roots m run)
  source : files_below run.from m ≡ files_below run.from m0
  finds : run.finds ≡ finds_in roots m0
  to : run.to ≡ roots.to

same_run : (asked : Asked) (m0 m : Contents) (run : Run) → LeavesSources asked m0 m → run_of_asked asked m0 ≡ Ok run → SameRun asked m0 m run
same_run (Err status) m0 m run s e = cc
same_run (Ok roots) m0 m run s e = by (ruled roots.rules (files_below roots.rules m0)) refl e where
  by : (r : Result DigestedRules Status) → ruled roots.rules (files_below roots.rules m0) ≡ r → run_by_rules m0 roots r ≡ Ok run → SameRun (Ok roots) m0 m run
  by (Err status) f g = cc
  by (Ok r) f g =
      let are : run_of roots r m0 ≡ run = cc in
      let classes : run_of roots r m ≡ showing roots m (run_of roots r m0) = ap (λ fs. run_over roots r m (classes_of r.rules fs)) s.source in
      subst (SameRun (Ok roots) m0 m) are (record {
        roots = roots;
        are = refl;
        is = ap (λ fs. run_by_rules m roots (ruled roots.rules fs)) s.rules ∙ ap (run_by_rules m roots) f ∙ ap Ok classes;
        source = s.source;
        finds = refl;
        to = refl;
      })

-- whether a file is kept is told by row and bytes at its target
same_kept : (run : Run) (roots : Roots) (m0 m : Contents) (rows rows0 : Rows) (file : File) → run.finds ≡ finds_in roots m0 → fin.get rows (run.target file.path) ≡ fin.get rows0 (run.target file.path)
    → fin.get m (full roots.to (run.target file.path)) ≡ fin.get m0 (full roots.to (run.target file.path)) → is_kept_file (showing roots m run) rows file ≡ is_kept_file run rows0 file
same_kept run roots m0 m rows rows0 file finds row bytes =
    ap (λ (o : Option Held). kept_by (finds_in roots m (run.target file.path)) o) row
    ∙ ap (λ (held : Option Text). kept_by (λ (r : Held). cond roots.verify (has_output held r.output) true) (fin.get rows0 (run.target file.path))) bytes
    ∙ ap (λ (f : Text → Held → Bool). kept_by (f (run.target file.path)) (fin.get rows0 (run.target file.path))) (sym finds) where
      kept_by : (Held → Bool) → Option Held → Bool
      kept_by finds o = is_kept finds o file.path (sha256 file.bytes)

-- and so is whether it is fresh
same_fresh : (run : Run) (roots : Roots) (m0 m : Contents) (rows rows0 : Rows) (file : File) → run.finds ≡ finds_in roots m0 → fin.get rows (run.target file.path) ≡ fin.get rows0 (run.target file.path)
    → fin.get m (full roots.to (run.target file.path)) ≡ fin.get m0 (full roots.to (run.target file.path)) → is_fresh (showing roots m run) rows file ≡ is_fresh run rows0 file
same_fresh run roots m0 m rows rows0 file finds row bytes = ap (λ kept. not kept && is_ok (run.image file.path file.bytes)) (same_kept run roots m0 m rows rows0 file finds row bytes)

-- what is true of a ledger doesn't hang on what the run finds at its targets
showing_true : (run : Run) (roots : Roots) (m : Contents) (l : Ledger) → TrueLedger run m l → TrueLedger (showing roots m run) m l
showing_true run roots m l truth = λ ours target row bytes at rel there sha.
    let w = truth ours target row bytes at rel there sha in
    record { sound = record { image = w.sound.image; is = w.sound.is; goes = w.sound.goes; output = w.sound.output }; held = w.held }

-- what is sound of a ledger doesn't, either
showing_sound : (run : Run) (roots : Roots) (m : Contents) (l : Ledger) → SoundLedger run m l → SoundLedger (showing roots m run) m l
showing_sound run roots m l sound = λ ours target row bytes at rel there sha.
    let w = sound ours target row bytes at rel there sha in
    record { image = w.image; is = w.is; goes = w.goes; output = w.output }

-- ---- what is trusted of a run is trusted where it was stopped

-- a fresh file among these, before which so many stand at most, whose target is this path
record IsEarly (run : Run) (rows : Rows) (files : List File) (done : ℕ) (path : Text) : Type 0 where
  before : List File
  file : File
  rest : List File
  split : files ≡ before ++ file ∷ rest
  early : length before ≤ done
  fresh : is_fresh run rows file ≡ true
  at : full run.to (run.target file.path) ≡ path

abbrev IsNoEarly : Run → Rows → List File → ℕ → Text → Type 0
IsNoEarly run rows files done path = (before rest : List File) (file : File) → files ≡ before ++ file ∷ rest → length before ≤ done → is_fresh run rows file ≡ true → full run.to (run.target file.path) ≢ path

no_early_none : (run : Run) (rows : Rows) (done : ℕ) (path : Text) → IsNoEarly run rows [] done path
no_early_none run rows done path [] rest f e = cc
no_early_none run rows done path (g ∷ before) rest f e = cc

no_early_first : (run : Run) (rows : Rows) (file : File) (files : List File) (path : Text) → (is_fresh run rows file ≡ true → full run.to (run.target file.path) ≢ path) → IsNoEarly run rows (file ∷ files) zero path
no_early_first run rows file files path first [] rest f e le fresh =
    let is : f ≡ file = cc in
    λ at. first (ap (is_fresh run rows) (sym is) ∙ fresh) (ap (λ (x : File). full run.to (run.target x.path)) (sym is) ∙ at)
no_early_first run rows file files path first (g ∷ before) rest f e le fresh = absurd (omega arith)

no_early_more : (run : Run) (rows : Rows) (file : File) (files : List File) (done : ℕ) (path : Text) → (is_fresh run rows file ≡ true → full run.to (run.target file.path) ≢ path) → IsNoEarly run rows files done path
    → IsNoEarly run rows (file ∷ files) (suc done) path
no_early_more run rows file files done path first more [] rest f e le fresh =
    let is : f ≡ file = cc in
    λ at. first (ap (is_fresh run rows) (sym is) ∙ fresh) (ap (λ (x : File). full run.to (run.target x.path)) (sym is) ∙ at)
no_early_more run rows file files done path first more (g ∷ before) rest f e le fresh = more before rest f (cc) (omega arith) fresh

early_more : (run : Run) (rows : Rows) (file : File) (files : List File) (done : ℕ) (path : Text) → IsEarly run rows files done path → IsEarly run rows (file ∷ files) (suc done) path
early_more run rows file files done path t = record {
  before = file ∷ t.before;
  file = t.file;
  rest = t.rest;
  split = ap (λ x. file ∷ x) t.split;
  early = let h = t.early in omega arith;
  fresh = t.fresh;
  at = t.at;
}

-- a file that is fresh and has this target, or isn't so
fresh_at : (run : Run) (rows : Rows) (file : File) (path : Text) → ((is_fresh run rows file ≡ true) × (full run.to (run.target file.path) ≡ path)) ⊎ (is_fresh run rows file ≡ true → full run.to (run.target file.path) ≢ path)
fresh_at run rows file path = by (is_fresh run rows file) refl (text_case (full run.to (run.target file.path)) path) where
  by : (b : Bool) → is_fresh run rows file ≡ b → (full run.to (run.target file.path) ≡ path) ⊎ (full run.to (run.target file.path) ≢ path)
      → ((is_fresh run rows file ≡ true) × (full run.to (run.target file.path) ≡ path)) ⊎ (is_fresh run rows file ≡ true → full run.to (run.target file.path) ≢ path)
  by true e (inl at) = inl (e, at)
  by true e (inr off) = inr (λ _. off)
  by false e case = inr (λ f. absurd (let no : true ≡ false = sym f ∙ e in cc))

an_early : (run : Run) (rows : Rows) (files : List File) (done : ℕ) (path : Text) → IsEarly run rows files done path ⊎ IsNoEarly run rows files done path
an_early run rows [] done path = inr (no_early_none run rows done path)
an_early run rows (file ∷ files) zero path = by (fresh_at run rows file path) where
  by : ((is_fresh run rows file ≡ true) × (full run.to (run.target file.path) ≡ path)) ⊎ (is_fresh run rows file ≡ true → full run.to (run.target file.path) ≢ path)
      → IsEarly run rows (file ∷ files) zero path ⊎ IsNoEarly run rows (file ∷ files) zero path
  by (inl f) = inl (record { before = []; file = file; rest = files; split = refl; early = omega arith; fresh = f.0; at = f.1 })
  by (inr off) = inr (no_early_first run rows file files path off)
an_early run rows (file ∷ files) (suc done) path = by (fresh_at run rows file path) (an_early run rows files done path) where
  by : ((is_fresh run rows file ≡ true) × (full run.to (run.target file.path) ≡ path)) ⊎ (is_fresh run rows file ≡ true → full run.to (run.target file.path) ≢ path)
      → IsEarly run rows files done path ⊎ IsNoEarly run rows files done path → IsEarly run rows (file ∷ files) (suc done) path ⊎ IsNoEarly run rows (file ∷ files) (suc done) path
  by (inl f) more = inl (record { before = []; file = file; rest = files; split = refl; early = omega arith; fresh = f.0; at = f.1 })
  by (inr off) (inl t) = inl (early_more run rows file files done path t)
  by (inr off) (inr none) = inr (no_early_more run rows file files done path off none)

-- two files that are there at one path are one
same_there : (root : Text) (m : Contents) (one other : File) → IsThere root m one → IsThere root m other → one.path ≡ other.path → one.bytes ≡ other.bytes
same_there root m one other a b e =
    let both : Some one.bytes ≡ Some other.bytes = sym a.held ∙ ap (λ p. fin.get m (full root p)) e ∙ b.held in cc

-- a file below a root is there
below_there : (root : Text) (m : Contents) (a b : List File) (file : File) → files_below root m ≡ a ++ file ∷ b → IsThere root m file
below_there root m a b file e = there_at root m a file b (subst (AllThere root m) e (files_there root m))

-- a file that the next run keeps, where a stopped run wrote it
kept_written : (run : Run) (roots : Roots) (m0 : Contents) (l0 : Ledger) (m1 : Contents) (l1 : Ledger) (a b before rest : List File) (file early : File) (image own : Image) (bytes : Text)
    → files_below run.from m0 ≡ a ++ file ∷ b → files_below run.from m0 ≡ before ++ early ∷ rest → is_kept_file run l0.rows early ≡ false
    → run.image file.path file.bytes ≡ Ok image → run.image early.path early.bytes ≡ Ok own
    → fin.get l1.rows (run.target early.path) ≡ row_of run l0.rows early own → fin.get m1 (full run.to (run.target early.path)) ≡ Some own.bytes
    → run.target early.path ≡ run.target file.path → is_kept_file (showing roots m1 run) l1.rows file ≡ true → fin.get m1 (full run.to (run.target file.path)) ≡ Some bytes → bytes ≡ image.bytes
kept_written run roots m0 l0 m1 l1 a b before rest file early image own bytes e e' fresh is is' row held at kept there =
    let by = kept_row (finds_in roots m1 (run.target file.path)) _ _ _ kept in
    let wrote : fin.get l1.rows (run.target file.path) ≡ Some (written_of early own) =
    ap (fin.get l1.rows) (sym at) ∙ row ∙ ap (λ x. cond x (fin.get l0.rows (run.target early.path)) (Some (written_of early own))) fresh in
    let rows : Some by.row ≡ Some (written_of early own) = sym by.is ∙ wrote in
    let row_is : by.row ≡ written_of early own = cc in
    let path : early.path ≡ file.path = ap (λ (r : Held). r.source) (sym row_is) ∙ by.source in
    let same = same_there run.from m0 early file (below_there run.from m0 before rest early e') (below_there run.from m0 a b file e) path in
    let images : ◌≡◌ {A = Result Image Reason} (Ok own) (Ok image) = sym is' ∙ ap (λ p. run.image p early.bytes) path ∙ ap (run.image file.path) same ∙ is in
    let image_is : own ≡ image = cc in
    let both : Some bytes ≡ Some own.bytes = sym there ∙ ap (λ t. fin.get m1 (full run.to t)) (sym at) ∙ held in
    let bytes_are : bytes ≡ own.bytes = cc in
    bytes_are ∙ ap (λ (x : Image). x.bytes) image_is

-- of a file that the next run keeps, whose row and target are as they were
kept_as_was : (run : Run) (roots : Roots) (m0 : Contents) (l0 : Ledger) (m1 : Contents) (l1 : Ledger) (a b : List File) (file : File) (image : Image) (bytes : Text) → run.finds ≡ finds_in roots m0 → run.to ≡ roots.to
    → TargetsTell run m0 l0.rows → files_below run.from m0 ≡ a ++ file ∷ b → run.image file.path file.bytes ≡ Ok image → fin.get l1.rows (run.target file.path) ≡ fin.get l0.rows (run.target file.path)
    → fin.get m1 (full run.to (run.target file.path)) ≡ fin.get m0 (full run.to (run.target file.path)) → is_kept_file (showing roots m1 run) l1.rows file ≡ true
    → fin.get m1 (full run.to (run.target file.path)) ≡ Some bytes → sha256 bytes ≡ sha256 image.bytes → bytes ≡ image.bytes
kept_as_was run roots m0 l0 m1 l1 a b file image bytes finds to tell e is row held kept there hash =
    let at_root = ap (λ t. fin.get m1 (full t (run.target file.path))) (sym to) ∙ held ∙ ap (λ t. fin.get m0 (full t (run.target file.path))) to in
    tell a b file image bytes e (sym (same_kept run roots m0 m1 l1.rows l0.rows file finds row at_root) ∙ kept) is (sym held ∙ there) hash

targets_on : (run : Run) (roots : Roots) (m0 : Contents) (l0 : Ledger) (m1 : Contents) (l1 : Ledger) (done : ℕ) → files_below run.from m1 ≡ files_below run.from m0 → run.finds ≡ finds_in roots m0 → run.to ≡ roots.to
    → IsVerified run m0 l0 → Remains run m0 l0 m1 l1 done → TargetsTell (showing roots m1 run) m1 l1.rows
targets_on run roots m0 l0 m1 l1 done same finds to v r a b file image bytes e kept is there hash = by (an_early run l0.rows (files_below run.from m0) done (full run.to (run.target file.path))) where
  split : files_below run.from m0 ≡ a ++ file ∷ b
  split = sym same ∙ e

  was : fin.get l1.rows (run.target file.path) ≡ fin.get l0.rows (run.target file.path) → fin.get m1 (full run.to (run.target file.path)) ≡ fin.get m0 (full run.to (run.target file.path)) → bytes ≡ image.bytes
  was row held = kept_as_was run roots m0 l0 m1 l1 a b file image bytes finds to v.targets split is row held kept there hash

  next : (t : IsEarly run l0.rows (files_below run.from m0) done (full run.to (run.target file.path))) → run.target t.file.path ≡ run.target file.path
      → (fin.get l1.rows (run.target t.file.path) ≡ None) ⊎ ((fin.get l1.rows (run.target t.file.path) ≡ fin.get l0.rows (run.target t.file.path)) × (fin.get m1 (full run.to (run.target t.file.path)) ≡ fin.get m0 (full run.to (run.target t.file.path)))) → bytes ≡ image.bytes
  next t at (inl none) =
      let found = kept_row (finds_in roots m1 (run.target file.path)) _ _ _ kept in
      let no : Some found.row ≡ None = sym found.is ∙ ap (fin.get l1.rows) (sym at) ∙ none in cc
  next t at (inr stays) = was (subst (λ g. fin.get l1.rows g ≡ fin.get l0.rows g) at stays.0) (subst (λ g. fin.get m1 (full run.to g) ≡ fin.get m0 (full run.to g)) at stays.1)

  wrote : (t : IsEarly run l0.rows (files_below run.from m0) done (full run.to (run.target file.path))) → run.target t.file.path ≡ run.target file.path → length t.before < done → bytes ≡ image.bytes
  wrote t at lt =
      let has = fresh_image run l0.rows t.file t.fresh in
      kept_written run roots m0 l0 m1 l1 a b t.before t.rest file t.file image has.image bytes split t.split has.fresh is has.is
      (r.rows t.before t.rest t.file has.image t.split lt has.is) (r.images t.before t.rest t.file has.image t.split lt has.is (inr has.fresh)) at kept there

  placed : (t : IsEarly run l0.rows (files_below run.from m0) done (full run.to (run.target file.path))) → run.target t.file.path ≡ run.target file.path → (length t.before ≡ done) ⊎ (length t.before < done) → bytes ≡ image.bytes
  placed t at (inl is_next) = next t at (r.next t.before t.rest t.file t.split is_next)
  placed t at (inr lt) = wrote t at lt

  by : IsEarly run l0.rows (files_below run.from m0) done (full run.to (run.target file.path)) ⊎ IsNoEarly run l0.rows (files_below run.from m0) done (full run.to (run.target file.path)) → bytes ≡ image.bytes
  by (inl t) = placed t (append_cancel_left (folder run.to) (run.target t.file.path) (run.target file.path) t.at) (eq-or-lt_of_le t.early)
  by (inr none) = was (r.others (run.target file.path) (λ before rest f e' le fresh at. none before rest f e' le fresh (ap (full run.to) at))) (r.paths (full run.to (run.target file.path)) none)

verified_at : (run : Run) (roots : Roots) (m0 : Contents) (l0 : Ledger) (m1 : Contents) (l1 : Ledger) (done : ℕ) → files_below run.from m1 ≡ files_below run.from m0 → run.finds ≡ finds_in roots m0 → run.to ≡ roots.to
    → SoundLedger run m1 l1 → IsVerified run m0 l0 → Remains run m0 l0 m1 l1 done → IsTrusted (showing roots m1 run) m1 l1
verified_at run roots m0 l0 m1 l1 done same finds to sound v r = inr (record {
  verify = v.verify;
  sound = showing_sound run roots m1 l1 sound;
  targets = targets_on run roots m0 l0 m1 l1 done same finds to v r;
})

trusted_on : (asked : Asked) (m0 : Contents) (l0 : Ledger) (m1 : Contents) (l1 : Ledger) (run : Run) (s : SameRun asked m0 m1 run) → run_of_asked asked m0 ≡ Ok run → WasStopped asked m0 l0 m1 l1 → IsTrusted run m0 l0 → IsTrusted (showing s.roots m1 run) m1 l1
trusted_on asked m0 l0 m1 l1 run s e w (inl truth) = inl (showing_true run s.roots m1 l1 (w.ledger.stays run e truth))
trusted_on asked m0 l0 m1 l1 run s e w (inr v) = by w.status w.stopped w.remains w.ledger where
  sound : (status : Status) → KeepsLedger asked m0 l0 m1 l1 status → SoundLedger run m1 l1
  sound status kept = kept.sound run e v.sound

  at : (done : ℕ) → RemainsAt asked m0 l0 m1 l1 done → SoundLedger run m1 l1 → IsTrusted (showing s.roots m1 run) m1 l1
  at done r sound = verified_at run s.roots m0 l0 m1 l1 done s.source s.finds s.to sound v (subst (λ (x : Meant). MatchResult x (λ run. Remains run m0 l0 m1 l1 done) (λ _. Unchanged m0 l0 m1 l1 done)) e r)

  by : (status : Status) → is_stop status ≡ true → Left asked m0 l0 m1 l1 status → KeepsLedger asked m0 l0 m1 l1 status → IsTrusted (showing s.roots m1 run) m1 l1
  by Memory t r k = at r.done r.remains (sound Memory k)
  by (FolderFault done) t r k = at done r.remains (sound (FolderFault done) k)
  by (LedgerFault done) t r k = at done r (sound (LedgerFault done) k)
  by OutputFault t r k = inl (showing_true run s.roots m1 l1 (subst (λ (x : Meant). IsOkAnd x (λ run. IsVerified run m0 l0 → TrueLedger run m1 l1)) e k.verified v))
  by Done t r k = cc
  by Refusals t r k = cc
  by Usage t r k = cc
  by (NestedRoots first second) t r k = cc
  by (BadRules fault) t r k = cc
  by (OtherRun kept wanted) t r k = cc
  by (Limit kind path) t r k = cc
  by (PathClash first second) t r k = cc
  by (NameClash defined other image) t r k = cc
  by (Stranded path held) t r k = cc
  by (Moved path one other) t r k = cc
  by (NotInvertible fault) t r k = cc
  by (Differs path) t r k = cc

-- ---- the run that completes

one_run : (run : Run) (roots : Roots) (m0 : Contents) (l0 : Ledger) (m1 : Contents) (l1 : Ledger) (m : Contents) → files_below run.from m1 ≡ files_below run.from m0 → run.finds ≡ finds_in roots m0 → run.to ≡ roots.to
    → Spares run m0 l0 m1 l1 → IsTrusted (showing roots m1 run) m1 l1 → HoldsFiles (showing roots m1 run) m1 l1 m → HoldsFiles run m0 l0 m
one_run run roots m0 l0 m1 l1 m same finds to spared trust h = record {
  images = λ before rest file image e is _. h.images before rest file image (same ∙ e) is (inl trust);
  paths = λ path none.
      h.paths path (λ before rest file e fresh at.
      let off : IsNoTarget run l0.rows (files_below run.from m0) (full run.to (run.target file.path)) = λ b a f e' fresh' at'. none b a f e' fresh' (at' ∙ at) in
      let row = spared.rows (run.target file.path) off in
      let here = spared.paths (full run.to (run.target file.path)) off in
      let bytes = ap (λ t. fin.get m1 (full t (run.target file.path))) (sym to) ∙ here ∙ ap (λ t. fin.get m0 (full t (run.target file.path))) to in
      none before rest file (sym same ∙ e) (sym (same_fresh run roots m0 m1 l1.rows l0.rows file finds row bytes) ∙ fresh) at)
      ∙ spared.paths path none;
}

completed : (asked : Asked) (m0 : Contents) (l0 : Ledger) (m1 : Contents) (l1 : Ledger) (m : Contents) (run : Run) → run_of_asked asked m0 ≡ Ok run → IsTrusted run m0 l0 → WasStopped asked m0 l0 m1 l1
    → IsOkAnd (run_of_asked asked m1) (λ run. HoldsFiles run m1 l1 m) → IsOneRun asked m0 l0 m
completed asked m0 l0 m1 l1 m run is trust stopped h =
    let same = same_run asked m0 m1 run stopped.sources is in
    let later = trusted_on asked m0 l0 m1 l1 run same is stopped trust in
    let holds = subst (λ (o : Meant). IsOkAnd o (λ run. HoldsFiles run m1 l1 m)) same.is h in
    let files = one_run run same.roots m0 l0 m1 l1 m same.source same.finds same.to (spares_stopped asked m0 l0 m1 l1 run is stopped) later holds in
    record { run = run; is = is; files = files; only = λ other. same_folders run m0 l0 m other files }

-- where words and folders mean no run, none completes
no_run : (asked : Asked) (m0 m : Contents) (answer : Ledger → Status) (P : Run → Type 0) → LeavesSources asked m0 m → run_of_asked asked m0 ≡ Err answer → IsOkAnd (run_of_asked asked m) P → ⊥
no_run (Err other) m0 m answer P s e h = h
no_run (Ok roots) m0 m answer P s e h = by (ruled roots.rules (files_below roots.rules m0)) refl e where
  by : (r : Result DigestedRules Status) → ruled roots.rules (files_below roots.rules m0) ≡ r → run_by_rules m0 roots r ≡ Err answer → ⊥
  by (Ok r) f g = cc
  by (Err status) f g = subst (λ (o : Meant). IsOkAnd o P) (ap (λ fs. run_by_rules m roots (ruled roots.rules fs)) s.rules ∙ ap (run_by_rules m roots) f) h

-- one stop before
goes_back : (asked : Asked) (m0 : Contents) (l0 : Ledger) (m1 : Contents) (l1 : Ledger) (m : Contents) → AreTrusted asked m0 l0 → WasStopped asked m0 l0 m1 l1 → IsOkAnd (run_of_asked asked m1) (λ run. HoldsFiles run m1 l1 m) → IsOneRun asked m0 l0 m
goes_back asked m0 l0 m1 l1 m trust stopped h = by (run_of_asked asked m0) refl where
  by : (o : Meant) → run_of_asked asked m0 ≡ o → IsOneRun asked m0 l0 m
  by (Ok run) e = completed asked m0 l0 m1 l1 m run e (trust run e) stopped h
  by (Err answer) e = absurd (no_run asked m0 m1 answer (λ run. HoldsFiles run m1 l1 m) stopped.sources e h)

-- what is trusted before a stop is trusted where the next run begins
trusted_behind : (asked : Asked) (m0 : Contents) (l0 : Ledger) (m1 : Contents) (l1 : Ledger) → AreTrusted asked m0 l0 → WasStopped asked m0 l0 m1 l1 → AreTrusted asked m1 l1
trusted_behind asked m0 l0 m1 l1 trust stopped run1 e1 = by (run_of_asked asked m0) refl where
  by : (o : Meant) → run_of_asked asked m0 ≡ o → IsTrusted run1 m1 l1
  by (Ok run) e =
      let same = same_run asked m0 m1 run stopped.sources e in
      let runs : ◌≡◌ {A = Meant} (Ok (showing same.roots m1 run)) (Ok run1) = sym same.is ∙ e1 in
      let is : showing same.roots m1 run ≡ run1 = cc in
      subst (λ (r : Run). IsTrusted r m1 l1) is (trusted_on asked m0 l0 m1 l1 run same e stopped (trust run e))
  by (Err answer) e = absurd (no_run asked m0 m1 answer (λ run. Unit {0}) stopped.sources e (subst (λ (o : Meant). IsOkAnd o (λ run. Unit {0})) (sym e1) tt))

goes_on : (asked : Asked) (m1 : Contents) (l1 : Ledger) (m : Contents) → IsOkAnd (run_of_asked asked m1) (λ run. HoldsFiles run m1 l1 m) → GoesOn asked m1 l1 m
goes_on asked m1 l1 m h m0 l0 [] trust stopped = goes_back asked m0 l0 m1 l1 m trust stopped h
goes_on asked m1 l1 m h m0 l0 (left ∷ more) trust stopped =
    let one = goes_on asked m1 l1 m h left.0 left.1 more (trusted_behind asked m0 l0 left.0 left.1 trust stopped.0) stopped.1 in
    goes_back asked m0 l0 left.0 left.1 m trust stopped.0 (subst (λ (o : Meant). IsOkAnd o (λ run. HoldsFiles run left.0 left.1 m)) (sym one.is) one.files)

pub resume_clause : (asked : Asked) (m1 : Contents) (l1 : Ledger) (f : Option Contents) (k : Option Ledger) (status : Status)
    → Tells f k (λ m l. StandsAfter asked m1 l1 m l status) → Tells f k (λ m _. Resumes asked m1 l1 m status)
resume_clause asked m1 l1 f k status t =
    let files = files_clause asked m1 l1 f k status t in
    record { m = files.m; l = files.l; folders = files.folders; ledger = files.ledger; holds = by files.m status files.holds } where
      by : (m : Contents) (status : Status) → Files asked m1 l1 m status → Resumes asked m1 l1 m status
      by m Done h = goes_on asked m1 l1 m h
      by m Refusals h = goes_on asked m1 l1 m h
      by m Memory h = tt
      by m OutputFault h = tt
      by m (FolderFault done) h = tt
      by m (LedgerFault done) h = tt
      by m Usage h = tt
      by m (NestedRoots first second) h = tt
      by m (BadRules fault) h = tt
      by m (OtherRun kept wanted) h = tt
      by m (Limit kind path) h = tt
      by m (PathClash first second) h = tt
      by m (NameClash defined other image) h = tt
      by m (Stranded path held) h = tt
      by m (Moved path one other) h = tt
      by m (NotInvertible fault) h = tt
      by m (Differs path) h = tt

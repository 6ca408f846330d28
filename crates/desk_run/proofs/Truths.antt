-- A true ledger stays true, whatever is done or left undone.
use Rattle.std.proofs.Common.{◌≡◌, ◌≢◌, ◌⊎◌, inl, inr, List, [], ◌∷◌, Option, Some, None, refl, sym, ap, ◌∙◌, subst, true, false, Bool, cond, Result, Ok, Err}
use Rattle.std.specs.Prelude.{IfSome}
use Rattle.std.specs.FinMap as fin
use Rattle.std.specs.Str.{bytes_eq}
use Rattle.std.proofs.lemmas.Slice.Eq.{bytes_eq-Decides}
use Rattle.std.proofs.lemmas.Bool.Decides.{not_from_Decides}
use Rattle.desk_base.specs.Names.{Text}
use Rattle.desk_base.specs.Paths.{full, is_relative_path}
use Rattle.desk_folders.specs.Contents.{Contents, File, setting}
use Rattle.desk_base.specs.TextMaps.{get-insert-same, get-insert-other}
use Rattle.desk_folders.specs.ContentsLaws.{get-setting-other}
use Rattle.desk_ledger.specs.declared.keeper.Held.{Held}
use Rattle.desk_ledger.specs.Digests.{digest}
use Rattle.desk_ledger.specs.Ledger.{Ledger, Rows}
use Rattle.desk_file.specs.declared.images.Image.{Image}
use Rattle.desk_report.specs.declared.lines.Reason.{Reason}
use Rattle.desk_words.specs.Roots.{RootsApart}
use Rattle.desk_intake.proofs.There.{IsThere, AllThere}
use Rattle.desk_run.specs.Runs.{Run, AllRelative, written_of, targets_of}
use Rattle.desk_batches.specs.Works.{Plan, Keep, fresh, wrote, wrote_plan, logged, logged_plan, files_after, ledger_after}
use Rattle.desk_run.specs.Works.{work_of, works_of}
use Rattle.desk_run.specs.Truth.{TrueRows}
use Rattle.desk_run.proofs.After.{full_apart, plan_spares}

pub text_case : (p q : Text) → (p ≡ q) ⊎ (p ≢ q)
text_case p q =
    let d = bytes_eq-Decides p q in
    elim (bytes_eq p q) as (λ b. bytes_eq p q ≡ b → (p ≡ q) ⊎ (p ≢ q)) [
      | true ↦ λ e. inl (d.0 e)
      | false ↦ λ e. inr (not_from_Decides _ d e)
    ] refl

there_after : (from to target : Text) (plan : Plan) (m : Contents) (files : List File) → RootsApart from to → is_relative_path target ≡ true → AllThere from m files → AllThere from (wrote_plan (full to target) plan m) files
there_after from to target plan m [] apart rel h = tt
there_after from to target plan m (file ∷ files) apart rel h = (
  record { held = plan_spares (full to target) (full from file.path) plan m (λ _ e. apart file.path target h.0.relative rel (sym e)) ∙ h.0.held; relative = h.0.relative },
  there_after from to target plan m files apart rel h.1,
)

true_write : (run : Run) (m : Contents) (rows : Rows) (file : File) (image : Image) → RootsApart run.from run.to → is_relative_path (run.target file.path) ≡ true → run.image file.path file.bytes ≡ Ok image
    → IsThere run.from m file → TrueRows run m rows → TrueRows run (fin.insert m (full run.to (run.target file.path)) image.bytes) (fin.insert rows (run.target file.path) (written_of file image))
true_write run m rows file image apart rel is there was_true t row now at here_rel here dig =
    let goes = run.target file.path in
    let from_kept : fin.get m (full run.from row.source) ≡ Some now = sym (get-insert-other m (full run.to goes) image.bytes (full run.from row.source) (apart row.source goes here_rel rel)) ∙ here in
    elim (text_case t goes) [
      | inl e ↦
          let held = written_of file image in
          let row_is : ◌≡◌ {A = Option Held} (Some held) (Some row) = sym (get-insert-same rows goes held) ∙ ap (fin.get (fin.insert rows goes held)) (sym e) ∙ at in
          let row_same : held ≡ row = cc in
          let bytes_are : ◌≡◌ {A = Option Text} (Some file.bytes) (Some now) = sym there.held ∙ ap (λ (s : Held). fin.get m (full run.from s.source)) row_same ∙ from_kept in
          let bytes_same : file.bytes ≡ now = cc in
          record {
            sound = record {
              image = image;
              is = ap (λ (s : Held). run.image s.source now) (sym row_same) ∙ ap (run.image file.path) (sym bytes_same) ∙ is;
              goes = ap (λ (s : Held). run.target s.source) (sym row_same) ∙ sym e;
              output = subst (λ (s : Held). IfSome s.output (λ output. output ≡ digest image.bytes)) row_same refl;
            };
            held = ap (λ q. fin.get (fin.insert m (full run.to goes) image.bytes) (full run.to q)) e ∙ get-insert-same m (full run.to goes) image.bytes;
          }
      | inr n ↦
          let was = was_true t row now (sym (get-insert-other rows goes (written_of file image) t n) ∙ at) here_rel from_kept dig in
          record {
            sound = was.sound;
            held = get-insert-other m (full run.to goes) image.bytes (full run.to t) (full_apart run.to t goes n) ∙ was.held;
          }
    ]

-- one work leaves a true ledger true
true_step : (run : Run) (m : Contents) (l : Ledger) (file : File) (kept found : Bool) (o : Result Image Reason) → run.image file.path file.bytes ≡ o → RootsApart run.from run.to → is_relative_path (run.target file.path) ≡ true
    → IsThere run.from m file → TrueRows run m l.rows
    → TrueRows run (wrote_plan (full run.to (run.target file.path)) (cond kept Keep (fresh found o)) m) (logged_plan (run.target file.path) file.path (digest file.bytes) (cond kept Keep (fresh found o)) l).rows
true_step run m l file true found o is apart rel there true_before = true_before
true_step run m l file false found (Ok image) is apart rel there true_before = true_write run m l.rows file image apart rel is there true_before
true_step run m l file false found (Err reason) is apart rel there true_before = true_before

-- these works leave a true ledger true
pub true_after : (run : Run) (rows0 : Rows) (files : List File) (m : Contents) (l : Ledger) → RootsApart run.from run.to → AllRelative (targets_of run files) → AllThere run.from m files
    → TrueRows run m l.rows → TrueRows run (files_after run.to (works_of run rows0 files) m) (ledger_after (works_of run rows0 files) l).rows
true_after run rows0 [] m l apart rel there true_before = true_before
true_after run rows0 (file ∷ files) m l apart rel there true_before =
    let work = work_of run rows0 file in
    true_after run rows0 files (wrote run.to work m) (logged work l) apart rel.1 (there_after run.from run.to work.target work.plan m files apart rel.0 there.1)
    (true_step run m l file _ _ _ refl apart rel.0 there.0 true_before)

-- where a row is forgotten first, its target may hold anything
pub true_broken : (run : Run) (m : Contents) (rows rows' : Rows) (target : Text) (left : Option Text) → RootsApart run.from run.to → is_relative_path target ≡ true
    → fin.get rows' target ≡ None → ((q : Text) → q ≢ target → fin.get rows' q ≡ fin.get rows q)
    → TrueRows run m rows → TrueRows run (setting (full run.to target) left m) rows'
true_broken run m rows rows' target left apart rel gone others true_before t row now at here_rel here dig =
    elim (text_case t target) [
      | inl e ↦ absurd (let none : ◌≡◌ {A = Option Held} None (Some row) = sym gone ∙ ap (fin.get rows') (sym e) ∙ at in cc)
      | inr n ↦
          let was = true_before t row now (sym (others t n) ∙ at) here_rel (sym (get-setting-other (full run.to target) left m (full run.from row.source) (apart row.source target here_rel rel)) ∙ here) dig in
          record {
            sound = was.sound;
            held = get-setting-other (full run.to target) left m (full run.to t) (full_apart run.to t target n) ∙ was.held;
          }
    ]

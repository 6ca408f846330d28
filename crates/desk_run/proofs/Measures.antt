-- What was read of files, and what is done with each.
use Rattle.std.proofs.Common.{All, ◌≡◌, ◌≤◌, Bool, true, false, not, List, [], ◌∷◌, length, map, refl, sym, ap, ◌∙◌, subst, arith, cond, unwrap_or, Option, Some, Result, Ok, IsSome, ℕ}
use Rattle.std.specs.Prelude.{is_some}
use Rattle.std.specs.FinMap as fin
use Rattle.std.proofs.lemmas.List.Elements.{All-cons, All-head, All-nil, All-tail, All-weaker}
use Rattle.desk_base.specs.Limits.{file_size}
use Rattle.desk_base.specs.Names.{Text}
use Rattle.desk_base.specs.Paths.{full}
use Rattle.desk_batches.specs.Notes.{IsNoteOf, IsSound, most_of}
use Rattle.desk_readings.specs.Sizes.{large_size}
use Rattle.desk_readings.specs.Noting.{IsWithin}
use Rattle.desk_batches.specs.Turns.{plan_by, work_in, works_in}
use Rattle.desk_batches.specs.Works.{Keep, Plan, Work, fresh}
use Rattle.desk_readings.specs.declared.measured.MeasuredFile.{MeasuredFile}
use Rattle.desk_batches.specs.declared.planned.PlannedFile.{PlannedFile}
use Rattle.desk_file.proofs.Treating.{copies, whole_treated}
use Rattle.desk_file.specs.Images.{copied}
use Rattle.desk_file.specs.Linked.{image_in}
use Rattle.desk_file.specs.Routes.{IsRouteBy, route_of}
use Rattle.desk_file.specs.Treatments.{is_copy, treatment_of}
use Rattle.desk_file.specs.declared.images.Image.{Image}
use Rattle.desk_folders.specs.Contents.{Contents, File, bytes_at, files_below}
use Rattle.desk_ledger.specs.Digests.{digest}
use Rattle.desk_ledger.specs.Ledger.{Rows}
use Rattle.desk_report.specs.declared.lines.Reason.{Reason}
use Rattle.desk_rules.specs.Rules.{Rules}
use Rattle.desk_intake.proofs.There.{AllThere, files_there}
use Rattle.desk_run.specs.Notes.{IsRead, measured_in, measured_of, planned_by, action_by}
use Rattle.desk_intake.specs.Routes.{IsRelativeRoute}
use Rattle.desk_run.specs.Runs.{Run, is_kept}
use Rattle.desk_run.specs.Works.{work_of, works_of}

-- ---- files that are planned

size_fits : (size : ℕ) (kept copy found : Bool) → size ≤ cond copy large_size file_size → size ≤ most_of (action_by kept (not copy) found)
size_fits size true true found h = h
size_fits size true false found h = let small : file_size ≤ large_size = omega arith in omega (arith, h, small)
size_fits size false true found h = h
size_fits size false false found h = h

-- what is planned for a file that was read is sound
pub is_sound : (file : MeasuredFile) (planned : PlannedFile) (kept found : Bool) → IsRelativeRoute file.route → IsWithin file → measured_in planned ≡ file
    → planned.action ≡ action_by kept (not (is_copy file.route.treatment)) found → IsSound planned
is_sound file planned kept found relative within same action =
    let r : IsRelativeRoute planned.route = subst (λ (f : MeasuredFile). IsRelativeRoute f.route) (sym same) relative in
    record {
      path = r.path;
      target = r.target;
      size = subst (λ w. planned.size ≤ most_of w) (sym action)
          (subst (λ (f : MeasuredFile). f.size ≤ most_of (action_by kept (not (is_copy file.route.treatment)) found)) (sym same) (size_fits file.size kept (is_copy file.route.treatment) found within));
    }

-- what holds of what was read holds of what is planned
of_measured : (P : MeasuredFile → Type 0) (planned : List PlannedFile) → All P (map measured_in planned) → All (λ (one : PlannedFile). P (measured_in one)) planned
of_measured P [] h = All-nil (λ (one : PlannedFile). P (measured_in one))
of_measured P (one ∷ planned) h =
    All-cons (λ (n : PlannedFile). P (measured_in n)) one planned (All-head P (measured_in one) (map measured_in planned) h) (of_measured P planned (All-tail P (measured_in one) (map measured_in planned) h))

pub all_routed : (rules : Rules) (files : List MeasuredFile) (planned : List PlannedFile) → map measured_in planned ≡ files → All (IsRead rules) files → All (λ (one : PlannedFile). IsRouteBy rules one.route) planned
all_routed rules files planned e h =
    of_measured (λ (file : MeasuredFile). IsRouteBy rules file.route) planned
    (subst (All (λ (file : MeasuredFile). IsRouteBy rules file.route)) (sym e) (All-weaker (IsRead rules) (λ (file : MeasuredFile). IsRouteBy rules file.route) (λ (file : MeasuredFile) r. r.route) files h))

-- what was read of a file is true of it
pub record IsTrueOf (from : Text) (m : Contents) (file : MeasuredFile) : Type 0 where
  pub there : IsSome (fin.get m (full from file.route.path))
  pub size : file.size ≡ length (bytes_at m (full from file.route.path))
  pub digest : file.digest ≡ digest (bytes_at m (full from file.route.path))

true_files : (rules : Rules) (from : Text) (m : Contents) (files : List File) → AllThere from m files → All (IsTrueOf from m) (map (measured_of rules) files)
true_files rules from m [] h = All-nil (IsTrueOf from m)
true_files rules from m (file ∷ files) h =
    let here : bytes_at m (full from file.path) ≡ file.bytes = bytes_there from m file h.0.held in
    All-cons (IsTrueOf from m) (measured_of rules file) (map (measured_of rules) files) (record { there = subst IsSome (sym h.0.held) refl; size = ap length (sym here); digest = ap digest (sym here) })
    (true_files rules from m files h.1) where
      bytes_there : (from : Text) (m : Contents) (file : File) → fin.get m (full from file.path) ≡ Some file.bytes → bytes_at m (full from file.path) ≡ file.bytes
      bytes_there from m file e = ap (λ (o : Option Text). unwrap_or o []) e

-- what is planned for files that were read says the truth of them
pub all_notes : (rules : Rules) (from : Text) (m : Contents) (files : List MeasuredFile) (planned : List PlannedFile) → map measured_in planned ≡ files → files ≡ map (measured_of rules) (files_below from m) → All (IsNoteOf from m) planned
all_notes rules from m files planned e are =
    All-weaker (λ (one : PlannedFile). IsTrueOf from m (measured_in one)) (IsNoteOf from m) (λ (one : PlannedFile) t. record { there = t.there; size = t.size; digest = t.digest }) planned
    (of_measured (IsTrueOf from m) planned (subst (All (IsTrueOf from m)) (sym (e ∙ are)) (true_files rules from m (files_below from m) (files_there from m))))

-- ---- works

plan_same : (kept copy found : Bool) (bytes : Text) (fate : Result Image Reason) → (copy ≡ true → fate ≡ Ok (copied bytes)) → plan_by (action_by kept (not copy) found) bytes fate ≡ cond kept Keep (fresh found fate)
plan_same true true found bytes fate h = refl
plan_same true false found bytes fate h = refl
plan_same false false found bytes fate h = refl
plan_same false true found bytes fate h = ap (fresh found) (sym (h refl))

-- the work of one file, by what is planned for it
work_same : (run : Run) (rules : Rules) (defined : List Text) (rows : Rows) (m : Contents) (file : File) → run.image ≡ image_in rules defined → run.target file.path ≡ (route_of rules file.path).target
    → bytes_at m (full run.from file.path) ≡ file.bytes → work_in run.image run.from m (planned_by run.finds rows (measured_of rules file)) ≡ work_of run rows file
work_same run rules defined rows m file image goes here =
    ap (λ (bytes : Text). made bytes (run.image file.path bytes)) here ∙ ap (λ (plan : Plan). record { path = file.path; target = (route_of rules file.path).target; digest = digest file.bytes; plan = plan })
    (plan_same _ (is_copy (treatment_of rules file.path)) _ file.bytes (run.image file.path file.bytes) copy)
    ∙ ap (λ (target : Text). record {
      path = file.path;
      target = target;
      digest = digest file.bytes;
      plan = cond (is_kept (run.finds target) (fin.get rows target) file.path (digest file.bytes).0) Keep (fresh (is_some (fin.get rows target)) (run.image file.path file.bytes));
    }) (sym goes) where
      target : Text
      target = (route_of rules file.path).target

      made : Text → Result Image Reason → Work
      made bytes fate = record {
        path = file.path;
        target = target;
        digest = digest file.bytes;
        plan = plan_by (action_by (is_kept (run.finds target) (fin.get rows target) file.path (digest file.bytes).0) (not (is_copy (treatment_of rules file.path))) (is_some (fin.get rows target))) bytes fate;
      }

      copy : is_copy (treatment_of rules file.path) ≡ true → run.image file.path file.bytes ≡ Ok (copied file.bytes)
      copy e = ap (λ f. f file.path file.bytes) image ∙ copies rules defined file.path file.bytes (sym (whole_treated rules file.path) ∙ ap not e)

works_by : (run : Run) (rules : Rules) (defined : List Text) (rows : Rows) (m : Contents) (files : List File) → run.image ≡ image_in rules defined → ((path : Text) → run.target path ≡ (route_of rules path).target) → AllThere run.from m files
    → works_in run.image run.from m (map (planned_by run.finds rows) (map (measured_of rules) files)) ≡ works_of run rows files
works_by run rules defined rows m [] image goes h = refl
works_by run rules defined rows m (file ∷ files) image goes h =
    ap (λ (w : Work). w ∷ works_in run.image run.from m (map (planned_by run.finds rows) (map (measured_of rules) files))) (work_same run rules defined rows m file image (goes file.path) (ap (λ (o : Option Text). unwrap_or o []) h.0.held))
    ∙ ap (λ (ws : List Work). work_of run rows file ∷ ws) (works_by run rules defined rows m files image goes h.1)

-- the works by what is planned are those of the run
pub works_planned : (run : Run) (rules : Rules) (defined : List Text) (rows : Rows) (m : Contents) (files : List MeasuredFile) (planned : List PlannedFile) → run.image ≡ image_in rules defined → ((path : Text) → run.target path ≡ (route_of rules path).target)
    → planned ≡ map (planned_by run.finds rows) files → files ≡ map (measured_of rules) (files_below run.from m) → works_in run.image run.from m planned ≡ works_of run rows (files_below run.from m)
works_planned run rules defined rows m files planned image goes e are =
    ap (works_in run.image run.from m) (e ∙ ap (map (planned_by run.finds rows)) are) ∙ works_by run rules defined rows m (files_below run.from m) image goes (files_there run.from m)

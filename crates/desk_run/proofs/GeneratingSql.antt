-- The run over a generated application whose rows go into the ledger that is handed in.
use Rattle.std.proofs.Common.{arith, ◌≡◌, ◌≤◌, ◌⊎◌, ℕ, zero, suc, ◌+◌, Bool, true, false, ◌||◌, cond, List, [], ◌∷◌, ◌++◌, Option, Some, None, refl, sym, ap, ◌∙◌, subst, Result, Ok, Err}
use Rattle.std.specs.Prelude.{◌==◌, ◌&&◌, not, is_err, IfOk, IfErr, IfSome, IsOkAnd, if◌then◌else◌}
use Rattle.std.specs.List.{count_by, list_any}
use Rattle.std.specs.FinMap as fin
use Rattle.std.specs.FinMap.{get-empty}
use Rattle.std.proofs.lemmas.Bool.{eqb-true, or_parts}
use Rattle.std.proofs.lemmas.List.Sums.{sum_by-cons}
use Rattle.sha2.specs.Sha256.{sha256}
use Rattle.desk_base.specs.Counts.{Rose, Rose-later}
use Rattle.desk_base.specs.Names.{Text}
use Rattle.desk_batches.specs.declared.planned.PlannedFile.{PlannedFile}
use Rattle.desk_batches.specs.declared.planned.Outcome.{Outcome}
use Rattle.desk_file.specs.declared.images.Image.{Image}
use Rattle.desk_folders.specs.Contents.{Contents, File, files_below}
use Rattle.desk_ledger.specs.declared.keeper.Held.{Held}
use Rattle.desk_ledger.specs.Ledger.{Ledger, Rows}
use Rattle.desk_report.specs.declared.lines.Reason.{Reason}
use Rattle.desk_report.specs.declared.lines.Summary.{Summary}
use Rattle.desk_report.specs.declared.status.Status.{Status}
use Rattle.desk_report.specs.declared.status.Status.TheVariants.{Done, Refusals, Memory, FolderFault, LedgerFault, OutputFault, Usage, NestedRoots, BadRules, Limit, PathClash, NameClash, Stranded, OtherRun, Moved, NotInvertible, Differs}
use Rattle.desk_report.specs.Texts.{fault_text, summary_text}
use Rattle.desk_report.specs.Written.{WritesFront, writing}
use Rattle.desk_words.specs.declared.roots.Roots.{Roots}
use Rattle.desk_run.specs.Answers.{first_answer}
use Rattle.desk_run.specs.Clauses.{HoldsRows}
use Rattle.desk_run.specs.Endings.{HasCauses, IsWritten, StandsAfter, Tells, WhereTold, is_final}
use Rattle.desk_run.specs.Generated.{generated_contents, generated_roots}
use Rattle.desk_run.specs.GeneratedSql.{Completes, CompletesGenerated, CompletesWhole, GeneratesSql, HasRowOfEach, LeavesSql, StopsGenerated, TellsLedger, TellsResult, kept_status, kept_totals}
use Rattle.desk_run.specs.Meaning.{Meant, run_of_asked}
use Rattle.desk_run.specs.Asked.{Asked, asked_roots}
use Rattle.desk_run.specs.Reports.{ending, ending_by, summary_by, summary_of, was_refused}
use Rattle.desk_run.specs.Runs.{Run, is_kept, is_kept_file, is_refused, row_of, written_of}
use Rattle.desk_run.proofs.Answering.{if_some_map}
use Rattle.desk_run.proofs.Promised.{front_of_line, holds_rows, no_line, ok_and, ok_map, plain, remains_at}

-- ---- a run that has completed

abbrev is_positive : ℕ → Bool
is_positive zero = false
is_positive (suc n) = true

positive : (n : ℕ) → 1 ≤ n → is_positive n ≡ true
positive zero le = absurd (omega arith)
positive (suc n) le = refl

-- whether some pass is whether any is counted
any_counted : {X : Type 0} (p : X → Bool) (xs : List X) → list_any p xs ≡ is_positive (count_by p xs)
any_counted p [] = refl
any_counted p (x ∷ xs) = by (p x) refl (any_counted p xs) where
  cut : count_by p (x ∷ xs) ≡ cond (p x) 1 0 + count_by p xs
  cut = sum_by-cons (λ y. cond (p y) 1 0) x xs

  by : (b : Bool) → p x ≡ b → list_any p xs ≡ is_positive (count_by p xs) → list_any p (x ∷ xs) ≡ is_positive (count_by p (x ∷ xs))
  by true h more =
      let one : count_by p (x ∷ xs) ≡ 1 + count_by p xs = cut ∙ ap (λ b. cond b 1 0 + count_by p xs) h in
      ap (λ b. b || list_any p xs) h ∙ sym (positive _ (omega arith))
  by false h more =
      let same : count_by p (x ∷ xs) ≡ count_by p xs = cut ∙ ap (λ b. cond b 1 0 + count_by p xs) h ∙ omega arith in
      ap (λ b. b || list_any p xs) h ∙ more ∙ ap is_positive (sym same)

-- how a run ends is told by how many files are refused
ending_counted : (run : Run) (l0 : Ledger) (m0 : Contents) (outcomes : List Outcome) → summary_by outcomes ≡ summary_of run l0.rows (files_below run.from m0) → ending_by outcomes ≡ ending run l0.rows (files_below run.from m0)
ending_counted run l0 m0 outcomes e =
    let count : count_by was_refused outcomes ≡ count_by (is_refused run l0.rows) (files_below run.from m0) = ap (λ (s : Summary). s.refused) e in
    ap (λ b. if b then Refusals else Done) (any_counted was_refused outcomes ∙ ap is_positive count ∙ sym (any_counted (is_refused run l0.rows) (files_below run.from m0)))

pub written_completes : (asked : Asked) (m0 : Contents) (l0 : Ledger) (m : Contents) (l : Ledger) (planned : List PlannedFile) (outcomes : List Outcome) → IsWritten asked m0 l0 m l planned outcomes
    → Completes asked m0 l0 l (λ t. summary_by outcomes ≡ t)
written_completes asked m0 l0 m l planned outcomes w = record {
  run = ok_and (run_of_asked asked m0) w.done.run
      (λ (run : Run). HoldsRows run m0 l0 l × (first_answer asked m0 l0 ≡ ending run l0.rows (files_below run.from m0)) × (summary_by outcomes ≡ summary_of run l0.rows (files_below run.from m0)))
      w.done.ready.is (holds_rows w.done.run m0 l0 m l w.done.stands, sym w.ends ∙ ending_counted w.done.run l0 m0 outcomes w.totals, w.totals);
}

pub told_completes : (asked : Asked) (f f' : Option Contents) (k k' : Option Ledger) (planned : List PlannedFile) (outcomes : List Outcome) (totals : Summary)
    → WhereTold f k (λ m0 l0. Tells f' k' (λ m l. IsWritten asked m0 l0 m l planned outcomes)) → totals ≡ summary_by outcomes → WhereTold f k (λ m0 l0. TellsLedger k' (λ l. Completes asked m0 l0 l (λ t. totals ≡ t)))
told_completes asked f f' k k' planned outcomes totals w e = λ m0 l0 ef ek.
    let x = w m0 l0 ef ek in
    record { l = x.l; ledger = x.ledger; holds = subst (λ (s : Summary). Completes asked m0 l0 x.l (λ t. s ≡ t)) (sym e) (written_completes asked m0 l0 x.m x.l planned outcomes x.holds) }

-- ---- behind the line of a fault

completes_map : (n : ℕ) (l0 : Ledger) (k : Option Ledger) (P Q : Summary → Type 0) → ((totals : Summary) → P totals → Q totals) → CompletesGenerated n l0 k P → CompletesGenerated n l0 k Q
completes_map n l0 k P Q h c = record {
  l = c.l;
  ledger = c.ledger;
  holds = record {
    run = ok_map (run_of_asked (asked_roots generated_roots) (generated_contents n)) _ _ (λ run e. (e.0, h _ e.1)) c.holds.run;
    first = c.holds.first;
  };
}

pub sql_clause : (n : ℕ) (k0 k : Option Ledger) (a a' : ℕ) (old mid new : Option Text) (o o1 o2 : ℕ) (status : Status) → o ≤ o1 → o1 ≤ o2 → LeavesSql n k0 k a a' old mid o o1 status
    → (new ≡ writing (fault_text status) mid) ⊎ (WritesFront (fault_text status) mid new × Rose o1 o2) → GeneratesSql n k0 k a a' old new o o2 status
sql_clause n k0 k a a' old mid new o o1 o2 Done le later t w = if_some_map k0 _ _ (λ l0 h. completes_map n l0 k _ _ (λ totals e. no_line mid new o1 o2 w ∙ e) h) t
sql_clause n k0 k a a' old mid new o o1 o2 Refusals le later t w = absurd t.0
sql_clause n k0 k a a' old mid new o o1 o2 Memory le later t w = (t.0, plain (fault_text Memory) old mid new o o1 o2 le t.1 w)
sql_clause n k0 k a a' old mid new o o1 o2 (FolderFault done) le later t w = absurd t.0
sql_clause n k0 k a a' old mid new o o1 o2 (LedgerFault done) le later t w = (t.0, plain (fault_text (LedgerFault done)) old mid new o o1 o2 le t.1 w)
sql_clause n k0 k a a' old mid new o o1 o2 OutputFault le later t w = (Rose-later o o1 o2 t.0 later, if_some_map k0 _ _ (λ l0 h. completes_map n l0 k _ _ (λ totals e. record { mid = mid; report = e; fault = front_of_line (fault_text OutputFault) mid new o1 o2 w }) h) t.1)
sql_clause n k0 k a a' old mid new o o1 o2 Usage le later t w = absurd t.0
sql_clause n k0 k a a' old mid new o o1 o2 (NestedRoots first second) le later t w = absurd t.0
sql_clause n k0 k a a' old mid new o o1 o2 (BadRules fault) le later t w = absurd t.0
sql_clause n k0 k a a' old mid new o o1 o2 (OtherRun kept wanted) le later t w = (t.0, plain (fault_text (OtherRun kept wanted)) old mid new o o1 o2 le t.1 w)
sql_clause n k0 k a a' old mid new o o1 o2 (Limit kind path) le later t w = absurd t.0
sql_clause n k0 k a a' old mid new o o1 o2 (PathClash first second) le later t w = absurd t.0
sql_clause n k0 k a a' old mid new o o1 o2 (NameClash defined other image) le later t w = absurd t.0
sql_clause n k0 k a a' old mid new o o1 o2 (Stranded path held) le later t w = absurd t.0
sql_clause n k0 k a a' old mid new o o1 o2 (Moved path one other) le later t w = absurd t.0
sql_clause n k0 k a a' old mid new o o1 o2 (NotInvertible fault) le later t w = absurd t.0
sql_clause n k0 k a a' old mid new o o1 o2 (Differs path) le later t w = absurd t.0

-- ---- how it ends before its totals

if_some_told : {X : Type 0} (o : Option X) (P : X → Type 0) → ((x : X) → o ≡ Some x → P x) → IfSome o P
if_some_told None P h = tt
if_some_told (Some x) P h = h x refl

stops_told : (n : ℕ) (k0 k : Option Ledger) (f0 f1 : Option Contents) (a a' b b' : ℕ) (s : Status) → f0 ≡ Some (generated_contents n)
    → WhereTold f0 k0 (λ m0 l0. Tells f1 k (λ m l. StandsAfter (asked_roots generated_roots) m0 l0 m l s))
    → WhereTold f0 k0 (λ m l. is_final s ≡ true → s ≡ first_answer (asked_roots generated_roots) m l)
    → HasCauses (asked_roots generated_roots) f0 s a a' b b' 0 0 → StopsGenerated n k0 k b b' (kept_status s)
stops_told n k0 k f0 f1 a a' b b' Done ef stands answers causes = tt
stops_told n k0 k f0 f1 a a' b b' Refusals ef stands answers causes = tt
stops_told n k0 k f0 f1 a a' b b' Memory ef stands answers causes = tt
stops_told n k0 k f0 f1 a a' b b' (FolderFault done) ef stands answers causes = tt
stops_told n k0 k f0 f1 a a' b b' (LedgerFault done) ef stands answers causes = (
  causes,
  if_some_told k0 _ (λ l0 e.
      let t = stands (generated_contents n) l0 ef e in
      record { l = t.l; ledger = t.ledger; holds = record { m = t.m; remains = remains_at (asked_roots generated_roots) (generated_contents n) l0 t.m t.l done t.holds } }),
)
stops_told n k0 k f0 f1 a a' b b' OutputFault ef stands answers causes = tt
stops_told n k0 k f0 f1 a a' b b' Usage ef stands answers causes = tt
stops_told n k0 k f0 f1 a a' b b' (NestedRoots first second) ef stands answers causes = tt
stops_told n k0 k f0 f1 a a' b b' (BadRules fault) ef stands answers causes = tt
stops_told n k0 k f0 f1 a a' b b' (OtherRun kept wanted) ef stands answers causes = if_some_told k0 _ (λ l0 e.
    let t = stands (generated_contents n) l0 ef e in
    (t.ledger ∙ ap Some t.holds.ledger ∙ sym e, sym (answers (generated_contents n) l0 ef e refl)))
stops_told n k0 k f0 f1 a a' b b' (Limit kind path) ef stands answers causes = tt
stops_told n k0 k f0 f1 a a' b b' (PathClash first second) ef stands answers causes = tt
stops_told n k0 k f0 f1 a a' b b' (NameClash defined other image) ef stands answers causes = tt
stops_told n k0 k f0 f1 a a' b b' (Stranded path held) ef stands answers causes = tt
stops_told n k0 k f0 f1 a a' b b' (Moved path one other) ef stands answers causes = tt
stops_told n k0 k f0 f1 a a' b b' (NotInvertible fault) ef stands answers causes = tt
stops_told n k0 k f0 f1 a a' b b' (Differs path) ef stands answers causes = tt

stops_kept : (n : ℕ) (roots : Roots) (k0 k : Option Ledger) (f0 f1 : Option Contents) (a a' b b' : ℕ) (s : Status) → roots ≡ generated_roots → f0 ≡ Some (generated_contents n)
    → WhereTold f0 k0 (λ m0 l0. Tells f1 k (λ m l. StandsAfter (asked_roots roots) m0 l0 m l s))
    → WhereTold f0 k0 (λ m l. is_final s ≡ true → s ≡ first_answer (asked_roots roots) m l)
    → HasCauses (asked_roots roots) f0 s a a' b b' 0 0 → StopsGenerated n k0 k b b' (kept_status s)
stops_kept n roots k0 k f0 f1 a a' b b' s er ef stands first causes =
    stops_told n k0 k f0 f1 a a' b b' s ef
    (let P : Roots → Type 0 = λ r. WhereTold f0 k0 (λ m0 l0. Tells f1 k (λ m l. StandsAfter (asked_roots r) m0 l0 m l s)) in subst P er stands)
    (let P : Roots → Type 0 = λ r. WhereTold f0 k0 (λ m l. is_final s ≡ true → s ≡ first_answer (asked_roots r) m l) in subst P er first)
    (let P : Roots → Type 0 = λ r. HasCauses (asked_roots r) f0 s a a' b b' 0 0 in subst P er causes)

-- ---- and with its totals

no_row : (rows : Rows) (target : Text) → rows ≡ fin.empty → fin.get rows target ≡ None
no_row rows target e = ap (λ (r : Rows). fin.get r target) e ∙ get-empty _ target

-- where none of a list passes, none within it does
passes_none : {X : Type 0} (p : X → Bool) (before : List X) (x : X) (rest : List X) → list_any p (before ++ x ∷ rest) ≡ false → p x ≡ false
passes_none p [] x rest e = (or_parts (p x) (list_any p rest) e).0
passes_none p (y ∷ before) x rest e = passes_none p before x rest (or_parts (p y) (list_any p (before ++ x ∷ rest)) e).1

-- a ledger without rows keeps no file
none_kept : (run : Run) (rows : Rows) (file : File) → rows ≡ fin.empty → is_kept_file run rows file ≡ false
none_kept run rows file e = ap (λ (o : Option Held). is_kept (run.finds (run.target file.path)) o file.path (sha256 file.bytes)) (no_row rows (run.target file.path) e)

accepted_row : (run : Run) (l0 l : Ledger) (file : File) (image : Result Image Reason) → l0.rows ≡ fin.empty → (not (is_kept_file run l0.rows file) && is_err image) ≡ false
    → ((written : Image) → image ≡ Ok written → fin.get l.rows (run.target file.path) ≡ row_of run l0.rows file written) → IsOkAnd image (λ image. fin.get l.rows (run.target file.path) ≡ Some (written_of file image))
accepted_row run l0 l file (Ok image) none ok row =
    row image refl ∙ ap (λ b. cond b (fin.get l0.rows (run.target file.path)) (Some (written_of file image))) (none_kept run l0.rows file none)
accepted_row run l0 l file (Err reason) none ok row =
    let e : true ≡ false = sym (ap (λ b. not b && true) (none_kept run l0.rows file none)) ∙ ok in
    cc

row_of_each : (run : Run) (m0 : Contents) (l0 l : Ledger) → HoldsRows run m0 l0 l → list_any (is_refused run l0.rows) (files_below run.from m0) ≡ false → l0.rows ≡ fin.empty → HasRowOfEach run m0 l
row_of_each run m0 l0 l rows none empty = record {
  each = λ before rest file e.
      accepted_row run l0 l file (run.image file.path file.bytes) empty (passes_none (is_refused run l0.rows) before file rest (ap (list_any (is_refused run l0.rows)) (sym e) ∙ none))
      (λ image is. rows.rows before rest file image e is);
  others = λ target off. rows.others target (λ before rest file e fresh. off before rest file e) ∙ no_row l0.rows target empty;
}

whole_of : (asked : Asked) (m0 : Contents) (l0 l : Ledger) (totals : Summary) → totals.refused ≡ 0 → Completes asked m0 l0 l (λ t. totals ≡ t) → CompletesWhole asked m0 l0 l (λ t. totals ≡ t)
whole_of asked m0 l0 l totals none c = record {
  run = ok_map (run_of_asked asked m0) _ _ (λ run h. ((h.0, row_of_each run m0 l0 l h.0 (all_accepted run h.2)), h.2)) c.run;
  first = by (run_of_asked asked m0) c.run;
} where
  all_accepted : (run : Run) → totals ≡ summary_of run l0.rows (files_below run.from m0) → list_any (is_refused run l0.rows) (files_below run.from m0) ≡ false
  all_accepted run e =
      let count : count_by (is_refused run l0.rows) (files_below run.from m0) ≡ totals.refused = sym (ap (λ (s : Summary). s.refused) e) in
      any_counted (is_refused run l0.rows) (files_below run.from m0) ∙ ap is_positive (count ∙ none)

  by : (r : Meant) → IsOkAnd r (λ run. HoldsRows run m0 l0 l × (first_answer asked m0 l0 ≡ ending run l0.rows (files_below run.from m0)) × (totals ≡ summary_of run l0.rows (files_below run.from m0)))
      → first_answer asked m0 l0 ≡ Done
  by (Ok run) h = h.1 ∙ ap (λ b. if b then Refusals else Done) (all_accepted run h.2)
  by (Err answer) h = absurd h

completes_kept : (n : ℕ) (roots : Roots) (k0 k : Option Ledger) (f0 : Option Contents) (totals : Summary) → roots ≡ generated_roots → f0 ≡ Some (generated_contents n) → totals.refused ≡ 0
    → WhereTold f0 k0 (λ m0 l0. TellsLedger k (λ l. Completes (asked_roots roots) m0 l0 l (λ t. totals ≡ t))) → IfSome k0 (λ l0. CompletesGenerated n l0 k (λ t. totals ≡ t))
completes_kept n roots k0 k f0 totals er ef none h =
    let P : Roots → Type 0 = λ r. WhereTold f0 k0 (λ m0 l0. TellsLedger k (λ l. Completes (asked_roots r) m0 l0 l (λ t. totals ≡ t))) in
    if_some_told k0 (λ l0. CompletesGenerated n l0 k (λ t. totals ≡ t)) (λ l0 e.
    let t = subst P er h (generated_contents n) l0 ef e in
    record { l = t.l; ledger = t.ledger; holds = whole_of (asked_roots generated_roots) (generated_contents n) l0 t.l totals none t.holds })

pub totals_complete : (n : ℕ) (roots : Roots) (k0 k : Option Ledger) (f0 : Option Contents) (r : Result Summary Status) → roots ≡ generated_roots → f0 ≡ Some (generated_contents n)
    → IfOk r (λ totals. WhereTold f0 k0 (λ m0 l0. TellsLedger k (λ l. Completes (asked_roots roots) m0 l0 l (λ t. totals ≡ t))))
    → IfOk (kept_totals r) (λ totals. IfSome k0 (λ l0. CompletesGenerated n l0 k (λ t. totals ≡ t)))
totals_complete n roots k0 k f0 (Err status) er ef h = tt
totals_complete n roots k0 k f0 (Ok totals) er ef h = by (totals.refused == 0) refl where
  by : (b : Bool) → (totals.refused == 0) ≡ b → IfOk (cond b (Ok totals) (Err Memory)) (λ totals. IfSome k0 (λ l0. CompletesGenerated n l0 k (λ t. totals ≡ t)))
  by true e = completes_kept n roots k0 k f0 totals er ef (eqb-true totals.refused 0 e) h
  by false e = tt

pub totals_stop : (n : ℕ) (roots : Roots) (k0 k : Option Ledger) (f0 f1 : Option Contents) (a a' b b' : ℕ) (r : Result Summary Status) → roots ≡ generated_roots → f0 ≡ Some (generated_contents n)
    → IfErr r (λ s. WhereTold f0 k0 (λ m0 l0. Tells f1 k (λ m l. StandsAfter (asked_roots roots) m0 l0 m l s)))
    → IfErr r (λ s. WhereTold f0 k0 (λ m l. is_final s ≡ true → s ≡ first_answer (asked_roots roots) m l))
    → IfErr r (λ s. HasCauses (asked_roots roots) f0 s a a' b b' 0 0) → IfErr (kept_totals r) (StopsGenerated n k0 k b b')
totals_stop n roots k0 k f0 f1 a a' b b' (Err status) er ef stands first causes = stops_kept n roots k0 k f0 f1 a a' b b' status er ef stands first causes
totals_stop n roots k0 k f0 f1 a a' b b' (Ok totals) er ef stands first causes = by (totals.refused == 0) where
  by : (whole : Bool) → IfErr (cond whole (Ok totals) (Err Memory)) (StopsGenerated n k0 k b b')
  by true = tt
  by false = tt

-- ---- and writes them

result_stopped : (n : ℕ) (k0 k : Option Ledger) (a a' : ℕ) (stop status : Status) (old new : Option Text) (o o' : ℕ) → StopsGenerated n k0 k a a' stop → (status ≡ stop) × (new ≡ old) → LeavesSql n k0 k a a' old new o o' status
result_stopped n k0 k a a' stop status old new o o' h e = let P : Status → Type 0 = λ s. LeavesSql n k0 k a a' old new o o' s in subst P (sym e.0) (by stop h) where
  by : (stop : Status) → StopsGenerated n k0 k a a' stop → LeavesSql n k0 k a a' old new o o' stop
  by Done h = absurd h
  by Refusals h = absurd h
  by Memory h = (h, e.1)
  by (FolderFault done) h = absurd h
  by (LedgerFault done) h = (h, e.1)
  by OutputFault h = absurd h
  by Usage h = absurd h
  by (NestedRoots first second) h = absurd h
  by (BadRules fault) h = absurd h
  by (OtherRun kept wanted) h = (h, e.1)
  by (Limit kind path) h = absurd h
  by (PathClash first second) h = absurd h
  by (NameClash defined other image) h = absurd h
  by (Stranded path held) h = absurd h
  by (Moved path one other) h = absurd h
  by (NotInvertible fault) h = absurd h
  by (Differs path) h = absurd h

pub result_tells : (n : ℕ) (k0 k : Option Ledger) (a a' : ℕ) (totals : Result Summary Status) (status : Status) (old new : Option Text) (o o' : ℕ)
    → IfOk totals (λ totals. IfSome k0 (λ l0. CompletesGenerated n l0 k (λ t. totals ≡ t))) → IfErr totals (StopsGenerated n k0 k a a') → TellsResult totals old new o o' status → LeavesSql n k0 k a a' old new o o' status
result_tells n k0 k a a' (Err stop) status old new o o' h g t = result_stopped n k0 k a a' stop status old new o o' g t
result_tells n k0 k a a' (Ok totals) Done old new o o' h g t = if_some_map k0 _ _ (λ l0 c. completes_map n l0 k _ _ (λ x e. t ∙ ap (λ (y : Summary). writing (summary_text y) old) e) c) h
result_tells n k0 k a a' (Ok totals) Refusals old new o o' h g t = absurd t
result_tells n k0 k a a' (Ok totals) Memory old new o o' h g t = absurd t
result_tells n k0 k a a' (Ok totals) (FolderFault done) old new o o' h g t = absurd t
result_tells n k0 k a a' (Ok totals) (LedgerFault done) old new o o' h g t = absurd t
result_tells n k0 k a a' (Ok totals) OutputFault old new o o' h g t = (t.0, if_some_map k0 _ _ (λ l0 c. completes_map n l0 k _ _ (λ x e. subst (λ (y : Summary). WritesFront (summary_text y) old new) e t.1) c) h)
result_tells n k0 k a a' (Ok totals) Usage old new o o' h g t = absurd t
result_tells n k0 k a a' (Ok totals) (NestedRoots first second) old new o o' h g t = absurd t
result_tells n k0 k a a' (Ok totals) (BadRules fault) old new o o' h g t = absurd t
result_tells n k0 k a a' (Ok totals) (OtherRun kept wanted) old new o o' h g t = absurd t
result_tells n k0 k a a' (Ok totals) (Limit kind path) old new o o' h g t = absurd t
result_tells n k0 k a a' (Ok totals) (PathClash first second) old new o o' h g t = absurd t
result_tells n k0 k a a' (Ok totals) (NameClash defined other image) old new o o' h g t = absurd t
result_tells n k0 k a a' (Ok totals) (Stranded path held) old new o o' h g t = absurd t
result_tells n k0 k a a' (Ok totals) (Moved path one other) old new o o' h g t = absurd t
result_tells n k0 k a a' (Ok totals) (NotInvertible fault) old new o o' h g t = absurd t
result_tells n k0 k a a' (Ok totals) (Differs path) old new o o' h g t = absurd t

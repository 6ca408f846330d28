-- Fronts of what is to be written.
use Rattle.std.proofs.Common.{◌≡◌, ◌<◌, ℕ, suc, subst, List, [], ◌∷◌, ◌++◌, Option, refl, sym, ap, ◌∙◌, take, drop, length, get_or, append_assoc, append-nil, map, map-id, arith}
use Rattle.desk_base.specs.Names.{Text}
use Rattle.desk_readings.proofs.Fronts.{split_at}
use Rattle.desk_batches.specs.declared.planned.PlannedFile.{PlannedFile}
use Rattle.desk_batches.specs.declared.planned.Outcome.{Outcome}
use Rattle.desk_batches.specs.declared.planned.Outcome.TheVariants.{Kept}
use Rattle.desk_report.specs.declared.lines.Summary.{Summary}
use Rattle.desk_report.specs.Texts.{summary_text}
use Rattle.desk_report.specs.Pieces.{Gathers}
use Rattle.desk_report.specs.Written.{WritesFront}
use Rattle.desk_report.proofs.Gathering.{Gathers-grows, WritesFront-stops}
use Rattle.desk_run.specs.Reports.{lines_of, outcome_line, report_by, summary_by}

-- the outcome of a file at a place
abbrev pub outcome_at : List Outcome → ℕ → Outcome
outcome_at outcomes place = get_or outcomes place Kept

-- the lines of files, at one of them
lines_split : (gone : List PlannedFile) (file : PlannedFile) (rest : List PlannedFile) (outcomes : List Outcome) → length gone < length outcomes
    → lines_of (gone ++ file ∷ rest) outcomes ≡ lines_of gone outcomes ++ (outcome_line file.route.path file.route.target (outcome_at outcomes (length gone)) ++ lines_of rest (drop (suc (length gone)) outcomes))
lines_split [] file rest [] lt = absurd (omega arith)
lines_split [] file rest (first ∷ outcomes) lt = refl
lines_split (x ∷ gone) file rest [] lt = absurd (omega arith)
lines_split (x ∷ gone) file rest (first ∷ outcomes) lt =
    ap (λ t. outcome_line x.route.path x.route.target first ++ t) (lines_split gone file rest outcomes (omega arith))
    ∙ sym (append_assoc (outcome_line x.route.path x.route.target first) (lines_of gone outcomes)
    (outcome_line file.route.path file.route.target (outcome_at outcomes (length gone)) ++ lines_of rest (drop (suc (length gone)) outcomes)))

-- one line more
pub line_more : (gone : List PlannedFile) (file : PlannedFile) (outcomes : List Outcome) (place : ℕ) (w v u : Text) (o p q : Option Text) → place ≡ length gone → length gone < length outcomes → Gathers (lines_of gone outcomes) w v o p
    → Gathers (outcome_line file.route.path file.route.target (outcome_at outcomes place)) v u p q → Gathers (lines_of (gone ++ file ∷ []) outcomes) w u o q
line_more gone file outcomes place w v u o p q at lt g h =
    let line = outcome_line file.route.path file.route.target (outcome_at outcomes (length gone)) in
    Gathers-grows (lines_of (gone ++ file ∷ []) outcomes) (lines_of gone outcomes) line w v u o p q
    (lines_split gone file [] outcomes lt ∙ ap (λ t. lines_of gone outcomes ++ t) (append-nil line)) g
    (subst (λ n. Gathers (outcome_line file.route.path file.route.target (outcome_at outcomes n)) v u p q) at h)

-- the line of a file in the report
pub line_front : (planned gone : List PlannedFile) (file : PlannedFile) (outcomes : List Outcome) (place : ℕ) (w v : Text) (o p q : Option Text) → map (λ x. x) gone ≡ take (length gone) planned → length gone < length planned
    → file ≡ get_or planned (length gone) file → place ≡ length gone → length planned ≡ length outcomes → Gathers (lines_of gone outcomes) w v o p
    → WritesFront (v ++ outcome_line file.route.path file.route.target (outcome_at outcomes place)) p q → WritesFront (w ++ report_by planned outcomes) o q
line_front planned gone file outcomes place w v o p q e lt is at same g f =
    let rest = drop (suc (length gone)) planned in
    let more = lines_of rest (drop (suc (length gone)) outcomes) in
    let line = outcome_line file.route.path file.route.target (outcome_at outcomes (length gone)) in
    let total = summary_text (summary_by outcomes) in
    let whole : planned ≡ gone ++ file ∷ rest = split_at planned (length gone) file lt is ∙ ap (λ (xs : List PlannedFile). xs ++ file ∷ rest) (sym e ∙ map-id gone) in
    WritesFront-stops (report_by planned outcomes) (lines_of gone outcomes) line (more ++ total) w v o p q
    (ap (λ (xs : List PlannedFile). lines_of xs outcomes ++ total) whole
    ∙ ap (λ t. t ++ total) (lines_split gone file rest outcomes (subst (λ n. length gone < n) same lt))
    ∙ append_assoc (lines_of gone outcomes) (line ++ more) total
    ∙ ap (λ t. lines_of gone outcomes ++ t) (append_assoc line more total))
    g
    (subst (λ n. WritesFront (v ++ outcome_line file.route.path file.route.target (outcome_at outcomes n)) p q) at f)

-- behind all lines stand the totals
report_split : (planned gone : List PlannedFile) (outcomes : List Outcome) (summary : Summary) → map (λ x. x) gone ≡ planned → summary ≡ summary_by outcomes → report_by planned outcomes ≡ lines_of gone outcomes ++ summary_text summary
report_split planned gone outcomes summary e same =
    ap (λ (xs : List PlannedFile). lines_of xs outcomes ++ summary_text (summary_by outcomes)) (sym e ∙ map-id gone) ∙ ap (λ (s : Summary). lines_of gone outcomes ++ summary_text s) (sym same)

pub report_gathered : (planned gone : List PlannedFile) (outcomes : List Outcome) (summary : Summary) (w v u : Text) (o p q : Option Text) → map (λ x. x) gone ≡ planned → summary ≡ summary_by outcomes → Gathers (lines_of gone outcomes) w v o p
    → Gathers (summary_text summary) v u p q → Gathers (report_by planned outcomes) w u o q
report_gathered planned gone outcomes summary w v u o p q e same g h =
    Gathers-grows (report_by planned outcomes) (lines_of gone outcomes) (summary_text summary) w v u o p q (report_split planned gone outcomes summary e same) g h

-- the totals failed
pub totals_front : (planned gone : List PlannedFile) (outcomes : List Outcome) (summary : Summary) (w v : Text) (o p q : Option Text) → map (λ x. x) gone ≡ planned → summary ≡ summary_by outcomes → Gathers (lines_of gone outcomes) w v o p
    → WritesFront (v ++ summary_text summary) p q → WritesFront (w ++ report_by planned outcomes) o q
totals_front planned gone outcomes summary w v o p q e same g f =
    WritesFront-stops (report_by planned outcomes) (lines_of gone outcomes) (summary_text summary) [] w v o p q
    (report_split planned gone outcomes summary e same ∙ ap (λ t. lines_of gone outcomes ++ t) (sym (append-nil (summary_text summary)))) g f

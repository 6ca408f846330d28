-- What the statements that remove the row of a target and ask for it do.
use Rattle.std.proofs.Common.{◌≡◌, inl, inr, ℕ, List, [], ◌∷◌, map, filter, true, arith, Some, None, Ok, refl, sym, ap, subst, ◌∙◌, Option}
use Rattle.std.specs.Prelude.{option_map}
use Rattle.std.proofs.lemmas.Bool.{cases_Bool}
use Rattle.std.proofs.lemmas.List.Sorted.{IsPermutation-sym}
use Rattle.std.specs.List.{AllByRecursion}
use Rattle.std.specs.List.Sorted.{IsPermutation}
use Rattle.std.specs.FinMap as fin
use Rattle.sqlite.specs.declared.types.Value.TheVariants.{Blob}
use Rattle.sqlite.specs.Order.{Row}
use Rattle.sqlite.specs.Tree.{Trees, rowid, IsTable}
use Rattle.sqlite.specs.Term.{col}
use Rattle.sqlite.specs.Command.TheVariants.{Delete}
use Rattle.sqlite_schema.specs.declared.schema.Keys.TheVariants.{Enforced}
use Rattle.sqlite.specs.Rowids.TheVariants.{Given}
use Rattle.sqlite_rules.specs.Calls.{ids_of}
use Rattle.sqlite_rules.proofs.ListLemmas.{all_has, has_filtered, has_kept}
use Rattle.sqlite_rules.proofs.ProbeLemmas.{has_mapped, mapped_has}
use Rattle.sqlite.specs.Edit.{edit_of, without_all}
use Rattle.sqlite.specs.Effect.{Database}
use Rattle.sqlite.specs.Does.{Tally, Does}
use Rattle.sqlite.specs.Rows.{Written, Deletes}
use Rattle.sqlite.specs.Listing.{understood}
use Rattle.sqlite.specs.State.{State, mode_of, Executes, Shown}
use Rattle.sqlite.proofs.Callers.{one_step, one_permutation, statement_of, runs_as, reads_as}
use Rattle.desk_base.specs.Names.{Text}
use Rattle.desk_base.proofs.TextEntries.{get_text}
use Rattle.desk_ledger.specs.Ledger.{row_at, without_row}
use Rattle.desk_ledger_tables.specs.declared.statements.Statement.TheVariants.{FindRow, ForgetRow}
use Rattle.desk_ledger_tables.specs.Rows.{shown_row}
use Rattle.desk_ledger_tables.specs.Statements.{Means, has_target, program_of, shown_columns}
use Rattle.desk_ledger_tables.specs.Tables.{ledger_schema}
use Rattle.desk_ledger_tables.proofs.Meanings.{command_found}
use Rattle.desk_ledger_sql.specs.Told.{IsRow, IsLedger, Shows, entry_in, held_in_row, ledger_in, meets, target_column, target_in}
use Rattle.desk_ledger_sql.proofs.Statements.{went, same_value, written_at}
use Rattle.desk_ledger_sql.proofs.Changes.{task_on, KeepsOthers}
use Rattle.desk_ledger_sql.proofs.Shown.{and_true, passes, shows, answered, equal_blob, no_image, no_permutation, one_image}
use Rattle.desk_ledger_sql.proofs.Rows.{Marks, at_target, has_permuted, removed, table_left, all_left, left_apart, one_text}
use Rattle.desk_ledger_sql.proofs.Puts.{rows_at}

-- the test of both statements is whether the row has the target
passes_is : (t : Text) (r : Row) → IsRow r → passes (has_target ∷ []) (Blob t ∷ []) r ≡ meets t r
passes_is t r is = and_true _ ∙ equal_blob (target_column r) t is.1

-- ---- the row of a target is removed

module _ (limit : Option ℕ) (db : Trees) (t : Text) (table : IsTable (db 1)) (are : AllByRecursion IsRow (db 1)) (w : Written) where
  deletes : Deletes (task_on limit rows_at (Blob t ∷ [])) (program_of 1 (has_target ∷ []) (col 1 0 ∷ [])) db (Ok w)
      → (found : List Row) × Marks t (db 1) found × (w.trees 1 ≡ without_all (db 1) (ids_of found)) × KeepsOthers rows_at db w.trees
  deletes h =
      let asked = went h in
      let gone = went asked.2 in
      let edit = edit_of db rows_at (ids_of asked.0) Given 0 [] in
      let it = one_step ledger_schema Enforced db gone.0 edit refl gone.1 in
      let is : w.trees ≡ gone.0 = ap (λ (x : Written). x.trees) (same_value gone.2) in
      let perm = answered 1 (has_target ∷ []) (col 1 0 ∷ []) (Blob t ∷ []) db asked.0 refl asked.1.answer in
      let test = passes (has_target ∷ []) (Blob t ∷ []) in
      let show = shows (col 1 0 ∷ []) (Blob t ∷ []) in (
        asked.0,
        record {
          sound = λ x h. let m = has_mapped show (filter test (db 1)) x (has_permuted _ _ perm x h) in let r = has_filtered test (db 1) m.0 m.1 in (m.0, r.0, sym (passes_is t m.0 (all_has IsRow (db 1) m.0 are r.0)) ∙ r.1, m.2);
          complete = λ r h met. has_permuted _ _ (IsPermutation-sym _ _ perm) (rowid r ∷ []) (mapped_has show (filter test (db 1)) r (has_kept test (db 1) r h (passes_is t r (all_has IsRow (db 1) r are h) ∙ met)));
        },
        ap (λ (d : Trees). d 1) is ∙ it.rows,
        subst (KeepsOthers rows_at db) (sym is) it.tables,
      )

-- the row of a target is taken out
pub forgets_row : (text : List ℕ) → Means ForgetRow text → (old new : State) (t : Text) (count : ℕ) → IsLedger old → Executes text (Blob t ∷ []) old new (Ok count)
    → IsLedger new × (ledger_in new.now.trees ≡ without_row t (ledger_in old.now.trees))
forgets_row text m old new t count ledger h =
    let has = ledger.at.schema_is in
    let params = Blob t ∷ [] in
    let command = Delete 1 (program_of 1 (has_target ∷ []) (col 1 0 ∷ [])) in
    let w = runs_as text params old new ledger_schema has command (command_found ForgetRow text m) m.plain count h in
    let statement = statement_of text (understood ledger_schema text) in
    let done = went (subst (λ s. Does old.step_limit (mode_of old) params (record old.now { schema = s }) statement None command (Ok (w.tally, new.now))) has w.changed) in
    let now = ap (λ (p : Tally × Database). p.1) (same_value (went (went done.2).2).2) in
    let trees = ap (λ (d : Database). d.trees) now in
    let gone = deletes old.step_limit old.now.trees t ledger.table ledger.rows done.0 done.1 in
    let rows = old.now.trees 1 in
    let is : new.now.trees 1 ≡ without_all rows (ids_of gone.0) = ap (λ (d : Trees). d 1) trees ∙ gone.2 in
    let header : new.now.trees 0 ≡ old.now.trees 0 = ap (λ (d : Trees). d 0) trees ∙ gone.3.0 (λ e. absurd (omega (arith, e))) in (
      record {
        at = written_at ledger_schema old new command statement params count ledger.at.autocommit w (ap (λ (d : Database). d.schema) now);
        table = rw is (table_left (ids_of gone.0) rows ledger.table);
        rows = rw is (all_left IsRow (ids_of gone.0) rows ledger.rows);
        apart = rw is (left_apart (ids_of gone.0) rows ledger.apart);
        header = rw header ledger.header;
      },
      rw (is, header, removed t rows gone.0 ledger.table ledger.rows gone.1),
    )

-- ---- the row of a target is asked for

filter_hit : (t : Text) (rows : List Row) → AllByRecursion IsRow rows → (r : Row) → filter (passes (has_target ∷ []) (Blob t ∷ [])) rows ≡ r ∷ []
    → (at_target rows t ≡ Some (held_in_row r)) × (meets t r ≡ true)
filter_hit t [] are r h = absurd cc
filter_hit t (x ∷ rows) are r h = elim (cases_Bool (passes (has_target ∷ []) (Blob t ∷ []) x)) [
  | inl hit ↦
      let same : x ≡ r = (let both = rw hit at h in cc) in
      let met : meets t x ≡ true = sym (passes_is t x are.0) ∙ hit in
      (rw met (ap (λ y. Some (held_in_row y)) same), rw (← same) met)
  | inr other ↦
      let later = filter_hit t rows are.1 r (rw other at h) in
      (rw (sym (passes_is t x are.0) ∙ other) later.0, later.1)
]

filter_miss : (t : Text) (rows : List Row) → AllByRecursion IsRow rows → filter (passes (has_target ∷ []) (Blob t ∷ [])) rows ≡ [] → at_target rows t ≡ None
filter_miss t [] are h = refl
filter_miss t (x ∷ rows) are h = elim (cases_Bool (passes (has_target ∷ []) (Blob t ∷ []) x)) [
  | inl hit ↦ absurd (let both = rw hit at h in cc)
  | inr other ↦ rw (sym (passes_is t x are.0) ∙ other) (filter_miss t rows are.1 (rw other at h))
]

-- the rows that the query shows
pub finds_row : (text : List ℕ) → Means FindRow text → (old new : State) (t : Text) (rows : List Row) → IsLedger old → Shown text (Blob t ∷ []) old new rows
    → Shows shown_row (option_map (row_at t) (fin.get (ledger_in old.now.trees).rows t)) rows
finds_row text m old new t rows ledger h =
    let a = reads_as text (Blob t ∷ []) old new ledger_schema ledger.at.schema_is _ (command_found FindRow text m) m.plain m.unlisted rows h in
    let perm = answered 1 (has_target ∷ []) shown_columns (Blob t ∷ []) old.now.trees rows refl a.answer in
    go rows perm
  where
    go : (rows : List Row) → IsPermutation (map (shows shown_columns (Blob t ∷ [])) (filter (passes (has_target ∷ []) (Blob t ∷ [])) (old.now.trees 1))) rows
        → Shows shown_row (option_map (row_at t) (fin.get (ledger_in old.now.trees).rows t)) rows
    go [] perm = ap (option_map (row_at t)) (get_text (map entry_in (old.now.trees 1)) t ∙ filter_miss t (old.now.trees 1) ledger.rows (no_image _ _ (no_permutation _ perm)))
    go (x ∷ []) perm =
        let one = one_image (shows shown_columns (Blob t ∷ [])) (filter (passes (has_target ∷ []) (Blob t ∷ [])) (old.now.trees 1)) x (one_permutation x _ (IsPermutation-sym _ _ perm)) in
        let hit = filter_hit t (old.now.trees 1) ledger.rows one.0 one.1 in
        let target : t ≡ target_in one.0 = one_text t (target_in one.0) hit.1 in
        ap (option_map (row_at t)) (get_text (map entry_in (old.now.trees 1)) t ∙ hit.0)
        ∙ ap (λ k. Some (row_at k (held_in_row one.0))) target ∙ ap (λ y. Some (shown_row y)) one.2
    go (x ∷ y ∷ more) perm = tt

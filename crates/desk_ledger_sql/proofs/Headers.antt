-- What the statements that ask for the header and set it do.
use Rattle.std.proofs.Common.{◌≡◌, inl, ℕ, pos, List, [], ◌∷◌, map, filter, Bool, true, false, ◌&&◌, ◌||◌, arith, Some, None, Ok, refl, sym, ap, subst, ◌∙◌, is_eq}
use Rattle.std.proofs.lemmas.Cmp.{tied_itself}
use Rattle.std.proofs.lemmas.List.Sorted.{IsPermutation-sym}
use Rattle.std.specs.List.Sorted.{IsPermutation}
use Rattle.sqlite.specs.declared.types.Value.TheVariants.{Null, Int, Blob}
use Rattle.sqlite.specs.Order.{Row, value_cmp}
use Rattle.sqlite_value.proofs.OrderLemmas.{value_cmp_total}
use Rattle.sqlite.specs.Tree.{rowid, has_rowid, put_row}
use Rattle.sqlite.specs.Table.{Table}
use Rattle.sqlite.specs.Term.{col}
use Rattle.sqlite.specs.Source.TheVariants.{Values}
use Rattle.sqlite.specs.Command.TheVariants.{InsertOr}
use Rattle.sqlite_schema.specs.declared.command.Conflict.TheVariants.{Replace}
use Rattle.sqlite.specs.Cast.{cast_row}
use Rattle.sqlite_rules.specs.Lists.{Has}
use Rattle.sqlite_rules.specs.Keys.{AreConflicts, conflicts}
use Rattle.sqlite_rules.specs.Calls.{ids_of}
use Rattle.sqlite_rules.proofs.ListLemmas.{all_has}
use Rattle.sqlite_rules.proofs.ProbeLemmas.{mapped_has}
use Rattle.sqlite.specs.Edit.{id_in, without_all}
use Rattle.sqlite_value.specs.Keys.{first_key}
use Rattle.sqlite.specs.Effect.{Database}
use Rattle.sqlite.specs.Does.{Tally, Does}
use Rattle.sqlite.specs.Rows.{Upserts}
use Rattle.sqlite.specs.Listing.{understood}
use Rattle.sqlite.specs.State.{State, mode_of, Executes, Shown}
use Rattle.sqlite.proofs.Callers.{one_permutation, statement_of, runs_as, reads_as}
use Rattle.desk_base.specs.Names.{Text}
use Rattle.desk_ledger.specs.declared.keeper.Header.{Header}
use Rattle.desk_ledger.specs.Ledger.{with_header}
use Rattle.desk_ledger_tables.specs.declared.statements.Statement.TheVariants.{FindHeader, SetHeader}
use Rattle.desk_ledger_tables.specs.Rows.{header_values, shown_header}
use Rattle.desk_ledger_tables.specs.Statements.{Means, header_terms}
use Rattle.desk_ledger_tables.specs.Tables.{header_table, ledger_schema}
use Rattle.desk_ledger_tables.proofs.Meanings.{command_found}
use Rattle.desk_ledger_sql.specs.Told.{IsAt, IsLedger, Shows, first_header, ledger_in}
use Rattle.desk_ledger_sql.proofs.Statements.{went, same_value, written_at}
use Rattle.desk_ledger_sql.proofs.Changes.{task_on, IsPut, new_row, inserts, clears, cast_null, cast_int}
use Rattle.desk_ledger_sql.proofs.Shown.{passes, shows, answered, equal_int, no_image, no_permutation, one_image}
use Rattle.desk_ledger_sql.proofs.Rows.{left_has}

abbrev header_at : Table
header_at = record header_table { tree = 0 }

-- ---- the header is asked for

filter_all : (rows : List Row) → filter (passes [] []) rows ≡ rows
filter_all [] = refl
filter_all (r ∷ rows) = ap (λ l. r ∷ l) (filter_all rows)

-- the header that the query shows
pub finds_header : (text : List ℕ) → Means FindHeader text → (old new : State) (rows : List Row) → IsLedger old → Shown text [] old new rows → Shows shown_header (ledger_in old.now.trees).header rows
finds_header text m old new rows ledger h =
    let a = reads_as text [] old new ledger_schema ledger.at.schema_is _ (command_found FindHeader text m) m.plain m.unlisted rows h in
    let perm = answered 0 [] (col 1 2 ∷ col 1 3 ∷ col 1 4 ∷ []) [] old.now.trees rows refl a.answer in
    go rows (rw (filter_all (old.now.trees 0)) at perm)
  where
    go : (rows : List Row) → IsPermutation (map (shows (col 1 2 ∷ col 1 3 ∷ col 1 4 ∷ []) []) (old.now.trees 0)) rows → Shows shown_header (first_header (old.now.trees 0)) rows
    go [] perm = rw (no_image _ _ (no_permutation _ perm)) refl
    go (x ∷ []) perm =
        let one = one_image (shows (col 1 2 ∷ col 1 3 ∷ col 1 4 ∷ []) []) (old.now.trees 0) x (one_permutation x _ (IsPermutation-sym _ _ perm)) in
        ap first_header one.1 ∙ ap (λ y. Some (shown_header y)) one.2
    go (x ∷ y ∷ more) perm = tt

nothing_has : {X : Type 0} (xs : List X) → ((x : X) → Has xs x → ⊥) → xs ≡ []
nothing_has [] none = refl
nothing_has (x ∷ xs) none = absurd (none x (inl refl))

abbrev stored_header : Text → Text → Text → Row
stored_header f t r = Int (pos 1) ∷ Null ∷ Blob f ∷ Blob t ∷ Blob r ∷ []

either_true : (a b : Bool) → a ≡ true → ((a && true) || b) ≡ true
either_true true b h = refl
either_true false b h = absurd cc

-- each row of the header's table conflicts with a new one
header_conflicts : (f t r : Text) (x : Row) → rowid x ≡ Int (pos 1) → conflicts None ledger_schema.indexes header_at (stored_header f t r) x ≡ true
unfolding first_key
header_conflicts f t r x is = either_true _ _ (equal_int (rowid x) (pos 1) (pos 1) is ∙ ap is_eq (ap (λ v. value_cmp v (Int (pos 1))) is ∙ tied_itself value_cmp_total (Int (pos 1))))

module _ (text : List ℕ) (m : Means SetHeader text) (old new : State) (ledger : IsLedger old) (f t r : Text) (count : ℕ) (h : Executes text (Blob f ∷ Blob t ∷ Blob r ∷ []) old new (Ok count)) where
  -- the numbers of the rows that go, and what is put
  set_runs : (found : List Row) × AreConflicts None ledger_schema.indexes header_at (old.now.trees 0) (stored_header f t r) found
      × IsPut header_at old.now.trees new.now.trees (stored_header f t r) (ids_of found) × IsAt ledger_schema new
  set_runs =
      let has = ledger.at.schema_is in
      let db = old.now.trees in
      let params = Blob f ∷ Blob t ∷ Blob r ∷ [] in
      let command = InsertOr 0 Replace (Values header_terms 5) [] in
      let w = runs_as text params old new ledger_schema has command (command_found SetHeader text m) m.plain count h in
      let statement = statement_of text (understood ledger_schema text) in
      let done = went (subst (λ s. Does old.step_limit (mode_of old) params (record old.now { schema = s }) statement None command (Ok (w.tally, new.now))) has w.changed) in
      let now = ap (λ (p : Tally × Database). p.1) (same_value (went (went done.2).2).2) in
      let trees = ap (λ (d : Database). d.trees) now in
      let put = inserts old.step_limit header_at params Replace (λ why. refl) [] refl db (stored_header f t r) header_terms done.0 refl done.1 in
      let row : new_row old.step_limit header_at params Replace (λ why. refl) [] db (stored_header f t r) ≡ stored_header f t r = rw (cast_int (pos 1), cast_null) in
      let one = subst (λ x. Upserts (task_on old.step_limit header_at params) Replace x db [] (Ok put.0)) row put.1 in (
        one.0,
        one.1,
        subst (λ next. IsPut header_at db next (stored_header f t r) (ids_of one.0)) (sym (trees ∙ put.2)) (clears old.step_limit header_at params db (stored_header f t r) one.0 put.0 one.2),
        written_at ledger_schema old new command statement params count ledger.at.autocommit w (ap (λ (d : Database). d.schema) now),
      )

  header_put : IsLedger new × (ledger_in new.now.trees ≡ with_header (record { from = f; to = t; rules = record { 0 = r } }) (ledger_in old.now.trees))
  header_put =
      let rows = old.now.trees 0 in
      let row = stored_header f t r in
      let ran = set_runs in
      let found = ran.0 in
      let put = ran.2 in
      let same : cast_row header_at row ≡ row = rw (cast_int (pos 1), cast_null) in
      let left : without_all rows (ids_of found) ≡ [] = nothing_has _ (λ x h.
      let was = left_has (ids_of found) rows x h in
      let one = all_has (λ (y : Row). rowid y ≡ Int (pos 1)) rows x ledger.header was.0 in
      let there = mapped_has (λ (y : Row). id_in (rowid y)) found (rowid x ∷ []) (ran.1.complete x was.0 (header_conflicts f t r x one)) in
      let apart = was.1 (id_in (rowid x)) there in
      let tie : has_rowid (id_in (rowid x)) x ≡ true = rw one (ap is_eq (tied_itself value_cmp_total (Int (pos 1)))) in
      cc) in
      let is : new.now.trees 0 ≡ row ∷ [] = put.rows ∙ ap (λ rs. put_row (cast_row header_at row) rs) left ∙ ap (λ x. x ∷ []) same in
      let others : new.now.trees 1 ≡ old.now.trees 1 = put.others.1.0 (λ e. absurd (omega (arith, e))) in (
        record {
          at = ran.3;
          table = rw others ledger.table;
          rows = rw others ledger.rows;
          apart = rw others ledger.apart;
          header = rw is (refl, tt);
        },
        rw (is, others),
      )

-- the header is that which was set last
pub sets_header : (text : List ℕ) → Means SetHeader text → (old new : State) (header : Header) (count : ℕ) → IsLedger old → Executes text (header_values header) old new (Ok count)
    → IsLedger new × (ledger_in new.now.trees ≡ with_header header (ledger_in old.now.trees))
sets_header text m old new header count ledger h = header_put text m old new ledger header.from header.to header.rules.0 count h

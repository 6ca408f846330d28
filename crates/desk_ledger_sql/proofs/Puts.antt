-- What the statement that puts a row makes of what the tables tell.
use Rattle.std.proofs.Common.{◌≡◌, inl, inr, ℕ, ℤ, List, [], ◌∷◌, ◌++◌, filter, Bool, true, false, ◌&&◌, ◌||◌, arith, Some, None, Ok, refl, sym, ap, subst, ◌∙◌, Option, is_eq}
use Rattle.std.proofs.lemmas.Bool.{and_parts, cases_Bool, false_from_ne_true, not-true}
use Rattle.std.proofs.lemmas.Cmp.{tied_itself}
use Rattle.std.specs.List.{AllByRecursion}
use Rattle.std.specs.FinMap as fin
use Rattle.sqlite.specs.declared.types.Value.{Value}
use Rattle.sqlite.specs.declared.types.Value.TheVariants.{Null, Int, Blob}
use Rattle.sqlite.specs.Order.{Row, value_cmp}
use Rattle.sqlite_value.proofs.OrderLemmas.{value_cmp_total}
use Rattle.sqlite_value.specs.Keys.{first_key}
use Rattle.sqlite.specs.Tree.{Trees, rowid, has_rowid, put_row, IsTable}
use Rattle.sqlite_trees.proofs.ListLemmas.{filter_none}
use Rattle.sqlite_trees.proofs.TreeLemmas.{IsTable-put_row, all-put_row}
use Rattle.sqlite.specs.Table.{Table}
use Rattle.sqlite.specs.Cast.{cast_row}
use Rattle.sqlite.specs.Rowids.TheVariants.{Given}
use Rattle.sqlite.specs.Source.TheVariants.{Values}
use Rattle.sqlite.specs.Command.TheVariants.{InsertOr}
use Rattle.sqlite_schema.specs.declared.command.Conflict.TheVariants.{Abort}
use Rattle.sqlite_schema.specs.declared.schema.Keys.TheVariants.{Enforced}
use Rattle.sqlite_rules.specs.Lists.{Has}
use Rattle.sqlite_rules.specs.Calls.{ids_of}
use Rattle.sqlite_rules.specs.Keys.{AreConflicts, conflicts}
use Rattle.sqlite_rules.proofs.ListLemmas.{all_has, all_from}
use Rattle.sqlite_rules.proofs.PlaceLemmas.{tied_same}
use Rattle.sqlite_rules.proofs.TableLemmas.{int_is}
use Rattle.sqlite.specs.Edit.{edit_of, edited, left_by, are_fresh, id_in, is_taken, next_rowid, without_all}
use Rattle.sqlite.specs.Effect.{Database}
use Rattle.sqlite.specs.Does.{Tally, Does}
use Rattle.sqlite.specs.Listing.{understood}
use Rattle.sqlite.specs.Rows.{Written, Clears, Meets, Puts, Updates, Upserts}
use Rattle.sqlite.specs.State.{State, mode_of, Executes}
use Rattle.sqlite.proofs.Callers.{one_permutation, one_step, statement_of, runs_as}
use Rattle.desk_base.specs.Names.{Text}
use Rattle.desk_base.proofs.Orderings.{equal_is}
use Rattle.desk_ledger.specs.declared.digest.Digest.{Digest}
use Rattle.desk_ledger.specs.declared.keeper.Held.{Held}
use Rattle.desk_ledger.specs.declared.keeper.Row as desk
use Rattle.desk_ledger.specs.Ledger.{with_row}
use Rattle.desk_ledger_tables.specs.declared.statements.Statement.TheVariants.{PutRow}
use Rattle.desk_ledger_tables.specs.Rows.{output_in, output_value, row_values}
use Rattle.desk_ledger_tables.specs.Statements.{Means, has_number, on_same_target, program_of, row_terms, written_over}
use Rattle.desk_ledger_tables.specs.Tables.{rows_table, ledger_schema}
use Rattle.desk_ledger_tables.proofs.Meanings.{command_found}
use Rattle.desk_ledger_sql.specs.Told.{AreApart, IsAt, IsRow, IsLedger, held_in_row, ledger_in, meets, target_column, target_in}
use Rattle.desk_ledger_sql.proofs.Statements.{went, same_value, written_at}
use Rattle.desk_ledger_sql.proofs.Shown.{and_true, answered, equal_blob, equal_int, passes, shows}
use Rattle.desk_ledger_sql.proofs.Changes.{task_on, KeepsOthers, IsPut, new_row, puts, inserts, cast_null, cast_int}
use Rattle.desk_ledger_sql.proofs.Rows.{Marks, all_left, left_apart, one_text, put_apart, replaced, stays_apart, table_left}

abbrev pub rows_at : Table
rows_at = record rows_table { tree = 1 }

abbrev stored : ℤ → Text → Text → Text → Value → Row
stored id t s d out = Int id ∷ Blob t ∷ Blob s ∷ Blob d ∷ out ∷ []

abbrev held_of : Text → Text → Value → Held
held_of s d out = record { source = s; digest = record { 0 = d }; output = output_in out }

output_back : (o : Option Digest) → output_in (output_value o) ≡ o
output_back None = refl
output_back (Some d) = refl

bare : (b : Bool) → ((b && true) || false) ≡ b
bare true = refl
bare false = refl

-- a row conflicts with a new one under the target where it has the new one's
conflict_is : (id : ℤ) (t s d : Text) (out : Value) (r : Row) → IsRow r → conflicts (Some (1 ∷ [])) ledger_schema.indexes rows_at (stored id t s d out) r ≡ meets t r
unfolding first_key
conflict_is id t s d out r is = bare _ ∙ equal_blob (target_column r) t is.1

-- of rows with numbers of their own, a test that only one passes leaves that one
one_kept : (rows : List Row) (r : Row) (p : Row → Bool) → IsTable rows → Has rows r → ((x : Row) → Has rows x → p x ≡ true → x ≡ r) → p r ≡ true → filter p rows ≡ r ∷ []
one_kept [] r p table there alone passed = absurd there
one_kept (x ∷ rows) r p table (inl first) alone passed =
    let none : filter p rows ≡ [] = filter_none p rows (all_from _ rows (λ y h. false_from_ne_true _ (λ met.
    let below = all_has _ rows y table.0 h in
    let same : y ≡ x = alone y (inr h) met ∙ first in
    let tie = rw same at below in
    let self = tied_itself value_cmp_total (rowid x) in
    cc))) in
    let met : p x ≡ true = rw (← first) passed in
    rw (met, none, first)
one_kept (x ∷ rows) r p table (inr later) alone passed = elim (cases_Bool (p x)) [
  | inl met ↦ absurd (
      let below = all_has _ rows r table.0 later in
      let same : x ≡ r = alone x (inl refl) met in
      let tie = rw same at below in
      let self = tied_itself value_cmp_total (rowid r) in
      cc
      )
  | inr other ↦ rw other (one_kept rows r p table.1 later (λ y h. alone y (inr h)) passed)
]

-- The row of a target is put: it takes the place of the one that had the target.
pub record PutsRow (db next : Trees) (t s d : Text) (out : Value) : Type 0 where
  -- the numbers of the rows that go
  pub gone : List Row
  pub marks : Marks t (db 1) gone
  pub row : Row
  pub is_row : IsRow row
  pub target : target_in row ≡ t
  pub held : held_in_row row ≡ held_of s d out
  pub rows : next 1 ≡ put_row row (without_all (db 1) (ids_of gone))
  pub fresh : is_taken (without_all (db 1) (ids_of gone)) row ≡ false
  pub others : KeepsOthers rows_at db next

module _ (limit : Option ℕ) (db : Trees) (table : IsTable (db 1)) (are : AllByRecursion IsRow (db 1)) (apart : AreApart (db 1)) (t s d : Text) (out : Value) where
  abbrev params : Row
  params = Blob t ∷ Blob s ∷ Blob d ∷ out ∷ []

  -- no row has the target, and the new one is put
  put_new : (id : ℤ) (one : Written) → AreConflicts (Some (1 ∷ [])) ledger_schema.indexes rows_at (db 1) (stored id t s d out) [] → IsPut rows_at db one.trees (stored id t s d out) []
      → PutsRow db one.trees t s d out
  put_new id one none put =
      let same : cast_row rows_at (stored id t s d out) ≡ stored id t s d out = rw (cast_int id) in
      record {
        gone = [];
        marks = record {
          sound = λ x h. absurd h;
          complete = λ r h met. none.complete r h (conflict_is id t s d out r (all_has IsRow (db 1) r are h) ∙ met);
        };
        row = stored id t s d out;
        is_row = (refl, refl);
        target = refl;
        held = refl;
        rows = put.rows ∙ ap (λ r. put_row r (db 1)) same;
        fresh = subst (λ r. is_taken (db 1) r ≡ false) same put.fresh;
        others = put.others;
      }

  -- the new row, behind the parameters and the number of the row that is written over
  abbrev given : ℤ → ℤ → Row
  given n id = params ++ Int n ∷ stored id t s d out

  module _ (r : Row) (there : Has (db 1) r) (met : meets t r ≡ true) where
    number : rowid r ≡ Int (id_in (rowid r))
    number = int_is (rowid r) (all_has IsRow (db 1) r are there).0

    -- only this row has the number
    has_number_is : (id : ℤ) (y : Row) → IsRow y → passes (has_number ∷ []) (given (id_in (rowid r)) id) y ≡ has_rowid (id_in (rowid r)) y
    has_number_is id y is = and_true _ ∙ equal_int (rowid y) (id_in (rowid y)) (id_in (rowid r)) (int_is (rowid y) is.0)

    only_row : (id : ℤ) → filter (passes (has_number ∷ []) (given (id_in (rowid r)) id)) (db 1) ≡ r ∷ []
    only_row id = one_kept (db 1) r (passes (has_number ∷ []) (given (id_in (rowid r)) id)) table there
        (λ y h passed.
        let has = sym (has_number_is id y (all_has IsRow (db 1) y are h)) ∙ passed in
        tied_same (db 1) y r table h there (ap (value_cmp (rowid y)) number ∙ equal_is _ has))
        (has_number_is id r (all_has IsRow (db 1) r are there) ∙ ap is_eq (ap (value_cmp (rowid r)) (sym number) ∙ tied_itself value_cmp_total (rowid r)))

    -- the row keeps its number and its target
    abbrev over : Row
    over = Int (id_in (rowid r)) ∷ target_column r ∷ Blob s ∷ Blob d ∷ out ∷ []

    put_over : (id : ℤ) (one : Written) → Updates (task_on limit rows_at params) (program_of 1 (has_number ∷ []) written_over) (given (id_in (rowid r)) id) db (Ok one) → PutsRow db one.trees t s d out
    put_over id one h =
        let asked = went h in
        let wrote = went asked.2 in
        let shown = shows written_over (given (id_in (rowid r)) id) in
        let perm = answered 1 (has_number ∷ []) written_over (given (id_in (rowid r)) id) db asked.0 refl asked.1.answer in
        let is : asked.0 ≡ shown r ∷ [] = one_permutation (shown r) asked.0 (rw (only_row id) at perm) in
        let edit_by = λ (rows : List Row). edit_of db rows_at (ids_of rows) Given 1 rows in
        let it = one_step ledger_schema Enforced db wrote.0 (edit_by asked.0) refl wrote.1 in
        let last : one.trees ≡ wrote.0 = ap (λ (w : Written). w.trees) (same_value wrote.2) in
        let ids = id_in (rowid r) ∷ [] in
        let cast_is : cast_row rows_at (rowid r ∷ target_column r ∷ Blob s ∷ Blob d ∷ out ∷ []) ≡ over = rw (number, cast_int (id_in (rowid r))) in
        let rows : wrote.0 1 ≡ put_row (cast_row rows_at (rowid r ∷ target_column r ∷ Blob s ∷ Blob d ∷ out ∷ [])) (without_all (db 1) ids) = it.rows ∙ ap (λ rs. edited db (edit_by rs)) is in
        let fresh : are_fresh (without_all (db 1) ids) (cast_row rows_at (rowid r ∷ target_column r ∷ Blob s ∷ Blob d ∷ out ∷ []) ∷ []) ≡ true =
        subst (λ rs. are_fresh (left_by db (edit_by rs)) (edit_by rs).news ≡ true) is it.fresh in
        record {
          gone = (rowid r ∷ []) ∷ [];
          marks = record {
            sound = λ x h. elim h [ inl e ↦ (r, there, met, e) | inr none ↦ absurd none ];
            complete = λ y h other.
                let mine = one_text t (target_in r) met in
                let its = one_text t (target_in y) other in
                let alike : meets (target_in y) r ≡ true = rw (← its) met in
                inl (ap (λ (z : Row). rowid z ∷ []) (apart y r h there alike));
          };
          row = over;
          is_row = (refl, (all_has IsRow (db 1) r are there).1);
          target = sym (one_text t (target_in r) met);
          held = refl;
          rows = ap (λ (trees : Trees). trees 1) last ∙ rows ∙ ap (λ row. put_row row (without_all (db 1) ids)) cast_is;
          fresh = subst (λ row. is_taken (without_all (db 1) ids) row ≡ false) cast_is (not-true _ (and_parts _ _ fresh).0);
          others = subst (KeepsOthers rows_at db) (sym last) it.tables;
        }

  clears_none : (new : Row) (found : List Row) (one : Written) → Clears (task_on limit rows_at params) Abort new db found (Ok one) → Puts (task_on limit rows_at params) new db (Ok one)
  clears_none new [] one h = h
  clears_none new (x ∷ more) one h = h

  -- what the clause of the statement does where these rows have the target
  meets_clause : (id : ℤ) (one : Written) (found : List Row) → AreConflicts (Some (1 ∷ [])) ledger_schema.indexes rows_at (db 1) (stored id t s d out) found
      → Meets (task_on limit rows_at params) (Upserts (task_on limit rows_at params) Abort (stored id t s d out) db []) (stored id t s d out) db on_same_target found (Ok one) → PutsRow db one.trees t s d out
  meets_clause id one [] conflict h = put_new id one conflict (puts limit rows_at params db (stored id t s d out) one (clears_none (stored id t s d out) h.0 one h.2))
  meets_clause id one (x ∷ more) conflict h =
      let it = conflict.sound x (inl refl) in
      let met = sym (conflict_is id t s d out it.0 (all_has IsRow (db 1) it.0 are it.1)) ∙ it.2 in
      let same : rowid x ≡ Int (id_in (rowid it.0)) = ap rowid it.3 ∙ number it.0 it.1 met in
      put_over it.0 it.1 met id one (subst (λ v. Updates (task_on limit rows_at params) (program_of 1 (has_number ∷ []) written_over) (params ++ v ∷ stored id t s d out) db (Ok one)) same h)

  -- the row is put, or written over the one that has its target
  put_either : (id : ℤ) (one : Written) → Upserts (task_on limit rows_at params) Abort (stored id t s d out) db (on_same_target ∷ []) (Ok one) → PutsRow db one.trees t s d out
  put_either id one h = meets_clause id one h.0 h.1 h.2

module _ (text : List ℕ) (m : Means PutRow text) (old new : State) (ledger : IsLedger old) (t s d : Text) (out : Value) (count : ℕ) (h : Executes text (Blob t ∷ Blob s ∷ Blob d ∷ out ∷ []) old new (Ok count)) where
  put_runs : PutsRow old.now.trees new.now.trees t s d out × IsAt ledger_schema new
  put_runs =
      let has = ledger.at.schema_is in
      let db = old.now.trees in
      let values = Blob t ∷ Blob s ∷ Blob d ∷ out ∷ [] in
      let command = InsertOr 1 Abort (Values row_terms 5) (on_same_target ∷ []) in
      let w = runs_as text values old new ledger_schema has command (command_found PutRow text m) m.plain count h in
      let statement = statement_of text (understood ledger_schema text) in
      let done = went (subst (λ s. Does old.step_limit (mode_of old) values (record old.now { schema = s }) statement None command (Ok (w.tally, new.now))) has w.changed) in
      let now = ap (λ (p : Tally × Database). p.1) (same_value (went (went done.2).2).2) in
      let trees = ap (λ (d : Database). d.trees) now in
      let put = inserts old.step_limit rows_at values Abort (λ why. refl) (on_same_target ∷ []) refl db (Null ∷ values) row_terms done.0 refl done.1 in
      let row : new_row old.step_limit rows_at values Abort (λ why. refl) (on_same_target ∷ []) db (Null ∷ values) ≡ stored (next_rowid (db 1)) t s d out = rw cast_null in
      let one = subst (λ r. Upserts (task_on old.step_limit rows_at values) Abort r db (on_same_target ∷ []) (Ok put.0)) row put.1 in (
        subst (λ next. PutsRow db next t s d out) (sym (trees ∙ put.2)) (put_either old.step_limit db ledger.table ledger.rows ledger.apart t s d out (next_rowid (db 1)) put.0 one),
        written_at ledger_schema old new command statement values count ledger.at.autocommit w (ap (λ (d : Database). d.schema) now),
      )

  row_put : IsLedger new × (ledger_in new.now.trees ≡ record (ledger_in old.now.trees) { rows = fin.insert (ledger_in old.now.trees).rows t (held_of s d out) })
  row_put =
      let rows = old.now.trees 1 in
      let ran = put_runs in
      let put = ran.0 in
      let ids = ids_of put.gone in
      let left = without_all rows ids in
      let header : new.now.trees 0 ≡ old.now.trees 0 = put.others.0 (λ e. absurd (omega (arith, e))) in
      let none = stays_apart t rows put.gone ledger.table ledger.rows put.marks in
      let told = replaced t rows put.gone ledger.table ledger.rows put.marks put.row put.target put.fresh ∙ ap (fin.insert (ledger_in old.now.trees).rows t) put.held in (
        record {
          at = ran.1;
          table = rw put.rows (IsTable-put_row put.row left (table_left ids rows ledger.table));
          rows = rw put.rows (all-put_row IsRow put.row left put.is_row (all_left IsRow ids rows ledger.rows));
          apart = rw put.rows (put_apart put.row left (left_apart ids rows ledger.apart) (rw put.target none));
          header = rw header ledger.header;
        },
        rw (put.rows, header, told),
      )

-- a row is put in place of its target's
pub puts_row : (text : List ℕ) → Means PutRow text → (old new : State) (row : desk.Row) (count : ℕ) → IsLedger old → Executes text (row_values row) old new (Ok count)
    → IsLedger new × (ledger_in new.now.trees ≡ with_row row (ledger_in old.now.trees))
puts_row text m old new row count ledger h =
    let put = row_put text m old new ledger row.target row.source row.digest.0 (output_value row.output) count h in
    (put.0, put.1 ∙ ap (λ o. record (ledger_in old.now.trees) { rows = fin.insert (ledger_in old.now.trees).rows row.target (record { source = row.source; digest = row.digest; output = o }) }) (output_back row.output))

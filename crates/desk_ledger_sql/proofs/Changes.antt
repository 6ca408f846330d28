-- What an INSERT of one row makes of a table.
use Rattle.std.specs.Prelude.{length, ◌/◌}
use Rattle.std.proofs.Common.{◌≡◌, ◌≢◌, inl, inr, ℕ, ℤ, List, [], ◌∷◌, Bool, true, false, if◌then◌else◌, cond, Some, None, Ok, refl, sym, ap, subst, ◌∙◌, Option}
use Rattle.std.proofs.lemmas.Bool.{and_parts, not-true}
use Rattle.std.specs.List.{AllByRecursion}
use Rattle.sqlite.specs.declared.types.Value.{Value}
use Rattle.sqlite.specs.declared.types.Value.TheVariants.{Null, Int}
use Rattle.sqlite.specs.Order.{Row}
use Rattle.sqlite.specs.Term.{Term}
use Rattle.sqlite.specs.Ops.{unary}
use Rattle.sqlite.specs.Cast.{cast, cast_row}
use Rattle.sqlite.specs.Kind.TheVariants.{Integer}
use Rattle.sqlite.specs.Tree.{Trees, put_row}
use Rattle.sqlite.specs.Table.{Table}
use Rattle.sqlite.specs.Source.TheVariants.{Values}
use Rattle.sqlite_schema.specs.declared.schema.Keys.TheVariants.{Enforced}
use Rattle.sqlite_schema.specs.declared.command.Conflict.{Conflict}
use Rattle.sqlite_schema.specs.declared.command.Conflict.TheVariants.{Replace}
use Rattle.sqlite_schema.specs.declared.command.Upsert.{Upsert}
use Rattle.sqlite_rules.specs.declared.error.Refusal.{Refusal}
use Rattle.sqlite.specs.Rowids.TheVariants.{Chosen, Above, Given}
use Rattle.sqlite.specs.Edit.{edit_of, with_rowid, without_all, is_taken}
use Rattle.sqlite_rules.specs.Calls.{ids_of}
use Rattle.sqlite.specs.Effect.{value_rows}
use Rattle.sqlite.specs.Rows.{Written, Task, Puts, Clears, Upserts, Tries, TriesEach, Judged, InsertsOr, mended, nothing, passes_over, stamped, rowids_for, count_of, Counts}
use Rattle.sqlite.proofs.Callers.{one_step}
use Rattle.desk_ledger_tables.specs.Tables.{ledger_schema}
use Rattle.desk_ledger_sql.proofs.Statements.{went, same_value}

either : (b : Bool) (x : Value) → cond b x x ≡ x
either true x = refl
either false x = refl

pub cast_null : cast Integer Null ≡ Null
unfolding unary
cast_null = either _ Null

pub cast_int : (n : ℤ) → cast Integer (Int n) ≡ Int n
unfolding unary
cast_int n = either _ (Int n)

abbrev pub task_on : Option ℕ → Table → Row → Task
task_on limit table params = record { limit = limit; keys = Enforced; schema = ledger_schema; table = table; params = params }

abbrev pub KeepsOthers : Table → Trees → Trees → Type 0
KeepsOthers table old new = AllByRecursion (λ (t : Table). t.tree ≢ table.tree → new t.tree ≡ old t.tree) ledger_schema.tables

-- the row is put where these numbers are taken out
pub record IsPut (table : Table) (db next : Trees) (new : Row) (gone : List ℤ) : Type 0 where
  pub rows : next table.tree ≡ put_row (cast_row table new) (without_all (db table.tree) gone)
  pub fresh : is_taken (without_all (db table.tree) gone) (cast_row table new) ≡ false
  pub others : KeepsOthers table db next

module _ (limit : Option ℕ) (table : Table) (params : Row) where
  pub puts : (db : Trees) (new : Row) (one : Written) → Puts (task_on limit table params) new db (Ok one) → IsPut table db one.trees new []
  puts db new one h =
      let p = went h in
      let edit = edit_of db table [] Given 0 (new ∷ []) in
      let it = one_step ledger_schema Enforced db p.0 edit refl p.1 in
      let is : one.trees ≡ p.0 = ap (λ (w : Written). w.trees) (same_value p.2) in
      record {
        rows = ap (λ (t : Trees). t table.tree) is ∙ it.rows;
        fresh = not-true _ (and_parts _ _ it.fresh).0;
        others = subst (KeepsOthers table db) (sym is) it.tables;
      }

  -- REPLACE takes those out that conflict with it
  pub clears : (db : Trees) (new : Row) (found : List Row) (one : Written) → Clears (task_on limit table params) Replace new db found (Ok one) → IsPut table db one.trees new (ids_of found)
  clears db new [] one h = puts db new one h
  clears db new (x ∷ more) one h =
      let p = went h in
      let edit = edit_of db table (ids_of (x ∷ more)) Given 0 [] in
      let gone = one_step ledger_schema Enforced db p.0 edit refl p.1 in
      let put = puts p.0 new one p.2 in
      record {
        rows = put.rows ∙ ap (put_row (cast_row table new)) gone.rows;
        fresh = subst (λ rows. is_taken rows (cast_row table new) ≡ false) gone.rows put.fresh;
        others = (λ n. put.others.0 n ∙ gone.tables.0 n, (λ n. put.others.1.0 n ∙ gone.tables.1.0 n, tt));
      }

  module _ (way : Conflict) (strict : (why : Refusal) → passes_over way why ≡ false) (clauses : List Upsert) where
    judged : (db : Trees) (new : Row) (one : Written) (v : Option Refusal) → Judged (task_on limit table params) way clauses new db v (Ok one)
        → Upserts (task_on limit table params) way new db clauses (Ok one)
    judged db new one None h = h
    judged db new one (Some why) h = absurd (let e = rw (strict why) at h in cc)

    tries : (db : Trees) (new : Row) (one : Written) → Tries (task_on limit table params) way clauses new db (Ok one) → Upserts (task_on limit table params) way new db clauses (Ok one)
    tries db new one (inl h) = absurd (let e = h.1 in cc)
    tries db new one (inr h) = judged db new one h.0 h.2

    -- the row that is put: its number is chosen where it has none
    abbrev pub new_row : Trees → Row → Row
    new_row db source = with_rowid Chosen (db table.tree) (cast_row table (mended way table source))

    -- some part of the statement makes these trees
    abbrev pub Inserts : Trees → Trees → Row → Type 0
    Inserts db next new = (one : Written) × Upserts (task_on limit table params) way new db clauses (Ok one) × (next ≡ one.trees)

    one_source : (uncounted : table.is_counted ≡ false) (db : Trees) (source : Row) (top : ℤ) (done : Written × ℤ)
        → TriesEach (task_on limit table params) way clauses (source ∷ []) top (nothing db) (Ok done) → Inserts db done.0.trees (new_row db source)
    one_source uncounted db source top done h =
        let t = went h in
        let row = cast_row table (mended way table source) in
        let put = tries db (with_rowid (rowids_for table top) (db table.tree) row) t.0 t.1 in
        let is : done.0.trees ≡ t.0.trees = ap (λ (d : Written × ℤ). d.0.trees) (same_value t.2) in
        (t.0, subst (λ b. Upserts (task_on limit table params) way (with_rowid (if b then Above top else Chosen) (db table.tree) row) db clauses (Ok t.0)) uncounted put, is)

    counts_none : (uncounted : table.is_counted ≡ false) (db : Trees) (counter : Option Row) (top : ℤ) (next : Trees) → Counts (task_on limit table params) db counter top (Ok next) → next ≡ db
    counts_none uncounted db counter top next h = same_value (rw uncounted at h)

    -- the one row of the statement is put, or meets a clause
    pub inserts : (uncounted : table.is_counted ≡ false) (db : Trees) (source : Row) (terms : List Term) (w : Written) → value_rows (stamped table params) 5 (length terms / 5) terms ≡ source ∷ []
        → InsertsOr (task_on limit table params) way clauses (Values terms 5) db (Ok w) → Inserts db w.trees (new_row db source)
    inserts uncounted db source terms w rows h =
        let given = went h in
        let counter = went given.2 in
        let tried = went counter.2 in
        let ended = went tried.2 in
        let one = subst (λ rs. TriesEach (task_on limit table params) way clauses rs (count_of counter.0) (nothing db) (Ok tried.0)) (given.1.1 ∙ rows) tried.1 in
        let put = one_source uncounted db source (count_of counter.0) tried.0 one in
        let last : ended.0 ≡ tried.0.0.trees = counts_none uncounted tried.0.0.trees counter.0 tried.0.1 ended.0 ended.1 in
        let is : w.trees ≡ ended.0 = ap (λ (it : Written). it.trees) (same_value ended.2) in
        (put.0, put.1, is ∙ last ∙ put.2)

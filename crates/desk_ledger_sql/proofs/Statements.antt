-- What a statement leaves that is refused, and what CREATE makes.
use Rattle.std.proofs.Common.{◌≡◌, ◌⊎◌, inl, inr, ℕ, List, [], false, Some, None, Ok, Err, Result, IsTrue, sym, ap, subst, ◌∙◌, Option}
use Rattle.std.proofs.lemmas.Bool.{cases_Bool}
use Rattle.sqlite.specs.Order.{Row}
use Rattle.sqlite.specs.Schema.{Schema}
use Rattle.sqlite.specs.Table.{Table}
use Rattle.sqlite.specs.Command.{Command}
use Rattle.sqlite.specs.Command.TheVariants.{CreateTable}
use Rattle.sqlite.specs.Compile.{table_defined_by}
use Rattle.sqlite.specs.Change.{created, next_tree, KeepsRows}
use Rattle.sqlite.specs.Does.{Tally, lacks_sequence}
use Rattle.sqlite.specs.declared.error.Error.{Error}
use Rattle.sqlite_resolve.specs.declared.compiled.Compiled.{Compiled}
use Rattle.sqlite.specs.Listing.{understood}
use Rattle.sqlite.specs.Effect.{Database}
use Rattle.sqlite.specs.State.{State, IsUnchanged, Fails, Writes, Executes, ExecutesIn, IsNotRun, RunsCommand, shows_rows, FailsToQuery, FailsToShow, Shown}
use Rattle.sqlite_schema.specs.declared.command.Returning.{Returning}
use Rattle.sqlite.proofs.Callers.{IsPlain, command_of, statement_of, runs_as}
use Rattle.desk_ledger_tables.specs.Tables.{ledger_schema}
use Rattle.desk_ledger_sql.specs.Told.{IsAt, IsLedger, ledger_in, no_ledger}

-- a part that gave a value did not stop on the way
pub went : {B E R : Type 0} {b : B} {Stops : E → Type 0} → ((stop : E) × Stops stop × (Ok b ≡ Err stop)) ⊎ R → R
went (inl stopped) = absurd (let e = stopped.2 in cc)
went (inr on) = on

pub same_value : {B E : Type 0} {a b : B} → ◌≡◌ {A = Result B E} (Ok a) (Ok b) → a ≡ b
same_value e = cc

-- nothing that the next statement goes by has changed
abbrev pub IsSame : State → State → Type 0
IsSame old new = (new.now ≡ old.now) × (new.committed ≡ old.committed) × (new.in_transaction ≡ old.in_transaction)

pub unchanged_same : (old new : State) → IsUnchanged old new → IsSame old new
unchanged_same old new h = (h.0.now_is, h.0.committed_is, h.0.mode)

pub same_at : (schema : Schema) (old new : State) → IsAt schema old → IsSame old new → IsAt schema new
same_at schema old new at same = record {
  autocommit = same.2 ∙ at.autocommit;
  settled = same.0 ∙ at.settled ∙ sym same.1;
  schema_is = ap (λ (d : Database). d.schema) same.0 ∙ at.schema_is;
}

module _ (schema : Schema) (old new : State) (at : IsAt schema old) (works : IsTrue new.is_open) where
  fails_same : (P : Type 0) (e : Error) → Fails old new P e → IsSame old new
  fails_same P e h = let back = h.3 in ((back.undone works).0 ∙ sym at.settled, (back.undone works).1, back.autocommit ∙ sym at.autocommit)

  not_run_same : (sql : List ℕ) (params : Row) (e : Error) → IsNotRun old new sql params e → IsSame old new
  unfolding IsNotRun
  not_run_same sql params e (inl h) = unchanged_same old new h.1
  not_run_same sql params e (inr h) = fails_same _ e h

  command_same : (sql : List ℕ) (c : Compiled) (params : Row) (e : Error) → RunsCommand old new sql c params (Err e) → IsSame old new
  command_same sql c params e (inl h) = unchanged_same old new h.1
  command_same sql c params e (inr h) = fails_same _ e h

  -- a statement that is refused changes nothing
  pub refused_same : (sql : List ℕ) (params : Row) (e : Error) → Executes sql params old new (Err e) → IsSame old new
  unfolding ExecutesIn
  refused_same sql params e (inl h) = not_run_same sql params e h
  refused_same sql params e (inr h) = elim (cases_Bool (shows_rows false h.0)) [
    | inl shows ↦ unchanged_same old new (rw shows at h.2).1
    | inr runs ↦ command_same sql h.0 _ e (rw runs at h.2)
  ]

  shows_same : (sql : List ℕ) (c : Compiled) (params : Row) (e : Error) (returning : Option Returning) → FailsToShow old new sql c params e returning → IsSame old new
  shows_same sql c params e None h = unchanged_same old new h.3
  shows_same sql c params e (Some what) h = command_same sql c params e h

  -- nor does a query that is
  pub query_same : (sql : List ℕ) (params : Row) (e : Error) → FailsToQuery sql params old new e → IsSame old new
  unfolding FailsToQuery
  query_same sql params e (inl h) = not_run_same sql params e h
  query_same sql params e (inr h) = shows_same sql h.0 _ e h.0.returning h.2

-- a query that shows rows changes nothing
pub shown_same : (sql : List ℕ) (params : Row) (old new : State) (rows : List Row) → IsPlain (understood old.now.schema sql) → Shown sql params old new rows → IsSame old new
unfolding Shown
shown_same sql params old new rows plain h = unchanged_same old new (rw (subst IsPlain h.1.is plain).0 at h.2).3

-- outside a transaction a write is committed
pub written_at : (schema : Schema) (old new : State) (command : Command) (text : List ℕ) (params : Row) (count : ℕ) → old.in_transaction ≡ false → Writes old new None command text params count
    → new.now.schema ≡ schema → IsAt schema new
written_at schema old new command text params count auto w is = record {
  autocommit = w.shown.mode ∙ auto;
  settled = sym (rw auto at w.shown.committed_is);
  schema_is = is;
}

module _ (text : List ℕ) (schema : Schema) (table : Table) (whole : lacks_sequence (created schema table) ≡ false)
    (is : (command_of (understood schema text) ≡ CreateTable) × (statement_of text (understood schema text) ≡ text) × (table_defined_by text ≡ Ok table)) (plain : IsPlain (understood schema text)) where
  pub creates : (old new : State) (count : ℕ) → IsAt schema old → Executes text [] old new (Ok count)
      → IsAt (created schema table) new × (new.now.trees (next_tree schema) ≡ []) × KeepsRows schema.tables old.now.trees new.now.trees
  creates old new count at h =
      let has = at.schema_is in
      let w = subst (λ t. Writes old new None CreateTable t [] count) is.1 (runs_as text [] old new schema has CreateTable is.0 plain count h) in
      let all = went w.changed in
      let first = went all.1 in
      let made = first.1 in
      let both : Ok made.table ≡ Ok table = sym made.defined ∙ is.2 in
      let same : made.table ≡ table = cc in
      let schema_is : first.0.schema ≡ created schema table = made.is ∙ ap (λ s. created s made.table) has ∙ ap (created schema) same in
      let none : lacks_sequence first.0.schema ≡ false = ap lacks_sequence schema_is ∙ whole in
      let now : new.now ≡ first.0 = ap (λ (p : Tally × Database). p.1) (same_value all.2) ∙ same_value (rw none at first.2) in (
        written_at (created schema table) old new CreateTable text [] count at.autocommit w (ap (λ (d : Database). d.schema) now ∙ schema_is),
        ap (λ (d : Database). d.trees (next_tree schema)) now ∙ subst (λ s. first.0.trees (next_tree s) ≡ []) has made.empty,
        subst (λ (d : Database). KeepsRows schema.tables old.now.trees d.trees) (sym now) (subst (λ (s : Schema). KeepsRows s.tables old.now.trees first.0.trees) has made.others),
      )

-- a ledger whose tables are empty
pub empty_ledger : (s : State) → IsAt ledger_schema s → s.now.trees 0 ≡ [] → s.now.trees 1 ≡ [] → IsLedger s × (ledger_in s.now.trees ≡ no_ledger)
empty_ledger s at header rows = (
  record { at = at; table = rw rows tt; rows = rw rows tt; apart = rw rows (λ a b none other met. absurd none); header = rw header tt },
  rw (header, rows),
)

same_ledger : (old new : State) → IsLedger old → IsSame old new → IsLedger new × (ledger_in new.now.trees ≡ ledger_in old.now.trees)
same_ledger old new ledger same =
    let trees = ap (λ (d : Database). d.trees) same.0 in (
      record { at = same_at ledger_schema old new ledger.at same; table = rw trees ledger.table; rows = rw trees ledger.rows; apart = rw trees ledger.apart; header = rw trees ledger.header },
      ap ledger_in trees,
    )

module _ (old new : State) (ledger : IsLedger old) (works : IsTrue new.is_open) (sql : List ℕ) (params : Row) where
  pub refused_ledger : (e : Error) → Executes sql params old new (Err e) → IsLedger new × (ledger_in new.now.trees ≡ ledger_in old.now.trees)
  refused_ledger e h = same_ledger old new ledger (refused_same ledger_schema old new ledger.at works sql params e h)

  pub unasked_ledger : (e : Error) → FailsToQuery sql params old new e → IsLedger new × (ledger_in new.now.trees ≡ ledger_in old.now.trees)
  unasked_ledger e h = same_ledger old new ledger (query_same ledger_schema old new ledger.at works sql params e h)

  pub shown_ledger : (rows : List Row) → IsPlain (understood ledger_schema sql) → Shown sql params old new rows → IsLedger new × (ledger_in new.now.trees ≡ ledger_in old.now.trees)
  shown_ledger rows plain h = same_ledger old new ledger (shown_same sql params old new rows (subst (λ s. IsPlain (understood s sql)) (sym ledger.at.schema_is) plain) h)

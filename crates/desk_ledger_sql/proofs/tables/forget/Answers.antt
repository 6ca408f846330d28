use Rattle.std.proofs.Common.{[], ◌∷◌, refl}
use Rattle.sqlite.specs.declared.types.Value.TheVariants.{Blob}
use Rattle.sqlite.proofs.Callers.{memory_is_clean}
use Rattle.desk_ledger_sql.specs.Told.{connected}
use Rattle.desk_ledger_sql.proofs.Statements.{refused_ledger}
use Rattle.desk_ledger_sql.proofs.Targets.{forgets_row}
use Rattle.desk_ledger_sql.proofs.tables.forget.Goals as goal

pub returns-in-Ok-clause-ledger : goal.returns-in-Ok-clause-ledger
returns-in-Ok-clause-ledger c =
    (forgets_row c.text.result.now c.text.ensures (connected c.args.conn.now) (connected c.execute.new.self) c.args.target.now c.in-Ok.field-0 c.requires (rw (c.as_bytes.ensures) at (c.in-Ok.ensures.runs (memory_is_clean c.execute.new.self)))).0

pub returns-in-Ok-clause-ok : goal.returns-in-Ok-clause-ok
returns-in-Ok-clause-ok c =
    (forgets_row c.text.result.now c.text.ensures (connected c.args.conn.now) (connected c.execute.new.self) c.args.target.now c.in-Ok.field-0 c.requires (rw (c.as_bytes.ensures) at (c.in-Ok.ensures.runs (memory_is_clean c.execute.new.self)))).1

pub returns-in-Err-clause-ledger : goal.returns-in-Err-clause-ledger
returns-in-Err-clause-ledger c =
    (refused_ledger (connected c.args.conn.now) (connected c.execute.new.self) c.requires refl c.text.result.now (Blob c.as_bytes.result.now ∷ []) c.in-Err.error (c.in-Err.ensures.runs (memory_is_clean c.execute.new.self))).0

pub returns-in-Err-clause-err : goal.returns-in-Err-clause-err
returns-in-Err-clause-err c =
    (refused_ledger (connected c.args.conn.now) (connected c.execute.new.self) c.requires refl c.text.result.now (Blob c.as_bytes.result.now ∷ []) c.in-Err.error (c.in-Err.ensures.runs (memory_is_clean c.execute.new.self))).1

use Rattle.std.proofs.Common.{refl}
use Rattle.sqlite.specs.Values.{bound}
use Rattle.sqlite.proofs.Callers.{memory_is_clean}
use Rattle.desk_ledger_sql.specs.Told.{connected}
use Rattle.desk_ledger_sql.proofs.Statements.{refused_ledger}
use Rattle.desk_ledger_sql.proofs.Puts.{puts_row}
use Rattle.desk_ledger_sql.proofs.tables.put.Goals as goal

pub returns-in-Ok-clause-ledger : goal.returns-in-Ok-clause-ledger
returns-in-Ok-clause-ledger c =
    (puts_row c.text.result.now c.text.ensures (connected c.args.conn.now) (connected c.execute.new.self) c.args.row.now c.in-Ok.field-0 c.requires (rw (c.row_values.ensures) at (c.in-Ok.ensures.runs (memory_is_clean c.execute.new.self)))).0

pub returns-in-Ok-clause-ok : goal.returns-in-Ok-clause-ok
returns-in-Ok-clause-ok c =
    (puts_row c.text.result.now c.text.ensures (connected c.args.conn.now) (connected c.execute.new.self) c.args.row.now c.in-Ok.field-0 c.requires (rw (c.row_values.ensures) at (c.in-Ok.ensures.runs (memory_is_clean c.execute.new.self)))).1

pub returns-in-Err-clause-ledger : goal.returns-in-Err-clause-ledger
returns-in-Err-clause-ledger c =
    (refused_ledger (connected c.args.conn.now) (connected c.execute.new.self) c.requires refl c.text.result.now (bound c.row_values.result) c.in-Err.error (c.in-Err.ensures.runs (memory_is_clean c.execute.new.self))).0

pub returns-in-Err-clause-err : goal.returns-in-Err-clause-err
returns-in-Err-clause-err c =
    (refused_ledger (connected c.args.conn.now) (connected c.execute.new.self) c.requires refl c.text.result.now (bound c.row_values.result) c.in-Err.error (c.in-Err.ensures.runs (memory_is_clean c.execute.new.self))).1

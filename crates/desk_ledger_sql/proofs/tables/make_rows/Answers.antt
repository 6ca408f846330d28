use Rattle.std.proofs.Common.{refl, ◌∙◌}
use Rattle.sqlite.proofs.Callers.{memory_is_clean}
use Rattle.desk_ledger_tables.specs.declared.statements.Statement.TheVariants.{MakeRows}
use Rattle.desk_ledger_tables.specs.Tables.{header_schema, rows_table}
use Rattle.desk_ledger_tables.proofs.Meanings.{command_found, statement_found}
use Rattle.desk_ledger_sql.specs.Told.{connected}
use Rattle.desk_ledger_sql.proofs.Statements.{creates, empty_ledger}
use Rattle.desk_ledger_sql.proofs.tables.make_rows.Goals as goal

pub returns-in-Ok-clause-ledger : goal.returns-in-Ok-clause-ledger
returns-in-Ok-clause-ledger c =
    let m = c.text.ensures in
    let made = creates c.text.result.now header_schema rows_table refl (command_found MakeRows _ m, statement_found MakeRows _ m, m.made) m.plain (connected c.args.conn.now) (connected c.execute.new.self) c.in-Ok.field-0 c.requires.at (c.in-Ok.ensures.runs (memory_is_clean c.execute.new.self)) in
    (empty_ledger (connected c.execute.new.self) made.0 (made.2.0 ∙ c.requires.empty) made.1).0

pub returns-in-Ok-clause-told : goal.returns-in-Ok-clause-told
returns-in-Ok-clause-told c =
    let m = c.text.ensures in
    let made = creates c.text.result.now header_schema rows_table refl (command_found MakeRows _ m, statement_found MakeRows _ m, m.made) m.plain (connected c.args.conn.now) (connected c.execute.new.self) c.in-Ok.field-0 c.requires.at (c.in-Ok.ensures.runs (memory_is_clean c.execute.new.self)) in
    (empty_ledger (connected c.execute.new.self) made.0 (made.2.0 ∙ c.requires.empty) made.1).1

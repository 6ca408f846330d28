use Rattle.std.proofs.Common.{refl}
use Rattle.sqlite.proofs.Callers.{memory_is_clean}
use Rattle.desk_ledger_tables.specs.declared.statements.Statement.TheVariants.{MakeHeaders}
use Rattle.desk_ledger_tables.specs.Tables.{no_schema, header_table}
use Rattle.desk_ledger_tables.proofs.Meanings.{command_found, statement_found}
use Rattle.desk_ledger_sql.specs.Told.{connected}
use Rattle.desk_ledger_sql.proofs.Statements.{creates}
use Rattle.desk_ledger_sql.proofs.tables.make_headers.Goals as goal

pub returns-in-Ok-clause-at : goal.returns-in-Ok-clause-at
returns-in-Ok-clause-at c =
    let m = c.text.ensures in
    (creates c.text.result.now no_schema header_table refl (command_found MakeHeaders _ m, statement_found MakeHeaders _ m, m.made) m.plain (connected c.args.conn.now) (connected c.execute.new.self) c.in-Ok.field-0 c.requires (c.in-Ok.ensures.runs (memory_is_clean c.execute.new.self))).0

pub returns-in-Ok-clause-empty : goal.returns-in-Ok-clause-empty
returns-in-Ok-clause-empty c =
    let m = c.text.ensures in
    (creates c.text.result.now no_schema header_table refl (command_found MakeHeaders _ m, statement_found MakeHeaders _ m, m.made) m.plain (connected c.args.conn.now) (connected c.execute.new.self) c.in-Ok.field-0 c.requires (c.in-Ok.ensures.runs (memory_is_clean c.execute.new.self))).1

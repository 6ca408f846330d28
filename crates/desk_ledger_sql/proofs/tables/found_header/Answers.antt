use Rattle.std.proofs.Common.{[], refl}
use Rattle.sqlite.proofs.Callers.{memory_is_clean}
use Rattle.desk_ledger_sql.specs.Told.{connected}
use Rattle.desk_ledger_sql.proofs.Statements.{unasked_ledger, shown_ledger}
use Rattle.desk_ledger_sql.proofs.Headers.{finds_header}
use Rattle.desk_ledger_sql.proofs.tables.found_header.Goals as goal

pub returns-in-Ok-clause-ledger : goal.returns-in-Ok-clause-ledger
returns-in-Ok-clause-ledger c =
    (shown_ledger (connected c.args.conn.now) (connected c.query_all.new.self) c.requires refl c.text.result.now ([]) c.in-Ok.found.items c.text.ensures.plain (c.in-Ok.ensures.ok (memory_is_clean c.query_all.new.self))).0

pub returns-in-Err-clause-ledger : goal.returns-in-Err-clause-ledger
returns-in-Err-clause-ledger c =
    (unasked_ledger (connected c.args.conn.now) (connected c.query_all.new.self) c.requires refl c.text.result.now ([]) c.in-Err.error (c.in-Err.ensures.err (memory_is_clean c.query_all.new.self))).0

pub returns-in-Ok-clause-told : goal.returns-in-Ok-clause-told
returns-in-Ok-clause-told c =
    (shown_ledger (connected c.args.conn.now) (connected c.query_all.new.self) c.requires refl c.text.result.now ([]) c.in-Ok.found.items c.text.ensures.plain (c.in-Ok.ensures.ok (memory_is_clean c.query_all.new.self))).1

pub returns-in-Err-clause-told : goal.returns-in-Err-clause-told
returns-in-Err-clause-told c =
    (unasked_ledger (connected c.args.conn.now) (connected c.query_all.new.self) c.requires refl c.text.result.now ([]) c.in-Err.error (c.in-Err.ensures.err (memory_is_clean c.query_all.new.self))).1

pub returns-in-Ok-clause-shows : goal.returns-in-Ok-clause-shows
returns-in-Ok-clause-shows c =
    finds_header c.text.result.now c.text.ensures (connected c.args.conn.now) (connected c.query_all.new.self) c.in-Ok.found.items c.requires (c.in-Ok.ensures.ok (memory_is_clean c.query_all.new.self))

use Rattle.std.proofs.Common.{◌≡◌, ap, sym, ◌∙◌, rules}
use Rattle.desk_ledger.specs.Ledger.{with_row}
use Rattle.desk_ledger_tables.specs.Rows.{shown_row}
use Rattle.desk_sqlite.proofs.Found.{one_more_row}
use Rattle.desk_sqlite.proofs.tables.take_rows.Goals as goal

pub loop-row-preserved : goal.loop-row-preserved
loop-row-preserved c =
    let row = c.row-item.result in
    let taken : c.take_row.new.contents ≡ with_row (shown_row row) c.loop-row.contents = search rules in
    taken ∙ ap (λ l. with_row (shown_row row) l) c.loop-row.invariant
    ∙ sym (one_more_row c.args.found.now c.loop-row.row-index row c.args.contents.now c.loop-row-test.true c.row-item.is)

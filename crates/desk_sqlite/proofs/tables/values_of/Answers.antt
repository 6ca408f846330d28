use Rattle.std.proofs.Common.{◌≡◌, ◌++◌, take, ap, sym, ◌∙◌, rules}
use Rattle.sqlite.specs.Values.{bound}
use Rattle.desk_ledger_tables.specs.Rows.{row_values}
use Rattle.desk_sqlite.specs.Statements.{values_in}
use Rattle.desk_sqlite.proofs.Rows.{bound_more, values_more}
use Rattle.desk_sqlite.proofs.tables.values_of.Goals as goal

pub loop-row-preserved : goal.loop-row-preserved
loop-row-preserved c =
    let row = c.row-item.result in
    let more : bound c.row_values.result ≡ row_values row = search rules in
    let grown : c.extend_from_slice.new.self.items ≡ c.loop-row.values.items ++ c.row_values.result = search rules in
    ap bound grown ∙ bound_more c.loop-row.values.items c.row_values.result
    ∙ ap (λ vs. vs ++ bound c.row_values.result) c.loop-row.invariant
    ∙ ap (λ vs. values_in (take c.loop-row.row-index c.args.rows.now) ++ vs) more
    ∙ sym (values_more c.args.rows.now c.loop-row.row-index row c.loop-row-test.true c.row-item.is)

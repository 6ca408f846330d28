use Rattle.std.proofs.Common.{◌∙◌, ap, rules}
use Rattle.desk_ledger.specs.Ledger.{Rows, without_row}
use Rattle.desk_ledger.proofs.Entries.{one_removed}
use Rattle.desk_ledger.proofs.contents.Contents.forget.Goals as goal

pub returns : goal.returns
returns c =
    let k = c.self.inside in
    ap (λ (rows : Rows). record { header = k.header; rows = rows })
    (one_removed k.rows.entries c.remove.new.self.entries c.args.target.now (search rules))
    ∙ ap (without_row c.args.target.now) c.self.view_is

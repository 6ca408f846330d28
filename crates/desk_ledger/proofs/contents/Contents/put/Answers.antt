use Rattle.std.proofs.Common.{◌≡◌, ◌∙◌, ap, sym, rules}
use Rattle.std.specs.FinMap as fin
use Rattle.desk_base.proofs.TextEntries.{entry_at, get_text, one_inserted}
use Rattle.desk_ledger.specs.Ledger.{Ledger, Rows, held_in, with_row}
use Rattle.desk_ledger.proofs.contents.Contents.put.Goals as goal

pub returns-clause-earlier : goal.returns-clause-earlier
returns-clause-earlier c =
    let es = c.self.inside.rows.entries in
    let older : c.in_ok-insert.field-0 ≡ entry_at es c.args.row.target = search rules in
    older ∙ sym (get_text es c.args.row.target) ∙ ap (λ (l : Ledger). fin.get l.rows c.args.row.target) c.self.view_is

pub returns-clause-ok : goal.returns-clause-ok
returns-clause-ok c =
    let k = c.self.inside in
    ap (λ (rows : Rows). record { header = k.header; rows = rows })
    (one_inserted k.rows.entries c.insert.new.self.entries c.args.row.target (held_in c.args.row) (search rules))
    ∙ ap (with_row c.args.row) c.self.view_is

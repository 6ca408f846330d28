use Rattle.std.proofs.Common.{◌≡◌, ◌∙◌, ap, sym, Some, None, rules}
use Rattle.std.specs.Prelude.{option_map}
use Rattle.std.specs.FinMap as fin
use Rattle.desk_base.proofs.TextEntries.{get_text}
use Rattle.desk_ledger.specs.Ledger.{Ledger, row_at}
use Rattle.desk_ledger.proofs.contents.Contents.find.Goals as goal

pub returns-in_ok-row_of-in-Some : goal.returns-in_ok-row_of-in-Some
returns-in_ok-row_of-in-Some c =
    let had : fin.get (fin.from_entries c.self.inside.rows.entries) c.args.target.now ≡ Some c.in-Some.held.now = get_text c.self.inside.rows.entries c.args.target.now ∙ search rules in
    ap Some c.in_ok-row_of-in-Some.ensures
    ∙ ap (option_map (row_at c.args.target.now)) (sym had ∙ ap (λ (l : Ledger). fin.get l.rows c.args.target.now) c.self.view_is)

pub returns-in-None : goal.returns-in-None
returns-in-None c =
    let had : fin.get (fin.from_entries c.self.inside.rows.entries) c.args.target.now ≡ None = get_text c.self.inside.rows.entries c.args.target.now ∙ search rules in
    ap (option_map (row_at c.args.target.now)) (sym had ∙ ap (λ (l : Ledger). fin.get l.rows c.args.target.now) c.self.view_is)

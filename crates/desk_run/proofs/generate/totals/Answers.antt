use Rattle.std.proofs.Common.{◌≡◌, None, ap, Some, rules}
use Rattle.std.specs.FinMap as fin
use Rattle.desk_ledger.specs.Ledger.{Ledger}
use Rattle.desk_run.proofs.InMemory.{totals_told}
use Rattle.desk_run.proofs.generate.totals.Goals as goal

pub returns-in-Ok : goal.returns-in-Ok
returns-in-Ok g c =
    let empty : Ledger = record { header = None; rows = fin.empty } in
    let ledger : c.deref_mut.result.now.ledger ≡ empty = search rules in
    totals_told c.args.count _ _ c.in-Ok.totals (ap Some ledger) c.in-Ok.ensures.completes

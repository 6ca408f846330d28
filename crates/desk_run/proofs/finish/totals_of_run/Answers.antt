use Rattle.std.proofs.Common.{◌≡◌, rules}
use Rattle.desk_run.specs.Asked.{asked_roots}
use Rattle.desk_run.specs.Reports.{summary_by}
use Rattle.desk_run.proofs.Ending.{told_totals}
use Rattle.desk_run.proofs.GeneratingSql.{told_completes}
use Rattle.desk_run.proofs.finish.totals_of_run.Goals as goal

pub returns-in-Ok-clause-totals : goal.returns-in-Ok-clause-totals
returns-in-Ok-clause-totals g c =
    let e : c.summary_of.result ≡ summary_by c.in-Ok.written.outcomes.items = search rules in
    told_totals (asked_roots c.args.names.now) _ _ _ _ c.in-Ok.written.planned.items c.in-Ok.written.outcomes.items c.summary_of.result c.in-Ok.ensures.written e

pub returns-in-Ok-clause-completes : goal.returns-in-Ok-clause-completes
returns-in-Ok-clause-completes g c =
    let e : c.summary_of.result ≡ summary_by c.in-Ok.written.outcomes.items = search rules in
    told_completes (asked_roots c.args.names.now) _ _ _ _ c.in-Ok.written.planned.items c.in-Ok.written.outcomes.items c.summary_of.result c.in-Ok.ensures.written e

use Rattle.std.proofs.Common.{◌≡◌, ap, sym, subst, Some, rules, Result}
use Rattle.std.specs.Prelude.{IfErr, IfOk, IfSome}
use Rattle.desk_report.specs.declared.lines.Summary.{Summary}
use Rattle.desk_report.specs.declared.status.Status.{Status}
use Rattle.desk_run.specs.Generated.{generated_contents}
use Rattle.desk_run.specs.GeneratedSql.{CompletesGenerated, StopsGenerated}
use Rattle.desk_run.proofs.GeneratingSql.{totals_complete, totals_stop}
use Rattle.desk_run.proofs.generate.totals_kept.Goals as goal

pub returns-in-Ok-clause-completes : goal.returns-in-Ok-clause-completes
returns-in-Ok-clause-completes g c =
    let contents : c.in-Ok.folders.contents ≡ generated_contents c.args.count = search rules in
    let P : Result Summary Status → Type 0 = λ r. IfOk r (λ totals. IfSome (g.K.Keeper.told c.args.keeper.now) (λ l0. CompletesGenerated c.args.count l0 (g.K.Keeper.told c.totals_of_run.new.keeper) (λ t. totals ≡ t))) in
    subst P (sym c.kept_totals.ensures)
    (totals_complete c.args.count c.args.roots.now _ _ _ c.totals_of_run.result c.requires.roots (ap Some contents) c.totals_of_run.ensures.completes)

pub returns-in-Ok-clause-stopped : goal.returns-in-Ok-clause-stopped
returns-in-Ok-clause-stopped g c =
    let contents : c.in-Ok.folders.contents ≡ generated_contents c.args.count = search rules in
    let P : Result Summary Status → Type 0 = λ r. IfErr r (StopsGenerated c.args.count (g.K.Keeper.told c.args.keeper.now) (g.K.Keeper.told c.totals_of_run.new.keeper) (g.K.Keeper.faults c.args.keeper.now) (g.K.Keeper.faults c.totals_of_run.new.keeper)) in
    subst P (sym c.kept_totals.ensures)
    (totals_stop c.args.count c.args.roots.now _ _ _ _ _ _ _ _ c.totals_of_run.result c.requires.roots (ap Some contents)
    c.totals_of_run.ensures.stopped c.totals_of_run.ensures.first c.totals_of_run.ensures.causes)

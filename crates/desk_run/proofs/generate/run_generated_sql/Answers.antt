use Rattle.desk_run.proofs.GeneratingSql.{result_tells}
use Rattle.desk_run.proofs.generate.run_generated_sql.Goals as goal

pub returns-in-Ok-clause-told : goal.returns-in-Ok-clause-told
returns-in-Ok-clause-told g c =
    result_tells c.args.count _ _ _ _ c.totals_kept.result c.tell_totals.result _ _ _ _ c.totals_kept.ensures.completes c.totals_kept.ensures.stopped c.tell_totals.ensures.told

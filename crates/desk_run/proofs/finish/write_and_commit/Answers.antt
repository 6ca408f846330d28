use Rattle.desk_file.specs.Linked.{image_in}
use Rattle.desk_run.proofs.NextFiles.{err_stops}
use Rattle.desk_run.proofs.finish.write_and_commit.Goals as goal

pub returns-in-Ok-clause-err : goal.returns-in-Ok-clause-err
returns-in-Ok-clause-err g c =
    err_stops c.args.names.now.to (image_in c.args.job.now.graph.now.rules c.args.job.now.graph.now.defined) c.args.names.now.from c.args.planned.now _ _ _ _ _ _ c.commit.ensures.told c.write_all-written.ensures.err c.write_all-written.ensures.fresh

use Rattle.std.proofs.Common.{refl}
use Rattle.desk_run.specs.Asked.{asked_roots}
use Rattle.desk_run.proofs.Gathering.{err_reading, ok_gathered}
use Rattle.desk_run.proofs.gather.gather.Goals as goal

pub returns-clause-gathered : goal.returns-clause-gathered
returns-clause-gathered g c =
    let e = c.gather_by.ensures in
    ok_gathered c.args.names.now _ c.gather_by.result e.rules e.are e.notes e.read e.few e.few_classes

pub returns-clause-err : goal.returns-clause-err
returns-clause-err g c = err_reading (asked_roots c.args.names.now) c.args.names.now _ _ _ c.gather_by.result refl c.gather_by.ensures.err

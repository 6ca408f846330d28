use Rattle.desk_run.specs.Asked.{asked_roots}
use Rattle.desk_run.proofs.Ending.{told_first, told_reported, told_stands}
use Rattle.desk_run.proofs.finish.run.Goals as goal

pub returns-in-Ok-clause-stands : goal.returns-in-Ok-clause-stands
returns-in-Ok-clause-stands g c =
    told_stands (asked_roots c.args.names.now) _ _ _ _ c.in-Ok.written.planned.items c.in-Ok.written.outcomes.items c.tell.result c.in-Ok.ensures.written c.tell.ensures.only

pub returns-in-Ok-clause-first : goal.returns-in-Ok-clause-first
returns-in-Ok-clause-first g c =
    told_first (asked_roots c.args.names.now) _ _ _ _ c.in-Ok.written.planned.items c.in-Ok.written.outcomes.items c.tell.result c.in-Ok.ensures.written c.tell.ensures.ends

pub returns-in-Ok-clause-output : goal.returns-in-Ok-clause-output
returns-in-Ok-clause-output g c =
    told_reported (asked_roots c.args.names.now) _ _ _ _ c.in-Ok.written.planned.items c.in-Ok.written.outcomes.items _ _ c.tell.result c.in-Ok.ensures.written c.tell.ensures.only c.tell.ensures.output

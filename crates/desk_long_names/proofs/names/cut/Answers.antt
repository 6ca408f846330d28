use Rattle.std.proofs.Common.{rules}
use Rattle.desk_long_names.proofs.Cuts.{cut_at_last}
use Rattle.desk_long_names.proofs.names.cut.Goals as goal

pub returns-in-Some-clause-folder : goal.returns-in-Some-clause-folder
returns-in-Some-clause-folder c =
    let split = cut_at_last c.args.path.now _ c.rsplit_once.ensures.cases in
    rw (← split) (grind rules)

pub returns-in-Some-clause-name : goal.returns-in-Some-clause-name
returns-in-Some-clause-name c =
    let split = cut_at_last c.args.path.now _ c.rsplit_once.ensures.cases in
    rw (← split) (grind rules)

pub returns-in-None-clause-folder : goal.returns-in-None-clause-folder
returns-in-None-clause-folder c =
    let split = cut_at_last c.args.path.now _ c.rsplit_once.ensures.cases in
    rw (← split) (grind rules)

pub returns-in-None-clause-name : goal.returns-in-None-clause-name
returns-in-None-clause-name c =
    let split = cut_at_last c.args.path.now _ c.rsplit_once.ensures.cases in
    rw (← split) (grind rules)

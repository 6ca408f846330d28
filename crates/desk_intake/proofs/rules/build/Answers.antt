use Rattle.desk_intake.proofs.Ruling.{are}
use Rattle.desk_intake.proofs.rules.build.Goals as goal

pub returns-in-Ok-clause-are : goal.returns-in-Ok-clause-are
returns-in-Ok-clause-are c = are c.args.files.now c.in-Ok.rules c.in-Ok.ensures.built c.in-Ok.ensures.settled

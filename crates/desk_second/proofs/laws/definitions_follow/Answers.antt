use Rattle.desk_second.proofs.Second.{definitions}
use Rattle.desk_second.proofs.laws.definitions_follow.Goals as goal

pub returns : goal.returns
returns c = definitions

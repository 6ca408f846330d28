use Rattle.desk_laws.proofs.Bodies.{new_pools as law}
use Rattle.desk_laws.proofs.laws.new_pools.Goals as goal

pub returns : goal.returns
returns c = law

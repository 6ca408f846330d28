use Rattle.desk_laws.proofs.Levels.{followed_values as law}
use Rattle.desk_laws.proofs.laws.followed_values.Goals as goal

pub returns : goal.returns
returns c = law

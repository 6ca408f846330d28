use Rattle.desk_laws.proofs.Whole.{refused_twins as law}
use Rattle.desk_laws.proofs.laws.refused_twins.Goals as goal

pub returns : goal.returns
returns c = law

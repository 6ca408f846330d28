use Rattle.desk_laws.proofs.Whole.{unchanged_classes as law}
use Rattle.desk_laws.proofs.laws.unchanged_classes.Goals as goal

pub returns : goal.returns
returns c = law

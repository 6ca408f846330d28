use Rattle.desk_laws.proofs.Whole.{renamed_classes as law}
use Rattle.desk_laws.proofs.laws.renamed_classes.Goals as goal

pub returns : goal.returns
returns c = law

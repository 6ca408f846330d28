use Rattle.desk_laws.proofs.Whole.{printed_classes as law}
use Rattle.desk_laws.proofs.laws.printed_classes.Goals as goal

pub returns : goal.returns
returns c = law

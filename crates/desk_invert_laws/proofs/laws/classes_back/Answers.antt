use Rattle.desk_invert_laws.proofs.laws.classes_back.Goals as goal
use Rattle.desk_invert_laws.proofs.Classes as classes

pub returns : goal.returns
returns c = classes.classes_back

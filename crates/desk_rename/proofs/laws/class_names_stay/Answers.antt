use Rattle.desk_rename.proofs.ImageLaws.{class_laws}
use Rattle.desk_rename.proofs.laws.class_names_stay.Goals as goal

pub returns : goal.returns
returns c = class_laws

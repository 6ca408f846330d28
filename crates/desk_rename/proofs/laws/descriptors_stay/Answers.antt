use Rattle.desk_rename.proofs.ImageLaws.{descriptor_laws}
use Rattle.desk_rename.proofs.laws.descriptors_stay.Goals as goal

pub returns : goal.returns
returns c = descriptor_laws

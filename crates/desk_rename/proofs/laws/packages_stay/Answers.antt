use Rattle.desk_rename.proofs.ImageLaws.{package_laws}
use Rattle.desk_rename.proofs.laws.packages_stay.Goals as goal

pub returns : goal.returns
returns c = package_laws

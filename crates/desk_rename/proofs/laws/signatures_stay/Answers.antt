use Rattle.desk_rename.proofs.ImageLaws.{signature_laws}
use Rattle.desk_rename.proofs.laws.signatures_stay.Goals as goal

pub returns : goal.returns
returns c = signature_laws

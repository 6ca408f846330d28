use Rattle.desk_rename.proofs.Utf8Images.{utf8_laws}
use Rattle.desk_rename.proofs.laws.modified_utf8_stays.Goals as goal

pub returns : goal.returns
returns c = utf8_laws

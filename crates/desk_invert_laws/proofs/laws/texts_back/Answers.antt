use Rattle.desk_invert_laws.proofs.laws.texts_back.Goals as goal
use Rattle.desk_invert_laws.proofs.Texts as texts

pub returns : goal.returns
returns c = texts.texts_back

use Rattle.desk_laws.proofs.Ascending.{missing_texts as law}
use Rattle.desk_laws.proofs.laws.missing_texts.Goals as goal

pub returns : goal.returns
returns c = law

use Rattle.desk_rewrite.proofs.Forms.{forms_kept}
use Rattle.desk_rewrite.proofs.laws.forms_stay.Goals as goal

pub returns : goal.returns
returns c = forms_kept

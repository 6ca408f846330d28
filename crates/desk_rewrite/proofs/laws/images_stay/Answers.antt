use Rattle.desk_rewrite.proofs.Forms.{images_settled}
use Rattle.desk_rewrite.proofs.laws.images_stay.Goals as goal

pub returns : goal.returns
returns c = images_settled

use Rattle.desk_format.proofs.Patched.{renamed_bodies as law}
use Rattle.desk_format.proofs.laws.renamed_bodies.Goals as goal

pub returns : goal.returns
returns c = law

use Rattle.desk_format.proofs.Patched.{printed_bodies as law}
use Rattle.desk_format.proofs.laws.printed_bodies.Goals as goal

pub returns : goal.returns
returns c = law

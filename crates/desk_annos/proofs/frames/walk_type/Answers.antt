use Rattle.std.proofs.Common.{arith}
use Rattle.std.proofs.lemmas.Bool.Decides.{nat_tests}
use Rattle.desk_annos.proofs.Steps.{nothing_selected}
use Rattle.desk_annos.proofs.frames.walk_type.Goals as goal

pub returns-in-0-to-6-clause-walks : goal.returns-in-0-to-6-clause-walks
returns-in-0-to-6-clause-walks g c = nothing_selected _ _ _ _ _ _ _ c.in_ok-tag.ensures.ok (grind (arith, nat_tests)) (grind (arith, nat_tests))

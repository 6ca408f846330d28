use Rattle.std.proofs.Common.{refl}
use Rattle.desk_rules.proofs.Beginnings.{none_begun}
use Rattle.desk_rules.proofs.firsts.FirstBytes.of.Goals as goal

pub loop-rule-init : goal.loop-rule-init
loop-rule-init g c = (record { each = λ byte small. none_begun byte small }, refl)

use Rattle.std.proofs.Common.{refl}
use Rattle.desk_compare.proofs.SameSteps.{operand_is}
use Rattle.desk_compare.proofs.steps.index_step.Goals as goal

pub returns-then-same_operand-clause-operand : goal.returns-then-same_operand-clause-operand
returns-then-same_operand-clause-operand c =
    operand_is c.args.known.now.left c.args.known.now.right c.args.operand _ _ _ _ c.front_index-i.ensures c.front_index-j.ensures (c.if-same_operand.ensures.same refl)

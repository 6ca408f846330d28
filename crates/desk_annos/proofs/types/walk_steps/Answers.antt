use Rattle.std.proofs.Common.{arith}
use Rattle.desk_format.specs.Annotations.{path_step}
use Rattle.desk_format.specs.Reading.{read}
use Rattle.desk_format.proofs.Walks.{times_on}
use Rattle.desk_annos.proofs.types.walk_steps.Goals as goal

pub loop-preserved : goal.loop-preserved
loop-preserved c =
    (λ us entries. times_on (read entries path_step) c.args.count c.loop.counter _ _ _ c.loop-test.true (c.in_ok-walk_step.ensures.walks us entries) (c.loop.invariant.0 us entries), (omega arith, omega arith))

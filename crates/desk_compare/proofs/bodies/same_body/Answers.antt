use Rattle.desk_compare.specs.Bodies.{pair}
use Rattle.desk_compare.proofs.Places.{body_ends}
use Rattle.desk_compare.proofs.bodies.same_body.Goals as goal

pub returns-in-Err-Ended : goal.returns-in-Err-Ended
returns-in-Err-Ended c =
    body_ends c.new.result c.args.pools.now.left.now.entries c.args.pools.now.right.now.entries (pair c.args.left.now c.args.right.now) c.in-Err-Ended.field-0 c.new.ensures c.in-Err-Ended.field-0-is c.in-Err-Ended.ensures

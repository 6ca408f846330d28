use Rattle.desk_format.specs.Walk.{walk_at}
use Rattle.desk_class.proofs.Uses.{interfaces_walked}
use Rattle.desk_class.proofs.body.read_interfaces.Goals as goal

pub returns : goal.returns
returns c = λ us.
    interfaces_walked _ _ us c.args.pool.now.entries (walk_at us c.args.cursor.now) (walk_at us c.read_number.new.cursor) c.in_ok-count.count (c.in_ok-count.ensures.walks us) c.in_ok-count.ensures.value (c.read_each_interface.ensures us)

use Rattle.std.proofs.Common.{arith}
use Rattle.desk_base.specs.declared.kinds.UseKind.TheVariants as kinds
use Rattle.desk_format.specs.Layouts.{Layout}
use Rattle.desk_format.specs.Reading.{read}
use Rattle.desk_format.specs.Walk.{walk_at}
use Rattle.desk_format.proofs.Walks.{times_on}
use Rattle.desk_class.proofs.body.read_each_interface.Goals as goal

pub loop-preserved : goal.loop-preserved
loop-preserved c = λ us.
    times_on (read c.args.pool.now.entries (Layout.index kinds.ClassName)) c.args.count c.loop.counter (walk_at us c.loop.cursor) (walk_at us c.read_class.new.cursor) _ (omega arith) (c.in_ok-read_class.ensures.walks us) (c.loop.invariant us)

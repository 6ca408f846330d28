use Rattle.std.proofs.Common.{◌≡◌, ◌-◌, List}
use Rattle.desk_base.specs.declared.kinds.Used.{Used}
use Rattle.desk_base.specs.declared.kinds.UseKind.TheVariants as kinds
use Rattle.desk_format.specs.Layouts.{Layout}
use Rattle.desk_format.specs.Reading.{read, times}
use Rattle.desk_format.specs.Walk.{walk, walk_at}
use Rattle.desk_class.proofs.body.read_each_interface.Given as goal

abbrev pub invariant-loop : goal.invariant-loop
invariant-loop l =
    (us : List Used) → walk (times (l.count - l.counter) (read l.pool.entries (Layout.index kinds.ClassName))) (walk_at us l.cursor)
    ≡ walk (times l.fn.count (read l.fn.pool.entries (Layout.index kinds.ClassName))) (walk_at us l.fn.cursor)

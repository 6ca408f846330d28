use Rattle.std.proofs.Common.{◌≡◌, ◌-◌, List}
use Rattle.desk_base.specs.Entries.{Pool}
use Rattle.desk_base.specs.declared.kinds.Used.{Used}
use Rattle.desk_format.specs.Annotations.{path_step}
use Rattle.desk_format.specs.Reading.{read, times}
use Rattle.desk_format.specs.Walk.{walk, walk_at}
use Rattle.desk_annos.specs.Stands.{StandsWithin}
use Rattle.desk_annos.proofs.types.walk_steps.Given as goal

abbrev pub invariant-loop : goal.invariant-loop
invariant-loop l =
    ((us : List Used) (entries : Pool) → walk (times (l.count - l.counter) (read entries path_step)) (walk_at us l.cursor)
    ≡ walk (times l.fn.count (read entries path_step)) (walk_at us l.fn.cursor))
    × StandsWithin l.fn.cursor l.cursor

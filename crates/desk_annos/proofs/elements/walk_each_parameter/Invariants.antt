use Rattle.std.proofs.Common.{◌≡◌, ◌-◌}
use Rattle.desk_format.specs.Annotations.{annotation}
use Rattle.desk_format.specs.Rows.{many}
use Rattle.desk_format.specs.Reading.{read, times}
use Rattle.desk_format.specs.Walk.{walk, walk_at}
use Rattle.desk_annos.specs.Stands.{StandsWithin}
use Rattle.desk_annos.proofs.elements.walk_each_parameter.Given as goal

abbrev pub invariant-loop : goal.invariant-loop
invariant-loop g l =
    (walk (times (l.count - l.counter) (read (g.P.PoolView.pool l.pool) (many annotation))) (walk_at (g.V.Visit.taken l.visit) l.cursor)
    ≡ walk (times l.fn.count (read (g.P.PoolView.pool l.fn.pool) (many annotation))) (walk_at (g.V.Visit.taken l.fn.visit) l.fn.cursor))
    × StandsWithin l.fn.cursor l.cursor

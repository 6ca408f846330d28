use Rattle.std.proofs.Common.{◌≡◌, ◌-◌}
use Rattle.desk_format.specs.Rows.{row_layout}
use Rattle.desk_format.specs.Reading.{read, times}
use Rattle.desk_format.specs.Walk.{walk, walk_at}
use Rattle.desk_annos.specs.Stands.{StandsWithin}
use Rattle.desk_annos.proofs.rows.walk_rows.Given as goal

abbrev pub invariant-loop : goal.invariant-loop
invariant-loop g l =
    (walk (times (l.rows - l.counter) (read (g.P.PoolView.pool l.pool) (row_layout l.slots))) (walk_at (g.V.Visit.taken l.visit) l.cursor)
    ≡ walk (times l.fn.rows (read (g.P.PoolView.pool l.fn.pool) (row_layout l.fn.slots))) (walk_at (g.V.Visit.taken l.fn.visit) l.fn.cursor))
    × StandsWithin l.fn.cursor l.cursor

use Rattle.std.proofs.Common.{◌≡◌, ◌-◌}
use Rattle.std.proofs.Common.{◌∷◌, []}
use Rattle.desk_format.specs.Rows.{rows, row_layout, table_layout}
use Rattle.desk_format.specs.Reading.{read, times}
use Rattle.desk_format.specs.Walk.{walk, walk_at}
use Rattle.desk_annos.specs.Stands.{StandsWithin}
use Rattle.desk_attrs.proofs.parts.walk_each_row_and_table.Given as goal

abbrev pub invariant-loop : goal.invariant-loop
invariant-loop g l =
    (walk (times (l.count - l.counter) (read (g.P.PoolView.pool l.pool) (rows (row_layout l.row ∷ table_layout l.behind ∷ [])))) (walk_at (g.V.Visit.taken l.visit) l.cursor)
    ≡ walk (times l.fn.count (read (g.P.PoolView.pool l.fn.pool) (rows (row_layout l.fn.row ∷ table_layout l.fn.behind ∷ [])))) (walk_at (g.V.Visit.taken l.fn.visit) l.fn.cursor))
    × StandsWithin l.fn.cursor l.cursor

use Rattle.std.proofs.Common.{◌≡◌, drop}
use Rattle.desk_format.specs.Rows.{row_layout}
use Rattle.desk_format.specs.Reading.{read}
use Rattle.desk_format.specs.Walk.{walk, walk_at}
use Rattle.desk_annos.specs.Stands.{StandsWithin}
use Rattle.desk_annos.proofs.rows.walk_row.Given as goal

-- walking on over the slots that are left is walking over all
abbrev pub invariant-loop-slot : goal.invariant-loop-slot
invariant-loop-slot g l =
    (walk (read (g.P.PoolView.pool l.pool) (row_layout (drop l.slot-index l.slots))) (walk_at (g.V.Visit.taken l.visit) l.cursor)
    ≡ walk (read (g.P.PoolView.pool l.fn.pool) (row_layout l.fn.slots)) (walk_at (g.V.Visit.taken l.fn.visit) l.fn.cursor))
    × StandsWithin l.fn.cursor l.cursor

use Rattle.std.proofs.Common.{◌≡◌, ◌-◌}
use Rattle.desk_format.specs.Frames.{frame}
use Rattle.desk_format.specs.Reading.{read, times}
use Rattle.desk_format.specs.Walk.{walk, walk_at}
use Rattle.desk_annos.specs.Stands.{StandsWithin}
use Rattle.desk_annos.proofs.frames.walk_each_frame.Given as goal

abbrev pub invariant-loop : goal.invariant-loop
invariant-loop g l =
    (walk (times (l.count - l.counter) (read (g.P.PoolView.pool l.pool) frame)) (walk_at (g.V.Visit.taken l.visit) l.cursor)
    ≡ walk (times l.fn.count (read (g.P.PoolView.pool l.fn.pool) frame)) (walk_at (g.V.Visit.taken l.fn.visit) l.fn.cursor))
    × StandsWithin l.fn.cursor l.cursor

use Rattle.std.proofs.Common.{◌≡◌, ◌+◌, ◌-◌, ◌*◌}
use Rattle.desk_format.specs.Annotations.{element, pair_of}
use Rattle.desk_format.specs.Reading.{read, times}
use Rattle.desk_format.specs.Walk.{walk, walk_at}
use Rattle.desk_annos.specs.Stands.{StandsWithin}
use Rattle.desk_annos.proofs.elements.+elements.Given as goal

abbrev pub decreases-walk_element : goal.decreases-walk_element
decreases-walk_element g l = 5 * (65 - l.depth)

abbrev pub decreases-walk_elements : goal.decreases-walk_elements
decreases-walk_elements g l = 5 * (65 - l.depth) + 1

abbrev pub decreases-walk_array : goal.decreases-walk_array
decreases-walk_array g l = 5 * (65 - l.depth) + 2

abbrev pub decreases-walk_pair : goal.decreases-walk_pair
decreases-walk_pair g l = 5 * (65 - l.depth) + 1

abbrev pub decreases-walk_pairs : goal.decreases-walk_pairs
decreases-walk_pairs g l = 5 * (65 - l.depth) + 2

abbrev pub decreases-walk_pair_table : goal.decreases-walk_pair_table
decreases-walk_pair_table g l = 5 * (65 - l.depth) + 3

abbrev pub decreases-walk_annotation : goal.decreases-walk_annotation
decreases-walk_annotation g l = 5 * (65 - l.depth) + 4

abbrev pub invariant-walk_elements-loop : goal.invariant-walk_elements-loop
invariant-walk_elements-loop g l =
    (walk (times (l.count - l.counter) (read (g.P.PoolView.pool l.pool) (element (65 - l.depth)))) (walk_at (g.V.Visit.taken l.visit) l.cursor)
    ≡ walk (times l.fn.count (read (g.P.PoolView.pool l.fn.pool) (element (65 - l.fn.depth)))) (walk_at (g.V.Visit.taken l.fn.visit) l.fn.cursor))
    × StandsWithin l.fn.cursor l.cursor

abbrev pub invariant-walk_pairs-loop : goal.invariant-walk_pairs-loop
invariant-walk_pairs-loop g l =
    (walk (times (l.count - l.counter) (read (g.P.PoolView.pool l.pool) (pair_of (element (65 - l.depth))))) (walk_at (g.V.Visit.taken l.visit) l.cursor)
    ≡ walk (times l.fn.count (read (g.P.PoolView.pool l.fn.pool) (pair_of (element (65 - l.fn.depth))))) (walk_at (g.V.Visit.taken l.fn.visit) l.fn.cursor))
    × StandsWithin l.fn.cursor l.cursor

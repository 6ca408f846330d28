use Rattle.std.proofs.Common.{◌≡◌, ◌+◌, ◌-◌, ◌*◌, drop, map}
use Rattle.desk_format.specs.Rows.{rows}
use Rattle.desk_parts.specs.Steps.{along, times_on, location_on}
use Rattle.desk_parts.specs.Parts.{part_layout, rank, level, depth_of}
use Rattle.desk_parts.proofs.walk.+parts.Given as goal

abbrev pub decreases-walk_part : goal.decreases-walk_part
decreases-walk_part g l = 4 * rank l.part

abbrev pub decreases-walk_times : goal.decreases-walk_times
decreases-walk_times g l = 4 * rank l.part + 1

abbrev pub invariant-walk_times-loop : goal.invariant-walk_times-loop
invariant-walk_times-loop g l =
    times_on (l.count - l.counter) (along (g.W.Walker.steps l.walker) (part_layout l.part)) (g.W.Walker.state l.position)
    ≡ times_on l.fn.count (along (g.W.Walker.steps l.fn.walker) (part_layout l.fn.part)) (g.W.Walker.state l.fn.position)

abbrev pub decreases-walk_row : goal.decreases-walk_row
decreases-walk_row g l = 4 * depth_of l.parts.now + 1

abbrev pub decreases-walk_attribute : goal.decreases-walk_attribute
decreases-walk_attribute g l = 4 * level l.location + 1

abbrev pub decreases-walk_attributes : goal.decreases-walk_attributes
decreases-walk_attributes g l = 4 * level l.location + 2

abbrev pub invariant-walk_row-loop-part : goal.invariant-walk_row-loop-part
invariant-walk_row-loop-part g l =
    along (g.W.Walker.steps l.walker) (rows (map part_layout (drop l.part-index l.parts))) (g.W.Walker.state l.position)
    ≡ along (g.W.Walker.steps l.fn.walker) (rows (map part_layout l.fn.parts)) (g.W.Walker.state l.fn.position)

abbrev pub invariant-walk_attributes-loop : goal.invariant-walk_attributes-loop
invariant-walk_attributes-loop g l =
    times_on (l.count - l.counter) (location_on (g.W.Walker.steps l.walker) l.location) (g.W.Walker.state l.position)
    ≡ times_on l.fn.count (location_on (g.W.Walker.steps l.fn.walker) l.fn.location) (g.W.Walker.state l.fn.position)

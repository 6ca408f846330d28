use Rattle.std.proofs.Common.{◌≡◌, drop}
use Rattle.desk_format.specs.Rows.{row_layout}
use Rattle.desk_parts.specs.Steps.{along}
use Rattle.desk_parts.proofs.walk.walk_slots.Given as goal

abbrev pub invariant-loop-slot : goal.invariant-loop-slot
invariant-loop-slot g l = along (g.W.Walker.steps l.walker) (row_layout (drop l.slot-index l.slots)) (g.W.Walker.state l.position) ≡ along (g.W.Walker.steps l.fn.walker) (row_layout l.fn.slots) (g.W.Walker.state l.fn.position)

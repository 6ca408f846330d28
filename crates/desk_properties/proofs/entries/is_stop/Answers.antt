use Rattle.std.proofs.Common.{◌∙◌}
use Rattle.desk_properties.proofs.Fronts.{stop_at, stop_last}
use Rattle.desk_properties.proofs.entries.is_stop.Goals as goal

pub returns-then-at-file : goal.returns-then-at-file
returns-then-at-file c = c.is_stop_byte.ensures ∙ stop_at c.args.file.now c.args.at c.args.part c.if-at-file.true

pub returns-else-at-file : goal.returns-else-at-file
returns-else-at-file c = stop_last c.args.file.now c.args.at c.args.part c.if-at-file.false

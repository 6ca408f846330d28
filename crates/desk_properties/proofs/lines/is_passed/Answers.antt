use Rattle.std.proofs.Common.{◌∙◌}
use Rattle.desk_properties.proofs.Skips.{passed_at, passed_last}
use Rattle.desk_properties.proofs.lines.is_passed.Goals as goal

pub returns-then-at-file : goal.returns-then-at-file
returns-then-at-file c = c.is_passed_byte.ensures ∙ passed_at c.args.file.now c.args.at c.if-at-file.true

pub returns-else-at-file : goal.returns-else-at-file
returns-else-at-file c = passed_last c.args.file.now c.args.at c.if-at-file.false

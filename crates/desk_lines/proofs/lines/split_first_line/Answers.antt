use Rattle.std.proofs.Common.{rules}
use Rattle.desk_lines.proofs.FirstEnds.{whole_line, one_line}
use Rattle.desk_lines.proofs.lines.split_first_line.Goals as goal

pub returns-clause-whole : goal.returns-clause-whole
returns-clause-whole c = whole_line c.args.text.now c.split_at.result.0.now c.split_at-2.result.1.now c.first_end-at.result.1 (search rules)

pub returns-clause-one_line : goal.returns-clause-one_line
returns-clause-one_line c = one_line c.args.text.now c.split_at.result.0.now c.split_at-2.result.1.now c.first_end-at.result.1 (search rules)

use Rattle.desk_lines.proofs.LineLaws.{lines-joined}
use Rattle.desk_lines.proofs.laws.well_ended_lines_are_found.Goals as goal

pub returns : goal.returns
returns c = lines-joined

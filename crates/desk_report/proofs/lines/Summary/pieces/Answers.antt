use Rattle.std.proofs.Common.{ap}
use Rattle.desk_report.specs.Pieces.{pieces_text}
use Rattle.desk_report.proofs.lines.Summary.pieces.Goals as goal

pub returns : goal.returns
returns c = ap pieces_text c.of.ensures

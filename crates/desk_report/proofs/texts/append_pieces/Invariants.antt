use Rattle.std.proofs.Common.{◌≡◌, ◌++◌, take}
use Rattle.desk_report.specs.Pieces.{pieces_text}
use Rattle.desk_report.proofs.texts.append_pieces.Given as goal

abbrev pub invariant-loop-piece : goal.invariant-loop-piece
invariant-loop-piece l = l.lines ≡ l.fn.lines ++ pieces_text (take l.piece-index l.pieces)

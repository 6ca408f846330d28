use Rattle.std.proofs.Common.{take, ◌≤◌}
use Rattle.desk_report.specs.Pieces.{Gathers, pieces_text}
use Rattle.desk_report.proofs.writer.put_pieces.Given as goal

abbrev pub invariant-loop-piece : goal.invariant-loop-piece
invariant-loop-piece g l = record {
  gathered : Gathers (pieces_text (take l.piece-index l.pieces)) l.fn.waiting l.waiting (g.O.Sink.told l.fn.out) (g.O.Sink.told l.out);
  counts : g.O.Sink.faults l.fn.out ≤ g.O.Sink.faults l.out;
}

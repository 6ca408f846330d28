use Rattle.std.proofs.Common.{take, ◌≤◌}
use Rattle.desk_report.specs.Pieces.{Gathers}
use Rattle.desk_report.proofs.writer.put_all.Given as goal

abbrev pub invariant-loop-byte : goal.invariant-loop-byte
invariant-loop-byte g l = record {
  gathered : Gathers (take l.byte-index l.bytes) l.fn.waiting l.waiting (g.O.Sink.told l.fn.out) (g.O.Sink.told l.out);
  counts : g.O.Sink.faults l.fn.out ≤ g.O.Sink.faults l.out;
}

use Rattle.std.proofs.Common.{take, ◌≤◌}
use Rattle.std.specs.List.{flat_map}
use Rattle.desk_base.specs.Shown.{shown_byte}
use Rattle.desk_report.specs.Pieces.{Gathers}
use Rattle.desk_report.proofs.writer.put_bytes.Given as goal

abbrev pub invariant-loop-byte : goal.invariant-loop-byte
invariant-loop-byte g l = record {
  gathered : Gathers (flat_map shown_byte (take l.byte-index l.text)) l.fn.waiting l.waiting (g.O.Sink.told l.fn.out) (g.O.Sink.told l.out);
  counts : g.O.Sink.faults l.fn.out ≤ g.O.Sink.faults l.out;
}

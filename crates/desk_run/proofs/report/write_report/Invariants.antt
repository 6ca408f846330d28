use Rattle.std.proofs.Common.{◌≡◌, ◌≤◌, length, []}
use Rattle.desk_report.specs.Pieces.{Gathers}
use Rattle.desk_run.specs.Reports.{lines_of}
use Rattle.desk_run.proofs.report.write_report.Given as goal

abbrev pub invariant-loop-file : goal.invariant-loop-file
invariant-loop-file g l = record {
  place : l.place ≡ length l.yielded;
  told : Gathers (lines_of l.yielded l.outcomes) [] l.waiting (g.O.Sink.told l.fn.out) (g.O.Sink.told l.out);
  counts : g.O.Sink.faults l.fn.out ≤ g.O.Sink.faults l.out;
}

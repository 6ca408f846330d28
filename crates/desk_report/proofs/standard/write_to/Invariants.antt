use Rattle.std.proofs.Common.{length}
use Rattle.desk_report.proofs.Taken.{IsWritten}
use Rattle.desk_report.proofs.standard.write_to.Given as goal

abbrev pub invariant-loop-rest : goal.invariant-loop-rest
invariant-loop-rest g l = IsWritten l.bytes l.rest (g.W.Write.contents l.fn.writer) (g.W.Write.contents l.writer)

abbrev pub decreases-loop-rest : goal.decreases-loop-rest
decreases-loop-rest g l = length l.rest

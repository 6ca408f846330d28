use Rattle.std.proofs.Common.{length}
use Rattle.desk_sections.proofs.Headed.{IsSkippedTo}
use Rattle.desk_sections.proofs.headers.skip_continuations.Given as goal

abbrev pub invariant-loop-line : goal.invariant-loop-line
invariant-loop-line l = IsSkippedTo l.text l.fn.end l.end l.rest

abbrev pub decreases-loop-line : goal.decreases-loop-line
decreases-loop-line l = length l.rest

use Rattle.std.proofs.Common.{◌≡◌, ◌++◌, length}
use Rattle.desk_lines.specs.Lines.{lines}
use Rattle.desk_sections.specs.Sections.{unfolded}
use Rattle.desk_sections.proofs.headers.append_unfolded.Given as goal

abbrev pub invariant-loop-line : goal.invariant-loop-line
invariant-loop-line l = l.out ++ unfolded (lines l.rest) ≡ l.fn.out ++ unfolded (lines l.text)

abbrev pub decreases-loop-line : goal.decreases-loop-line
decreases-loop-line l = length l.rest

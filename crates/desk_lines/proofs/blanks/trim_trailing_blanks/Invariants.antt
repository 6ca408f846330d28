use Rattle.std.proofs.Common.{◌≡◌, ◌≤◌, length, take}
use Rattle.desk_lines.specs.Blanks.{trimmed_end}
use Rattle.desk_lines.proofs.blanks.trim_trailing_blanks.Given as goal

abbrev pub invariant-loop-end : goal.invariant-loop-end
invariant-loop-end l = record { within : l.end ≤ length l.text; so_far : trimmed_end (take l.end l.text) ≡ trimmed_end l.text }

abbrev pub decreases-loop-end : goal.decreases-loop-end
decreases-loop-end l = l.end

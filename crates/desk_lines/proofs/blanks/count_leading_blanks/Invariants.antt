use Rattle.std.proofs.Common.{◌≡◌, ◌<◌, ℕ, get_or, false}
use Rattle.desk_lines.specs.Blanks.{not_blank}
use Rattle.desk_lines.proofs.blanks.count_leading_blanks.Given as goal

abbrev pub invariant-loop-i : goal.invariant-loop-i
invariant-loop-i l = (k : ℕ) → k < l.i → not_blank (get_or l.text k 0) ≡ false

use Rattle.std.proofs.Common.{◌≡◌, ◌≤◌, ◌++◌, length}
use Rattle.desk_sections.specs.Folding.{folded_bytes, pieces}
use Rattle.desk_sections.proofs.folding.append_folded.Given as goal

abbrev pub invariant-loop-limit : goal.invariant-loop-limit
invariant-loop-limit l = (1 ≤ l.limit) × (l.fn.out ++ folded_bytes l.between l.last (pieces (length l.text) 72 l.text) ≡ l.out ++ folded_bytes l.between l.last (pieces (length l.rest) l.limit l.rest))

abbrev pub decreases-loop-limit : goal.decreases-loop-limit
decreases-loop-limit l = length l.rest

use Rattle.std.proofs.Common.{◌≡◌, ◌≤◌}
use Rattle.desk_sections.specs.Folding.{last_start}
use Rattle.desk_sections.proofs.folding.cut_place.Given as goal

abbrev pub invariant-loop-place : goal.invariant-loop-place
invariant-loop-place l = (l.place ≤ l.limit) × (last_start l.limit l.text ≡ last_start l.place l.text)

abbrev pub decreases-loop-place : goal.decreases-loop-place
decreases-loop-place l = l.place

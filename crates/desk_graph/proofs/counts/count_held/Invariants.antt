use Rattle.std.proofs.Common.{◌≡◌, ◌≤◌, take, count_by}
use Rattle.desk_graph.specs.Tables.{holds}
use Rattle.desk_graph.proofs.counts.count_held.Given as goal

abbrev pub invariant-loop-place : goal.invariant-loop-place
invariant-loop-place l = (l.count ≡ count_by (holds l.defined) (take l.place l.held)) × (l.count ≤ l.place)

use Rattle.std.proofs.Common.{◌≡◌, length}
use Rattle.desk_graph.specs.Alike.{AreAlike}
use Rattle.desk_graph.proofs.scanned.without_paths.Given as goal

abbrev pub invariant-loop-place : goal.invariant-loop-place
invariant-loop-place l = AreAlike l.kept.items l.initial.kept.items × (length l.kept.items ≡ length l.initial.kept.items)

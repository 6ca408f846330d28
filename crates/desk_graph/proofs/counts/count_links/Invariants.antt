use Rattle.std.proofs.Common.{◌≡◌, ◌++◌, drop, map, count_by}
use Rattle.desk_graph.specs.Tables.{holds}
use Rattle.desk_graph.specs.declared.scanned.Scanned.{Scanned}
use Rattle.desk_graph.proofs.counts.count_links.Given as goal

abbrev pub invariant-loop-class : goal.invariant-loop-class
invariant-loop-class l = l.counts.items ++ map (λ (s : Scanned). count_by (holds l.defined) s.held) (drop l.class-index l.classes) ≡ map (λ (s : Scanned). count_by (holds l.defined) s.held) l.classes

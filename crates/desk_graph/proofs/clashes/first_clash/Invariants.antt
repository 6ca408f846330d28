use Rattle.std.proofs.Common.{◌≡◌}
use Rattle.desk_base.specs.Names.{Text}
use Rattle.desk_graph.specs.Tables.{IsKnownBy}
use Rattle.desk_graph.proofs.Clashing.{left}
use Rattle.desk_graph.proofs.clashes.first_clash.Given as goal

abbrev pub invariant-loop-place : goal.invariant-loop-place
invariant-loop-place l = (f : Text → Text) → IsKnownBy f l.known → left f l.known l.nodes l.place ≡ left f l.known l.nodes 0

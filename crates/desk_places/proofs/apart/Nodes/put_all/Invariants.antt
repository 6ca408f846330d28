use Rattle.std.proofs.Common.{◌≡◌, ◌||◌, take}
use Rattle.desk_places.specs.declared.places.Node.{Node}
use Rattle.desk_places.specs.Places.{holds}
use Rattle.desk_places.proofs.apart.Nodes.put_all.Given as goal

abbrev pub invariant-loop-node : goal.invariant-loop-node
invariant-loop-node l = (other : Node) → holds l.self other ≡ (holds (take l.node-index l.nodes) other || holds l.initial.self other)

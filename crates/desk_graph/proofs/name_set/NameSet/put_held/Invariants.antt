use Rattle.std.proofs.Common.{◌≡◌, drop}
use Rattle.desk_class.specs.Held.{put_all}
use Rattle.desk_graph.proofs.name_set.NameSet.put_held.Given as goal

abbrev pub invariant-loop-place : goal.invariant-loop-place
invariant-loop-place l = put_all l.self (drop l.place l.held) ≡ put_all l.fn.self l.held

use Rattle.std.proofs.Common.{◌≡◌, drop}
use Rattle.desk_class.specs.Held.{put_all, ascending}
use Rattle.desk_graph.specs.Application.{names}
use Rattle.desk_graph.proofs.names.all_names.Given as goal

abbrev pub invariant-loop-class : goal.invariant-loop-class
invariant-loop-class l = put_all l.all (names (drop l.class-index l.classes)) ≡ ascending (names l.classes)

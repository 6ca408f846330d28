use Rattle.std.proofs.Common.{◌≡◌, drop}
use Rattle.desk_class.specs.Held.{put_all, ascending}
use Rattle.desk_graph.specs.Application.{defined_names}
use Rattle.desk_graph.specs.Tables.{texts}
use Rattle.desk_graph.proofs.names.defined_in.Given as goal

abbrev pub invariant-loop-class : goal.invariant-loop-class
invariant-loop-class l = put_all (texts l.set) (defined_names (drop l.class-index l.classes)) ≡ ascending (defined_names l.classes)

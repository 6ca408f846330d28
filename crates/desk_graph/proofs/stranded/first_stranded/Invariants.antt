use Rattle.std.proofs.Common.{◌≡◌, drop, option_map, None}
use Rattle.desk_base.specs.Names.{Text}
use Rattle.desk_graph.specs.Application.{least_onto, stranded_among}
use Rattle.desk_graph.specs.Nodes.{firsts, defined_of}
use Rattle.desk_graph.specs.Strandings.{stranding_pair}
use Rattle.desk_graph.specs.Tables.{IsKnownBy}
use Rattle.desk_graph.proofs.stranded.first_stranded.Given as goal

abbrev pub invariant-loop-class : goal.invariant-loop-class
invariant-loop-class l = (f : Text → Text) → IsKnownBy f l.known
    → least_onto (option_map stranding_pair l.best) (stranded_among f (defined_of (firsts l.known) l.nodes) (drop l.class-index l.classes))
    ≡ least_onto None (stranded_among f (defined_of (firsts l.known) l.nodes) l.classes)

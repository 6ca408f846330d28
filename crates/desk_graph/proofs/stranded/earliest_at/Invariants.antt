use Rattle.std.proofs.Common.{◌≡◌, drop, option_map}
use Rattle.desk_base.specs.Names.{Text}
use Rattle.desk_graph.specs.Application.{least_onto, stranded_at}
use Rattle.desk_graph.specs.Nodes.{firsts, defined_of}
use Rattle.desk_graph.specs.Strandings.{stranding_pair}
use Rattle.desk_graph.specs.Tables.{IsKnownBy}
use Rattle.desk_graph.proofs.stranded.earliest_at.Given as goal

abbrev pub invariant-loop-place : goal.invariant-loop-place
invariant-loop-place l = (f : Text → Text) → IsKnownBy f l.known
    → least_onto (option_map stranding_pair l.best) (stranded_at f (defined_of (firsts l.known) l.nodes) l.class.path (drop l.place l.class.held))
    ≡ least_onto (option_map stranding_pair l.initial.best) (stranded_at f (defined_of (firsts l.known) l.nodes) l.class.path l.class.held)

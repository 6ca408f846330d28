use Rattle.std.proofs.Common.{◌∙◌, sym, ap, Bool, ◌||◌}
use Rattle.desk_graph.specs.Tables.{is_name}
use Rattle.desk_graph.proofs.Sets.{named_by}
use Rattle.desk_graph.proofs.clashes.is_met.Goals as goal

pub returns-else-holds : goal.returns-else-holds
returns-else-holds c =
    c.is_some.ensures
    ∙ named_by c.args.known.now c.args.image.now c.place_of.result c.place_of.ensures
    ∙ ap (λ (b : Bool). b || is_name c.args.known.now c.args.image.now) (sym c.if-holds.false ∙ c.holds.ensures)

use Rattle.std.proofs.Common.{◌∙◌, sym, ap, option_map, None, Option}
use Rattle.desk_graph.specs.Application.{Pair, with_other}
use Rattle.desk_graph.specs.Tables.{holds}
use Rattle.desk_graph.proofs.Sets.{unshared}
use Rattle.desk_graph.proofs.clashes.clash_of.Goals as goal

pub returns-then-not-holds-clause-pair : goal.returns-then-not-holds-clause-pair
returns-then-not-holds-clause-pair c =
    let e = unshared (holds c.args.shared.now) c.args.known.now c.args.one.now c.requires.shared c.requires.there (ap (holds c.args.shared.now) (sym c.image.ensures) ∙ sym c.holds.ensures ∙ c.if-not-holds.true) in
    sym (ap (λ (o : Option Pair). with_other c.args.one.now.0 (option_map (λ (k : Pair). k.0) o) None) e)

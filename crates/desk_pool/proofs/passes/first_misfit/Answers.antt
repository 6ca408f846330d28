use Rattle.std.proofs.Common.{sym, ◌∙◌}
use Rattle.std.proofs.lemmas.Bool.{false≢true}
use Rattle.desk_pool.specs.Seen.{seen}
use Rattle.desk_pool.proofs.Fits.{all_fit}
use Rattle.desk_pool.proofs.passes.first_misfit.Goals as goal

pub unreachable-requires : goal.unreachable-requires
unreachable-requires c =
    let pool = seen c.args.slots.now in
    false≢true (sym c.requires.misfit ∙ all_fit pool pool c.args.start (sym c.first_fault.ensures ∙ c.in_default.is) (sym c.first_fault-2.ensures ∙ c.in-None.is))

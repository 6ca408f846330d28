use Rattle.std.proofs.Common.{◌∙◌}
use Rattle.desk_chains.proofs.chain.second_of.Goals as goal

pub returns : goal.returns
returns g c = c.first_led.ensures ∙ c.candidates.ensures

use Rattle.std.proofs.Common.{◌∙◌, List, ap}
use Rattle.std.specs.List.{find}
use Rattle.desk_chains.specs.Chains.{one_then_another}
use Rattle.desk_entries.specs.Exchanges.{Exchange}
use Rattle.desk_chains.proofs.Chains.{find_filtered, directs_only}
use Rattle.desk_chains.proofs.chain.DirectRuleLeadsToAsGiven.candidates.Goals as goal

pub returns : goal.returns
returns c =
    ap (λ (es : List Exchange). find (one_then_another c.args.self.now) es) c.rules_at.ensures
    ∙ find_filtered _ (one_then_another c.args.self.now) c.args.rules.now (λ e k. directs_only c.args.self.now e c.target.result.now c.target.ensures k)

use Rattle.std.proofs.Common.{◌∙◌, List, ap}
use Rattle.std.specs.List.{find}
use Rattle.desk_chains.specs.Chains.{update_then_update}
use Rattle.desk_entries.specs.Exchanges.{BundleUpdate}
use Rattle.desk_chains.proofs.Chains.{find_filtered, bundles_only}
use Rattle.desk_chains.proofs.chain.BundleRuleLeadsToAsGiven.candidates.Goals as goal

pub returns : goal.returns
returns c =
    ap (λ (us : List BundleUpdate). find (update_then_update c.args.self.now) us) c.rules_at.ensures
    ∙ find_filtered _ (update_then_update c.args.self.now) c.args.rules.now (λ u k. bundles_only c.args.self.now u c.name.result.now c.name.ensures k)

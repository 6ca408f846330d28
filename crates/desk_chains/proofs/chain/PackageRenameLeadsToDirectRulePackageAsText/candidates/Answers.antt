use Rattle.std.proofs.Common.{◌∙◌, List, ap}
use Rattle.std.specs.List.{find}
use Rattle.desk_chains.specs.Chains.{package_then_direct}
use Rattle.desk_entries.specs.Exchanges.{Exchange}
use Rattle.desk_chains.proofs.Chains.{find_filtered, texts_only}
use Rattle.desk_chains.proofs.chain.PackageRenameLeadsToDirectRulePackageAsText.candidates.Goals as goal

pub returns : goal.returns
returns c =
    ap (λ (es : List Exchange). find (package_then_direct c.args.self.now) es) c.rules_at.ensures
    ∙ find_filtered _ (package_then_direct c.args.self.now) c.args.rules.now (λ e k. texts_only c.args.self.now e c.dotted_target.result.now c.dotted_target.ensures k)

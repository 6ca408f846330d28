use Rattle.std.proofs.Common.{sym, ◌∙◌}
use Rattle.desk_chains.proofs.Chains.{unmoved_package, unfitted_package}
use Rattle.desk_chains.proofs.chain.PackageRenameLeadsToPackageAsText.candidates.Goals as goal

pub returns-then-not-changes : goal.returns-then-not-changes
returns-then-not-changes c = unmoved_package c.args.rules.now c.args.self.now (sym c.changes.ensures ∙ c.if-not-changes.true)

pub returns-in-None : goal.returns-in-None
returns-in-None c =
    unfitted_package c.args.rules.now c.args.self.now c.recall_form.ensures.formed c.dotted_target-target.result.now c.front_end.result c.dotted_target-target.ensures c.front_end.ensures c.in-None.ensures

use Rattle.std.proofs.Common.{sym, ◌∙◌, ap}
use Rattle.desk_base.specs.Names.{is_dotted}
use Rattle.desk_chains.proofs.Chains.{unaltered, undotted, unfitted}
use Rattle.desk_chains.proofs.chain.DirectRuleLeadsToPackageRenameAsGiven.candidates.Goals as goal

pub returns-then-not-changes : goal.returns-then-not-changes
returns-then-not-changes c = unaltered c.args.rules.now c.args.self.now (sym c.changes.ensures ∙ c.if-not-changes.true)

pub returns-then-not-is_dotted : goal.returns-then-not-is_dotted
returns-then-not-is_dotted c = undotted c.args.rules.now c.args.self.now (ap is_dotted (sym c.target-text.ensures) ∙ sym c.is_dotted.ensures ∙ c.if-not-is_dotted.true)

pub returns-in-None : goal.returns-in-None
returns-in-None c = unfitted c.args.rules.now c.args.self.now c.target-text.result.now c.front_end.result c.target-text.ensures c.front_end.ensures c.in-None.ensures

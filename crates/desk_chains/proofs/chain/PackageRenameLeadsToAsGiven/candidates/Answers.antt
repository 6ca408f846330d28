use Rattle.std.proofs.Common.{sym, ◌∙◌, subst}
use Rattle.desk_base.specs.Names.{Text, segments}
use Rattle.desk_packages.specs.Keys.{NoneChanging}
use Rattle.desk_chains.proofs.Chains.{unmoved, unmet}
use Rattle.desk_chains.proofs.chain.PackageRenameLeadsToAsGiven.candidates.Goals as goal

pub returns-then-not-changes : goal.returns-then-not-changes
returns-then-not-changes c = unmoved c.args.rules.now c.args.self.now (sym c.changes.ensures ∙ c.if-not-changes.true)

pub returns-in-None-2 : goal.returns-in-None-2
returns-in-None-2 c =
    unmet c.args.rules.now c.args.self.now c.recall_form.ensures.formed
    (subst (λ (t : Text). NoneChanging c.args.rules.now (segments 46 t)) c.dotted_target.ensures c.in-None.ensures)
    (sym c.leads_below.ensures ∙ c.if-leads_below.false)

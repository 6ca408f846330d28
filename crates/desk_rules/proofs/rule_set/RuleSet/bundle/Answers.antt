use Rattle.std.proofs.Common.{◌∙◌, ap, sym, Some}
use Rattle.std.specs.List.{find}
use Rattle.std.specs.Str.{bytes_eq}
use Rattle.desk_rules.specs.Rules.{Rules, Update}
use Rattle.desk_entries.specs.Exchanges.{BundleUpdate}
use Rattle.desk_rules.specs.RuleSets.{changing_update}
use Rattle.desk_rules.proofs.Kept.{rule_set_by}
use Rattle.desk_rules.proofs.Updates.{no_update, some_update, same_update}
use Rattle.desk_rules.proofs.Laws.{bundles_stay}
use Rattle.desk_rules.proofs.rule_set.RuleSet.bundle.Goals as goal
use Rattle.desk_rules.proofs.rule_set.RuleSet.bundle.Goals.{in_default-via-in-Some+else-changes, in_default-via-in_default}

pub returns-in-Some-clause-answer : goal.returns-in-Some-clause-answer
returns-in-Some-clause-answer c =
    ap (λ (r : Rules). changing_update r.bundles c.args.name.now) (sym c.self.view_is)
    ∙ some_update c.self.inside.bundles.items c.args.name.now c.in-Some.rule.now (c.in-Some.ensures ∙ ap (find (λ (e : BundleUpdate). bytes_eq e.0 c.args.name.now)) c.deref.ensures.value) (sym c.changes.ensures ∙ c.if-changes.true)
    ∙ ap (λ (u : Update). Some u) (sym c.updated_by.ensures)

pub returns-in-Some-clause-bundles_stay : goal.returns-in-Some-clause-bundles_stay
returns-in-Some-clause-bundles_stay c = bundles_stay c.args.self.now (rule_set_by c.self.invariant c.args.self.now c.self.view_is)

pub returns-in_default-clause-answer : goal.returns-in_default-clause-answer
returns-in_default-clause-answer c =
    ap (λ (r : Rules). changing_update r.bundles c.args.name.now) (sym c.self.view_is)
    ∙ (elim c.in_default.branch [
      | in_default-via-in-Some+else-changes w ↦
          same_update c.self.inside.bundles.items c.args.name.now w.in-Some.rule.now (w.in-Some.ensures ∙ ap (find (λ (e : BundleUpdate). bytes_eq e.0 c.args.name.now)) c.deref.ensures.value) (sym w.changes.ensures ∙ w.if-changes.false)
      | in_default-via-in_default w ↦
          no_update c.self.inside.bundles.items c.args.name.now (w.in_default.ensures ∙ ap (find (λ (e : BundleUpdate). bytes_eq e.0 c.args.name.now)) c.deref.ensures.value)
    ])

pub returns-in_default-clause-bundles_stay : goal.returns-in_default-clause-bundles_stay
returns-in_default-clause-bundles_stay c = bundles_stay c.args.self.now (rule_set_by c.self.invariant c.args.self.now c.self.view_is)

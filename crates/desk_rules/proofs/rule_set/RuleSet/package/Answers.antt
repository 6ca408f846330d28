use Rattle.std.proofs.Common.{◌∙◌, ap, sym, subst, length, List}
use Rattle.desk_base.specs.Names.{segments}
use Rattle.desk_packages.specs.Renames.{Renaming, pick}
use Rattle.desk_rules.specs.Rules.{Rules}
use Rattle.desk_packages.specs.Keys.{byte_of}
use Rattle.desk_rules.specs.RuleSets.{IsFrontOf, changing_pick}
use Rattle.desk_rules.proofs.Kept.{rule_set_by}
use Rattle.desk_rules.proofs.FrontLaws.{front_found}
use Rattle.desk_rules.proofs.Beginnings.{none_picked}
use Rattle.desk_rules.proofs.Laws.{packages_stay, classes_stay, classes_keep_form, dotted_stay, dotted_keep_form}
use Rattle.desk_rules.proofs.rule_set.RuleSet.package.Goals as goal

pub returns-then-not-begins-clause-answer : goal.returns-then-not-begins-clause-answer
returns-then-not-begins-clause-answer c =
    ap (λ (r : Rules). changing_pick r.renames (segments (byte_of c.args.separator) c.args.path.now)) (sym c.self.view_is)
    ∙ none_picked c.self.inside.renames.items c.self.invariant.table c.self.inside.firsts c.self.invariant.firsts_are (segments (byte_of c.args.separator) c.args.path.now) (sym c.begins.ensures ∙ c.if-not-begins.true)

pub returns-then-not-begins-clause-settled : goal.returns-then-not-begins-clause-settled
returns-then-not-begins-clause-settled c = rule_set_by c.self.invariant c.args.self.now c.self.view_is

pub returns-then-not-begins-clause-packages_stay : goal.returns-then-not-begins-clause-packages_stay
returns-then-not-begins-clause-packages_stay c = packages_stay c.args.self.now (rule_set_by c.self.invariant c.args.self.now c.self.view_is)

pub returns-then-not-begins-clause-classes_stay : goal.returns-then-not-begins-clause-classes_stay
returns-then-not-begins-clause-classes_stay c = classes_stay c.args.self.now (rule_set_by c.self.invariant c.args.self.now c.self.view_is)

pub returns-then-not-begins-clause-classes_keep_form : goal.returns-then-not-begins-clause-classes_keep_form
returns-then-not-begins-clause-classes_keep_form c = classes_keep_form c.args.self.now (rule_set_by c.self.invariant c.args.self.now c.self.view_is)

pub returns-then-not-begins-clause-dotted_stay : goal.returns-then-not-begins-clause-dotted_stay
returns-then-not-begins-clause-dotted_stay c = dotted_stay c.args.self.now (rule_set_by c.self.invariant c.args.self.now c.self.view_is)

pub returns-then-not-begins-clause-dotted_keep_form : goal.returns-then-not-begins-clause-dotted_keep_form
returns-then-not-begins-clause-dotted_keep_form c = dotted_keep_form c.args.self.now (rule_set_by c.self.invariant c.args.self.now c.self.view_is)

pub returns-in-Some-clause-answer : goal.returns-in-Some-clause-answer
returns-in-Some-clause-answer c =
    subst (λ (r : Rules). IsFrontOf r.renames (byte_of c.args.separator) c.args.path.now (length c.source_text.result.now) c.target.result.now) c.self.view_is
    (front_found c.self.inside.renames.items c.self.invariant.table (byte_of c.args.separator) c.args.path.now c.in-Some.rename.now
    (ap (λ (rs : List Renaming). pick rs (segments (byte_of c.args.separator) c.args.path.now)) (sym c.deref.ensures.value) ∙ c.in-Some.ensures)
    (sym c.changes.ensures ∙ c.if-changes.true) _ _ (ap length c.source_text.ensures) c.target.ensures)

pub returns-in-Some-clause-settled : goal.returns-in-Some-clause-settled
returns-in-Some-clause-settled c = rule_set_by c.self.invariant c.args.self.now c.self.view_is

pub returns-in-Some-clause-packages_stay : goal.returns-in-Some-clause-packages_stay
returns-in-Some-clause-packages_stay c = packages_stay c.args.self.now (rule_set_by c.self.invariant c.args.self.now c.self.view_is)

pub returns-in-Some-clause-classes_stay : goal.returns-in-Some-clause-classes_stay
returns-in-Some-clause-classes_stay c = classes_stay c.args.self.now (rule_set_by c.self.invariant c.args.self.now c.self.view_is)

pub returns-in-Some-clause-classes_keep_form : goal.returns-in-Some-clause-classes_keep_form
returns-in-Some-clause-classes_keep_form c = classes_keep_form c.args.self.now (rule_set_by c.self.invariant c.args.self.now c.self.view_is)

pub returns-in-Some-clause-dotted_stay : goal.returns-in-Some-clause-dotted_stay
returns-in-Some-clause-dotted_stay c = dotted_stay c.args.self.now (rule_set_by c.self.invariant c.args.self.now c.self.view_is)

pub returns-in-Some-clause-dotted_keep_form : goal.returns-in-Some-clause-dotted_keep_form
returns-in-Some-clause-dotted_keep_form c = dotted_keep_form c.args.self.now (rule_set_by c.self.invariant c.args.self.now c.self.view_is)

pub returns-in_default-clause-settled : goal.returns-in_default-clause-settled
returns-in_default-clause-settled c = rule_set_by c.self.invariant c.args.self.now c.self.view_is

pub returns-in_default-clause-packages_stay : goal.returns-in_default-clause-packages_stay
returns-in_default-clause-packages_stay c = packages_stay c.args.self.now (rule_set_by c.self.invariant c.args.self.now c.self.view_is)

pub returns-in_default-clause-classes_stay : goal.returns-in_default-clause-classes_stay
returns-in_default-clause-classes_stay c = classes_stay c.args.self.now (rule_set_by c.self.invariant c.args.self.now c.self.view_is)

pub returns-in_default-clause-classes_keep_form : goal.returns-in_default-clause-classes_keep_form
returns-in_default-clause-classes_keep_form c = classes_keep_form c.args.self.now (rule_set_by c.self.invariant c.args.self.now c.self.view_is)

pub returns-in_default-clause-dotted_stay : goal.returns-in_default-clause-dotted_stay
returns-in_default-clause-dotted_stay c = dotted_stay c.args.self.now (rule_set_by c.self.invariant c.args.self.now c.self.view_is)

pub returns-in_default-clause-dotted_keep_form : goal.returns-in_default-clause-dotted_keep_form
returns-in_default-clause-dotted_keep_form c = dotted_keep_form c.args.self.now (rule_set_by c.self.invariant c.args.self.now c.self.view_is)

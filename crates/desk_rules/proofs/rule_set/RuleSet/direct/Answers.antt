use Rattle.std.proofs.Common.{◌∙◌, ap, sym, Some, None, List, ℕ}
use Rattle.std.specs.FinMap as finite
use Rattle.std.specs.List.{find}
use Rattle.std.specs.Str.{bytes_eq}
use Rattle.desk_rules.specs.Rules.{Rules}
use Rattle.desk_entries.specs.Exchanges.{Exchange}
use Rattle.desk_rules.proofs.Kept.{rule_set_by}
use Rattle.desk_rules.proofs.TextMaps.{found_value}
use Rattle.desk_rules.proofs.Laws.{strings_stay}
use Rattle.desk_rules.proofs.Beginnings.{no_key}
use Rattle.desk_rules.proofs.rule_set.RuleSet.direct.Goals as goal

pub returns-then-not-may_begin-clause-answer : goal.returns-then-not-may_begin-clause-answer
returns-then-not-may_begin-clause-answer c =
    sym (ap (λ (r : Rules). finite.get r.direct c.args.text.now) (sym c.self.view_is)
    ∙ no_key c.self.inside.direct.items c.self.inside.begun c.self.invariant.begun_are c.args.text.now c.type_inv.text (sym c.may_begin.ensures ∙ c.if-not-may_begin.true))

pub returns-then-not-may_begin-clause-settled : goal.returns-then-not-may_begin-clause-settled
returns-then-not-may_begin-clause-settled c = rule_set_by c.self.invariant c.args.self.now c.self.view_is

pub returns-then-not-may_begin-clause-strings_stay : goal.returns-then-not-may_begin-clause-strings_stay
returns-then-not-may_begin-clause-strings_stay c = strings_stay c.args.self.now (rule_set_by c.self.invariant c.args.self.now c.self.view_is)

pub returns-in-None-clause-answer : goal.returns-in-None-clause-answer
returns-in-None-clause-answer c =
    sym (ap (λ (r : Rules). finite.get r.direct c.args.text.now) (sym c.self.view_is)
    ∙ found_value c.self.inside.direct.items c.args.text.now None (c.in-None.ensures ∙ ap (find (λ (e : Exchange). bytes_eq e.0 c.args.text.now)) c.deref.ensures.value))

pub returns-in-Some-clause-answer : goal.returns-in-Some-clause-answer
returns-in-Some-clause-answer c =
    sym (ap (λ (r : Rules). finite.get r.direct c.args.text.now) (sym c.self.view_is)
    ∙ found_value c.self.inside.direct.items c.args.text.now (Some c.in-Some.rule.now) (c.in-Some.ensures ∙ ap (find (λ (e : Exchange). bytes_eq e.0 c.args.text.now)) c.deref.ensures.value)
    ∙ ap (λ (t : List ℕ). Some t) (sym c.target.ensures))

pub returns-in-None-clause-settled : goal.returns-in-None-clause-settled
returns-in-None-clause-settled c = rule_set_by c.self.invariant c.args.self.now c.self.view_is

pub returns-in-None-clause-strings_stay : goal.returns-in-None-clause-strings_stay
returns-in-None-clause-strings_stay c = strings_stay c.args.self.now (rule_set_by c.self.invariant c.args.self.now c.self.view_is)

pub returns-in-Some-clause-settled : goal.returns-in-Some-clause-settled
returns-in-Some-clause-settled c = rule_set_by c.self.invariant c.args.self.now c.self.view_is

pub returns-in-Some-clause-strings_stay : goal.returns-in-Some-clause-strings_stay
returns-in-Some-clause-strings_stay c = strings_stay c.args.self.now (rule_set_by c.self.invariant c.args.self.now c.self.view_is)

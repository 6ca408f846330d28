use Rattle.std.proofs.Common.{◌≡◌, List, sym, subst, ◌∙◌}
use Rattle.desk_base.specs.Names.{Text}
use Rattle.desk_patterns.specs.TextRules.{TextRule, StandsBehind}
use Rattle.desk_rules.proofs.LoadedTexts.{stands_behind}
use Rattle.desk_rules.proofs.texts.rules_from.Goals as goal

pub push-requires-clause-behind : goal.push-requires-clause-behind
push-requires-clause-behind c =
    let source : c.in_ok-source.source ≡ c.rule-item.result.0 = c.in_ok-source.ensures ∙ c.source.ensures.value in
    subst (λ (s : Text). StandsBehind c.loop-rule.found s) (sym source)
    (subst (λ (rules : List TextRule). StandsBehind rules c.rule-item.result.0) (sym c.loop-rule.invariant)
    (stands_behind c.args.rules.now c.loop-rule.rule-index c.rule-item.result c.requires c.loop-rule-test.true c.rule-item.is))

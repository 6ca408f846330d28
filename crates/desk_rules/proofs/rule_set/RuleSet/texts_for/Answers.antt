use Rattle.std.proofs.Common.{◌∙◌, ap}
use Rattle.desk_patterns.specs.PatternTexts.{texts_for}
use Rattle.desk_rules.specs.Rules.{Rules}
use Rattle.desk_rules.proofs.rule_set.RuleSet.texts_for.Goals as goal

pub returns : goal.returns
returns c = c.find_both.ensures ∙ ap (λ (r : Rules). texts_for r.texts c.args.path.now c.args.target.now) c.self.view_is

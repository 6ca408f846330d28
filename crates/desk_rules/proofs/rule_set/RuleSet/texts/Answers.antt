use Rattle.std.proofs.Common.{◌∙◌, ap}
use Rattle.desk_patterns.specs.PatternTexts.{texts_of}
use Rattle.desk_rules.specs.Rules.{Rules}
use Rattle.desk_rules.proofs.rule_set.RuleSet.texts.Goals as goal

pub returns : goal.returns
returns c = c.find.ensures ∙ ap (λ (r : Rules). texts_of r.texts c.args.path.now) c.self.view_is

use Rattle.std.proofs.Common.{◌∙◌, ap}
use Rattle.desk_patterns.specs.Selections.{selects}
use Rattle.desk_rules.specs.Rules.{Rules}
use Rattle.desk_rules.proofs.rule_set.RuleSet.selected.Goals as goal

pub returns : goal.returns
returns c = c.selects.ensures ∙ ap (λ (r : Rules). selects r.selection c.args.path.now) c.self.view_is

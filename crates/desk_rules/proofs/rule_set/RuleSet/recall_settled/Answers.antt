use Rattle.desk_rules.proofs.Kept.{rule_set_by}
use Rattle.desk_rules.proofs.rule_set.RuleSet.recall_settled.Goals as goal

pub returns : goal.returns
returns c = record { settled = rule_set_by c.self.invariant c.args.self.now c.self.view_is }

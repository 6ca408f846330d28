use Rattle.std.proofs.Common.{take}
use Rattle.desk_rules.proofs.Beginnings.{HaveFirstBytes}
use Rattle.desk_rules.proofs.firsts.FirstBytes.of.Given as goal

abbrev pub invariant-loop-rule : goal.invariant-loop-rule
invariant-loop-rule g l = HaveFirstBytes g.R.Keyed.key_of (take l.rule-index l.rules) l.begun

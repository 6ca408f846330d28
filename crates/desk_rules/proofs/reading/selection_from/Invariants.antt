use Rattle.std.proofs.Common.{◌≡◌, take}
use Rattle.desk_rules.proofs.reading.selection_from.Given as goal

abbrev pub invariant-loop-rule : goal.invariant-loop-rule
invariant-loop-rule l = l.selection ≡ take l.rule-index l.rules

use Rattle.desk_rules.proofs.TextTurns.{IsNamedTo}
use Rattle.desk_rules.proofs.texts.names_of.Given as goal

abbrev pub invariant-loop-i : goal.invariant-loop-i
invariant-loop-i l = IsNamedTo l.files l.entries.entries l.i l.names.entries

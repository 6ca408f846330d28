use Rattle.desk_rules.proofs.InTurn.{IsReadTo}
use Rattle.desk_rules.proofs.reading.read_each.Given as goal

abbrev pub invariant-loop-i : goal.invariant-loop-i
invariant-loop-i g l = IsReadTo l.file g.R.FromEntry.read_entry l.entries.entries g.R.Keyed.key_of l.i l.rules.items

use Rattle.desk_clauses.proofs.Scans.{IsRead}
use Rattle.desk_clauses.proofs.quotes.mark_place.Given as goal

abbrev pub invariant-loop-i : goal.invariant-loop-i
invariant-loop-i l = IsRead l.mark l.text l.i l.quoting

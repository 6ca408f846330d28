use Rattle.std.proofs.Common.{◌≡◌, drop}
use Rattle.desk_clauses.specs.Quotes.{is_closed}
use Rattle.desk_clauses.specs.declared.quotes.Quoting.TheVariants.{Outside}
use Rattle.desk_clauses.proofs.quotes.is_closed.Given as goal

abbrev pub invariant-loop-byte : goal.invariant-loop-byte
invariant-loop-byte l = is_closed Outside l.text ≡ is_closed l.quoting (drop l.byte-index l.text)

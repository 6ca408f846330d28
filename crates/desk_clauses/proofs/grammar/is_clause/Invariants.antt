use Rattle.std.proofs.Common.{◌≡◌}
use Rattle.std.specs.Option.{option_copied}
use Rattle.desk_clauses.specs.Grammar.{is_clause, parts}
use Rattle.desk_clauses.proofs.Firsts.{left, may_stand}
use Rattle.desk_clauses.proofs.grammar.is_clause.Given as goal

abbrev pub invariant-loop-rest : goal.invariant-loop-rest
invariant-loop-rest l = is_clause (parts l.clause) ≡ may_stand l.place (option_copied l.rest)

abbrev pub decreases-loop-rest : goal.decreases-loop-rest
decreases-loop-rest l = left (option_copied l.rest)

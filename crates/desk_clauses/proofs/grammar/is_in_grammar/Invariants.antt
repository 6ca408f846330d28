use Rattle.std.proofs.Common.{◌≡◌}
use Rattle.std.specs.Option.{option_copied}
use Rattle.std.specs.List.{list_all}
use Rattle.desk_clauses.specs.Quotes.{cut}
use Rattle.desk_clauses.specs.Grammar.{is_clause, parts, clauses}
use Rattle.desk_clauses.specs.Cuts.{parts_of}
use Rattle.desk_clauses.specs.declared.quotes.Quoting.TheVariants.{Outside}
use Rattle.desk_clauses.proofs.Firsts.{left}
use Rattle.desk_clauses.proofs.grammar.is_in_grammar.Given as goal

abbrev pub invariant-loop-rest : goal.invariant-loop-rest
invariant-loop-rest l = list_all is_clause (clauses l.value) ≡ list_all (λ t. is_clause (parts t)) (parts_of (cut 44 Outside) (option_copied l.rest))

abbrev pub decreases-loop-rest : goal.decreases-loop-rest
decreases-loop-rest l = left (option_copied l.rest)

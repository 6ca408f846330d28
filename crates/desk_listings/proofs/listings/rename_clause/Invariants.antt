use Rattle.std.specs.Option.{option_copied}
use Rattle.desk_clauses.proofs.Firsts.{left}
use Rattle.desk_listings.proofs.Clauses.{IsClauseGone}
use Rattle.desk_listings.proofs.listings.rename_clause.Given as goal

abbrev pub invariant-loop-rest : goal.invariant-loop-rest
invariant-loop-rest l = IsClauseGone l.rules l.listing l.clause l.edits l.from l.place (option_copied l.version) (option_copied l.rest)

abbrev pub decreases-loop-rest : goal.decreases-loop-rest
decreases-loop-rest l = left (option_copied l.rest)

use Rattle.std.proofs.Common.{◌≡◌}
use Rattle.std.specs.Option.{option_copied}
use Rattle.std.specs.List.{list_all}
use Rattle.desk_clauses.specs.Quotes.{cut}
use Rattle.desk_clauses.specs.Cuts.{parts_of}
use Rattle.desk_clauses.specs.declared.quotes.Quoting.TheVariants.{Outside}
use Rattle.desk_clauses.specs.Grammar.{parts, clauses, is_clause}
use Rattle.desk_clauses.proofs.Firsts.{left}
use Rattle.desk_clauses.proofs.Walked.{IsGone}
use Rattle.desk_listings.proofs.Items.{clause_by}
use Rattle.desk_listings.proofs.listings.rename_clauses.Given as goal

abbrev pub invariant-loop-rest : goal.invariant-loop-rest
invariant-loop-rest l = record {
  gone : IsGone (cut 44 Outside) 44 (clause_by l.rules l.listing) l.value l.edits l.from (option_copied l.rest);
  formed : list_all is_clause (clauses l.value) ≡ list_all (λ t. is_clause (parts t)) (parts_of (cut 44 Outside) (option_copied l.rest));
}

abbrev pub decreases-loop-rest : goal.decreases-loop-rest
decreases-loop-rest l = left (option_copied l.rest)

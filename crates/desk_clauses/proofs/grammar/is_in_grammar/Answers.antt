use Rattle.desk_clauses.specs.Quotes.{cut}
use Rattle.desk_clauses.specs.declared.quotes.Quoting.TheVariants.{Outside}
use Rattle.desk_clauses.proofs.Firsts.{all_parts}
use Rattle.desk_clauses.proofs.grammar.is_in_grammar.Goals as goal

pub loop-rest-init : goal.loop-rest-init
loop-rest-init c = all_parts (cut 44 Outside c.args.value.now)

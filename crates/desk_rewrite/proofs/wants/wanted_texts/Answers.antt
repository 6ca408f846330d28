use Rattle.desk_rewrite.proofs.Listing.{numbers_long, uses_listed, listed_under}
use Rattle.desk_rewrite.proofs.wants.wanted_texts.Goals as goal

pub new-requires : goal.new-requires
new-requires c = numbers_long c.args.table.now c.args.uses.now c.in_ok-numbers.numbers.items c.in_ok-numbers.ensures

pub returns-clause-used : goal.returns-clause-used
returns-clause-used c = rw c.new.ensures (uses_listed c.in_ok-images.images.items c.args.uses.now c.in_ok-numbers.numbers.items (numbers_long c.args.table.now c.args.uses.now c.in_ok-numbers.numbers.items c.in_ok-numbers.ensures))

pub returns-clause-each : goal.returns-clause-each
returns-clause-each c = λ im pool has. rw c.new.ensures (listed_under im pool c.args.table.now c.in_ok-images.images.items c.in_ok-images.ensures c.args.uses.now c.in_ok-numbers.numbers.items c.in_ok-numbers.ensures has)

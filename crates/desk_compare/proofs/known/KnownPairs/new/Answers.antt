use Rattle.desk_compare.proofs.KnownValues.{none_known}
use Rattle.desk_compare.proofs.known.KnownPairs.new.Goals as goal

pub invariant_of-result : goal.invariant_of-result
invariant_of-result c = none_known c.args.left.now.entries c.args.right.now.entries 256

use Rattle.desk_rules.proofs.Ordered.{sorted_is}
use Rattle.desk_rules.proofs.reading.sorted.Goals as goal

pub returns : goal.returns
returns c = sorted_is c.args.entries.entries c.sort_keys.new.self.entries c.in_ok-sort_keys.ensures.sorted c.in_ok-sort_keys.ensures.unique c.in_ok-sort_keys.ensures.reordered.2

use Rattle.desk_patterns.proofs.FirstBytes.{covered_none}
use Rattle.desk_patterns.proofs.first_bytes.FirstBytes.none.Goals as goal

pub invariant_of-result : goal.invariant_of-result
invariant_of-result c = covered_none c.no_firsts.result c.no_firsts.ensures

use Rattle.desk_pool.proofs.Indices.{seen_at}
use Rattle.desk_pool.proofs.lookup.constant_at.Goals as goal

pub returns-in-Some : goal.returns-in-Some
returns-in-Some c = let h = c.in-Some.ensures {u = tt} in seen_at c.args.slots.now c.args.index c.in-Some.slot.now c.if-index-eq0.false h.lookup.0 h.lookup.1

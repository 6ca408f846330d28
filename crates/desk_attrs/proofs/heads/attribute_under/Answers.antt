use Rattle.std.proofs.Common.{sym}
use Rattle.desk_attrs.proofs.Nests.{named_none}
use Rattle.desk_attrs.proofs.heads.attribute_under.Goals as goal

pub returns-in-None : goal.returns-in-None
returns-in-None g c = sym (named_none (g.P.PoolView.pool c.args.pool.now) c.args.index (sym c.in-None.ensures))

use Rattle.std.proofs.Common.{sym}
use Rattle.desk_attrs.proofs.Nests.{named_none}
use Rattle.desk_code.proofs.gathering.attribute_under.Goals as goal

pub returns-in-None : goal.returns-in-None
returns-in-None c = sym (named_none c.args.pool.now.entries c.args.index (sym c.in-None.ensures))

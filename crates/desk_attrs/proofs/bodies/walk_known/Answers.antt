use Rattle.desk_annos.proofs.Steps.{nothing_walked}
use Rattle.desk_attrs.proofs.bodies.walk_known.Goals as goal

pub returns-in-Synthetic-clause-walks : goal.returns-in-Synthetic-clause-walks
returns-in-Synthetic-clause-walks g c = rw c.in-Synthetic.is (nothing_walked (g.V.Visit.taken c.args.visit.now) (g.P.PoolView.pool c.args.pool.now) c.args.cursor.now)

pub returns-in-Deprecated-clause-walks : goal.returns-in-Deprecated-clause-walks
returns-in-Deprecated-clause-walks g c = rw c.in-Deprecated.is (nothing_walked (g.V.Visit.taken c.args.visit.now) (g.P.PoolView.pool c.args.pool.now) c.args.cursor.now)

use Rattle.std.proofs.Common.{◌≡◌, ◌<◌, length, arith}
use Rattle.std.proofs.lemmas.Result.{err_from_is_err_and}
use Rattle.desk_format.specs.Attributes.{body_at}
use Rattle.desk_format.specs.Walk.{walk_at}
use Rattle.desk_attrs.proofs.Nests.{attributes_walked, body_short, body_stopped, body_left, body_done}
use Rattle.desk_attrs.proofs.attributes.+attributes.Goals as goal

pub walk_attribute-returns-in_err-head-clause-walks : goal.walk_attribute-returns-in_err-head-clause-walks
walk_attribute-returns-in_err-head-clause-walks g t c =
    let p = err_from_is_err_and c.from_residual.result c.from_residual.ensures.1 in
    rw (p.1, p.2) (c.in_err-head.ensures.err (body_at c.args.place))

pub walk_attribute-returns-in_err-inner-clause-walks : goal.walk_attribute-returns-in_err-inner-clause-walks
walk_attribute-returns-in_err-inner-clause-walks g t c =
    let p = err_from_is_err_and c.from_residual-in_err-inner.result c.from_residual-in_err-inner.ensures.1 in
    rw (p.1, p.2, c.in_err-inner.ensures.place) (body_short (g.P.PoolView.pool c.args.pool.now) c.args.place (walk_at (g.V.Visit.taken c.args.visit.now) c.args.cursor.now) (g.V.Visit.taken c.walk_head.new.visit) c.walk_head.new.cursor c.in_ok-head.head.attribute c.in_ok-head.head.length _ c.in_ok-head.ensures.ok c.in_err-inner.ensures.short)

pub walk_attribute-returns-then-left-gt0-clause-walks : goal.walk_attribute-returns-then-left-gt0-clause-walks
walk_attribute-returns-then-left-gt0-clause-walks g t c =
    let more : 0 < length c.walk_body.new.cursor.left = omega (arith, c.left.ensures, c.if-left-gt0.true) in
    body_left (g.P.PoolView.pool c.args.pool.now) c.args.place (walk_at (g.V.Visit.taken c.args.visit.now) c.args.cursor.now) (g.V.Visit.taken c.walk_head.new.visit) (g.V.Visit.taken c.walk_body.new.visit) c.walk_head.new.cursor c.in_ok-inner.inner c.walk_body.new.cursor _ c.in_ok-head.head.length _ c.in_ok-head.ensures.ok c.in_ok-inner.ensures.enough c.in_ok-inner.ensures.inner c.in-Ok.ensures.walks more

pub walk_attribute-returns-in-Err-clause-walks : goal.walk_attribute-returns-in-Err-clause-walks
walk_attribute-returns-in-Err-clause-walks g t c =
    rw c.in_fence.ensures (body_stopped c.in-Err.fault (g.V.Visit.taken c.walk_body.new.visit) (g.P.PoolView.pool c.args.pool.now) c.args.place (walk_at (g.V.Visit.taken c.args.visit.now) c.args.cursor.now) (g.V.Visit.taken c.walk_head.new.visit) c.walk_head.new.cursor c.in_ok-inner.inner c.in_ok-head.head.attribute c.in_ok-head.head.length c.in_ok-head.head.length_at c.in_ok-head.ensures.ok c.in_ok-inner.ensures.enough c.in_ok-inner.ensures.inner c.in-Err.ensures.walks)

pub walk_attribute-returns-else-left-gt0-clause-walks : goal.walk_attribute-returns-else-left-gt0-clause-walks
walk_attribute-returns-else-left-gt0-clause-walks g t c =
    let none : length c.walk_body.new.cursor.left ≡ 0 = omega (arith, c.left.ensures, c.if-left-gt0.false) in
    body_done (g.P.PoolView.pool c.args.pool.now) c.args.place (walk_at (g.V.Visit.taken c.args.visit.now) c.args.cursor.now) (g.V.Visit.taken c.walk_head.new.visit) (g.V.Visit.taken c.walk_body.new.visit) c.walk_head.new.cursor c.in_ok-inner.inner c.walk_body.new.cursor _ _ c.in_ok-head.head.length _ c.in_ok-head.ensures.ok c.in_ok-inner.ensures.enough c.in_ok-inner.ensures.inner c.in_ok-inner.ensures.moved c.in-Ok.ensures.walks none

pub walk_attributes-returns-clause-walks : goal.walk_attributes-returns-clause-walks
walk_attributes-returns-clause-walks g t c =
    attributes_walked c.walk_each_attribute.result _ _ (g.P.PoolView.pool c.args.pool.now) c.args.place (walk_at (g.V.Visit.taken c.args.visit.now) c.args.cursor.now) _ c.in_ok-count.count
    (c.in_ok-count.ensures.walks (g.V.Visit.taken c.args.visit.now)) c.in_ok-count.ensures.value c.walk_each_attribute.ensures.walks

use Rattle.std.proofs.Common.{ℕ, ◌+◌, ◌∙◌, ap, sym}
use Rattle.std.proofs.lemmas.Result.{err_from_is_err_and}
use Rattle.desk_format.specs.Walk.{walk_at}
use Rattle.desk_attrs.proofs.Nests.{head_walked, name_stopped, length_stopped}
use Rattle.desk_attrs.proofs.heads.walk_head.Goals as goal

pub returns-in_err-index-clause-err : goal.returns-in_err-index-clause-err
returns-in_err-index-clause-err g c =
    let p = err_from_is_err_and c.from_residual.result c.from_residual.ensures.1 in
    rw (p.1, p.2) (λ body. name_stopped _ (g.V.Visit.taken c.walk_name.new.visit) (g.P.PoolView.pool c.args.pool.now) body (walk_at (g.V.Visit.taken c.args.visit.now) c.args.cursor.now) c.in_err-index.ensures.walks)

pub returns-in_err-length-clause-err : goal.returns-in_err-length-clause-err
returns-in_err-length-clause-err g c =
    let p = err_from_is_err_and c.from_residual-in_err-length.result c.from_residual-in_err-length.ensures.1 in
    rw (p.1, p.2)
    (λ body. length_stopped _ (g.V.Visit.taken c.walk_name.new.visit) (g.P.PoolView.pool c.args.pool.now) body (walk_at (g.V.Visit.taken c.args.visit.now) c.args.cursor.now) (walk_at (g.V.Visit.taken c.walk_name.new.visit) c.walk_name.new.cursor)
    c.in_ok-index.ensures.walks (c.in_err-length.ensures.walks (g.V.Visit.taken c.walk_name.new.visit)))

pub returns-clause-ok : goal.returns-clause-ok
returns-clause-ok g c =
    head_walked (g.P.PoolView.pool c.args.pool.now) (walk_at (g.V.Visit.taken c.args.visit.now) c.args.cursor.now) (walk_at (g.V.Visit.taken c.walk_name.new.visit) c.walk_name.new.cursor) (walk_at (g.V.Visit.taken c.walk_name.new.visit) c.walk_length.new.cursor)
    c.in_ok-index.index c.in_ok-length.length c.at-length_at.result c.attribute_under-attribute.result c.in_ok-index.ensures.walks c.in_ok-index.ensures.value (c.in_ok-length.ensures.walks (g.V.Visit.taken c.walk_name.new.visit)) c.in_ok-length.ensures.value c.attribute_under-attribute.ensures
    (c.in_ok-length.ensures.at ∙ ap (λ (n : ℕ). n + 4) (sym c.at-length_at.ensures.value))

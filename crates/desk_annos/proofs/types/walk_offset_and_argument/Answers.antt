use Rattle.std.proofs.lemmas.Result.{err_from_is_err_and}
use Rattle.desk_format.specs.Rows.{u1, u2}
use Rattle.desk_annos.proofs.Steps.{pair_walked, pair_stopped}
use Rattle.desk_annos.proofs.types.walk_offset_and_argument.Goals as goal

pub returns-clause-walks : goal.returns-clause-walks
returns-clause-walks c = λ us entries. pair_walked us entries u2 u1 _ _ _ (c.in_ok-walk_u2.ensures.reads us entries) (c.in_ok-walk_u1.ensures.reads us entries)

pub returns-in_err-walk_u1-clause-walks : goal.returns-in_err-walk_u1-clause-walks
returns-in_err-walk_u1-clause-walks c =
    let p = err_from_is_err_and c.from_residual-in_err-walk_u1.result c.from_residual-in_err-walk_u1.ensures.1 in
    λ us entries. rw (p.1, p.2) (pair_stopped _ us entries u2 u1 _ _ (c.in_ok-walk_u2.ensures.reads us entries) (c.in_err-walk_u1.ensures.reads us entries))

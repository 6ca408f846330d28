use Rattle.std.proofs.lemmas.Result.{err_from_is_err_and}
use Rattle.std.specs.Int.{w8}
use Rattle.desk_format.specs.Layouts.{Layout}
use Rattle.desk_format.specs.Rows.{u1}
use Rattle.desk_format.specs.Annotations.{path_kind}
use Rattle.desk_annos.proofs.Steps.{pair_walked, pair_stopped}
use Rattle.desk_annos.proofs.types.walk_step.Goals as goal

pub returns-clause-walks : goal.returns-clause-walks
returns-clause-walks c = λ us entries. pair_walked us entries (Layout.number w8 path_kind) u1 _ _ _ (c.in_ok-walk_path_kind.ensures.walks us entries) (c.in_ok-walk_u1.ensures.reads us entries)

pub returns-in_err-walk_u1-clause-walks : goal.returns-in_err-walk_u1-clause-walks
returns-in_err-walk_u1-clause-walks c =
    let p = err_from_is_err_and c.from_residual-in_err-walk_u1.result c.from_residual-in_err-walk_u1.ensures.1 in
    λ us entries. rw (p.1, p.2) (pair_stopped _ us entries (Layout.number w8 path_kind) u1 _ _ (c.in_ok-walk_path_kind.ensures.walks us entries) (c.in_err-walk_u1.ensures.reads us entries))

use Rattle.std.proofs.lemmas.Result.{err_from_is_err_and}
use Rattle.desk_format.specs.Walk.{walk_at}
use Rattle.desk_class.specs.Scan.{class_kind}
use Rattle.std.proofs.Common.{true, false}
use Rattle.desk_class.proofs.Uses.{head_walked, head_second, head_third}
use Rattle.desk_class.proofs.body.read_head.Goals as goal

pub returns-in_err-this-clause-walks : goal.returns-in_err-this-clause-walks
returns-in_err-this-clause-walks c =
    let p = err_from_is_err_and c.from_residual-in_err-this.result c.from_residual-in_err-this.ensures.1 in
    λ us. rw (p.1, p.2) (head_second _ us c.args.pool.now.entries (class_kind false) (class_kind true) _ (walk_at us c.read_number.new.cursor) (c.in_ok-_flags.ensures.walks us) (c.in_err-this.ensures.walks us))

pub returns-clause-walks : goal.returns-clause-walks
returns-clause-walks c = λ us.
    head_walked c.args.pool.now.entries (class_kind false) (class_kind true) _ (walk_at us c.read_number.new.cursor) (walk_at us c.read_class.new.cursor) _ (c.in_ok-_flags.ensures.walks us) (c.in_ok-this.ensures.walks us) (c.in_ok-read_class.ensures.walks us)

pub returns-in_err-read_class-clause-walks : goal.returns-in_err-read_class-clause-walks
returns-in_err-read_class-clause-walks c =
    let p = err_from_is_err_and c.from_residual-in_err-read_class.result c.from_residual-in_err-read_class.ensures.1 in
    λ us. rw (p.1, p.2) (head_third _ us c.args.pool.now.entries (class_kind false) (class_kind true) _ (walk_at us c.read_number.new.cursor) (walk_at us c.read_class.new.cursor) (c.in_ok-_flags.ensures.walks us) (c.in_ok-this.ensures.walks us) (c.in_err-read_class.ensures.walks us))

use Rattle.std.proofs.lemmas.Result.{err_from_is_err_and}
use Rattle.std.specs.Int.{w32}
use Rattle.desk_format.specs.Attributes.{code_length}
use Rattle.desk_format.specs.Walk.{walk_at}
use Rattle.desk_format.proofs.Walks.{stops, sized_walks, sized_stops}
use Rattle.desk_attrs.proofs.parts.walk_code_bytes.Goals as goal

pub returns-clause-walks : goal.returns-clause-walks
returns-clause-walks c = λ us entries.
    rw (sized_walks entries w32 code_length (walk_at us c.args.cursor.now) _ c.in_ok-length.length (c.in_ok-length.ensures.walks us) c.in_ok-length.ensures.value) (c.walk_raw.ensures.walks us entries)

pub returns-in_err-length-clause-walks : goal.returns-in_err-length-clause-walks
returns-in_err-length-clause-walks c =
    let p = err_from_is_err_and c.from_residual.result c.from_residual.ensures.1 in
    λ us entries. rw (p.1, p.2) (stops _ _ _ us (c.in_err-length.ensures.walks us) (λ f h. sized_stops entries w32 code_length (walk_at us c.args.cursor.now) f h))

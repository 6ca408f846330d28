use Rattle.std.specs.Int.{w8}
use Rattle.desk_format.specs.Annotations.{path_step}
use Rattle.desk_format.specs.Walk.{walk_at}
use Rattle.desk_annos.proofs.Steps.{sized_table_walked}
use Rattle.desk_annos.proofs.types.walk_path.Goals as goal

pub returns-clause-walks : goal.returns-clause-walks
returns-clause-walks c = λ us entries.
    sized_table_walked c.walk_steps.result _ us entries w8 path_step (walk_at us c.args.cursor.now) _ c.in_ok-count.count (c.in_ok-count.ensures.walks us) c.in_ok-count.ensures.value (c.walk_steps.ensures.walks us entries)

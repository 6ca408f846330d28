use Rattle.std.proofs.Common.{◌≢◌, ◌+◌, ◌-◌, arith}
use Rattle.desk_format.specs.Annotations.{element}
use Rattle.desk_annos.proofs.Depths.{element_refused}
use Rattle.desk_annos.proofs.elements.+elements.Goals as goal

pub walk_element-returns-in-None-clause-walks : goal.walk_element-returns-in-None-clause-walks
walk_element-returns-in-None-clause-walks g t c =
    let no_constant : c.in_ok-tag.tag ≢ 101 = omega arith in
    let no_annotation : c.in_ok-tag.tag ≢ 64 = omega arith in
    let no_array : c.in_ok-tag.tag ≢ 91 = omega arith in
    rw c.at-at.ensures.value (element_refused (g.V.Visit.taken c.args.visit.now) (g.P.PoolView.pool c.args.pool.now) c.args.cursor.now c.read_tag.new.cursor c.args.depth c.in_ok-tag.tag
    (omega arith) c.in_ok-tag.ensures.ok (c.in-None.ensures.none no_constant no_annotation no_array (element (65 - (c.args.depth + 1)))))

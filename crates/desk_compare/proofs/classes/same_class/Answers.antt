use Rattle.desk_compare.proofs.SameClasses.{equal_bytes, other_bytes, no_class, as_class}
use Rattle.desk_compare.proofs.classes.same_class.Goals as goal

pub returns-then-ne : goal.returns-then-ne
returns-then-ne c =
    let l = c.around_pool.ensures in
    let r = c.around_pool-2.ensures in
    no_class c.args.left.now c.args.right.now c.around_pool.result.0.now c.around_pool-2.result.0.now l.each r.each l.sound r.sound l.header r.header (other_bytes _ c.if-ne.ensures)

pub returns : goal.returns
returns c =
    let l = c.around_pool.ensures in
    let r = c.around_pool-2.ensures in
    as_class c.args.left.now c.args.right.now c.around_pool.result.0.now c.around_pool-2.result.0.now l.each r.each l.sound r.sound l.header r.header c.pool.result.now.entries c.pool-2.result.now.entries c.around_pool.result.1.now c.around_pool-2.result.1.now c.pool.ensures.entries c.pool-2.ensures.entries l.body r.body (equal_bytes _ c.if-ne.ensures) c.same_body.result c.same_body.ensures

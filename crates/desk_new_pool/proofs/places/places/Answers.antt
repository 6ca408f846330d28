use Rattle.std.proofs.Common.{sym, ◌∙◌, arith}
use Rattle.desk_new_pool.proofs.Least.{place_put, place_other}
use Rattle.desk_new_pool.proofs.places.places.Goals as goal

pub loop-place-preserved-in_ok-insert : goal.loop-place-preserved-in_ok-insert
loop-place-preserved-in_ok-insert c =
    place_put c.args.sought.now c.loop-place.places c.args.from c.loop-place.place c.args.texts.now c.loop-place-test.true c.loop-place.auto.place c.loop-place.invariant c.insert.new.self _ c.in-Some.text c.in-Some.is
    (sym c.has.ensures ∙ c.if-has.true) (omega arith) c.in_ok-insert.ensures.updates

pub loop-place-preserved-else-has : goal.loop-place-preserved-else-has
loop-place-preserved-else-has c =
    place_other c.args.sought.now c.loop-place.places c.args.from c.loop-place.place c.args.texts.now c.loop-place-test.true c.loop-place.auto.place c.loop-place.invariant c.in-Some.text c.in-Some.is (sym c.has.ensures ∙ c.if-has.false)

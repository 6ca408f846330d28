use Rattle.std.proofs.Common.{◌∙◌}
use Rattle.desk_new_pool.proofs.Long.{greatest_passed, greatest_found}
use Rattle.desk_new_pool.proofs.overlong.greatest_length.Goals as goal

pub loop-place-preserved-then-want-index : goal.loop-place-preserved-then-want-index
loop-place-preserved-then-want-index c = λ pool own.
    c.max-greatest.ensures
    ∙ greatest_found pool c.args.wants.now c.loop-place.place c.get-want.result c.loop-place-test.true c.get-want.ensures c.args.index c.wanted_length.result c.loop-place.greatest c.args.own.now c.if-want-index.true own c.wanted_length.ensures (c.loop-place.invariant pool own)

pub loop-place-preserved : goal.loop-place-preserved
loop-place-preserved c = λ pool own.
    greatest_passed pool c.args.wants.now c.loop-place.place c.get-want.result c.loop-place-test.true c.get-want.ensures c.args.index c.loop-place.greatest c.if-want-index.false (c.loop-place.invariant pool own)

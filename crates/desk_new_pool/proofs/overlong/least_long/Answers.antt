use Rattle.std.proofs.Common.{◌≡◌, sym, drop, List, subst, refl, arith}
use Rattle.desk_new_pool.specs.Wants.{wants_of}
use Rattle.desk_new_pool.specs.Refusals.{IsLeastLong}
use Rattle.desk_new_pool.specs.declared.wants.WantedText.{WantedText}
use Rattle.desk_new_pool.proofs.Long.{long_passed, long_found}
use Rattle.desk_new_pool.proofs.overlong.least_long.Goals as goal

pub loop-place-preserved : goal.loop-place-preserved
loop-place-preserved c = λ pool all. long_passed pool c.args.wants.now c.loop-place.place c.get-want.result c.loop-place-test.true c.get-want.ensures c.loop-place.least all (sym c.if-is_long.ensures) (c.loop-place.invariant pool all)

pub loop-place-preserved-then-is_long : goal.loop-place-preserved-then-is_long
loop-place-preserved-then-is_long c = λ pool all. long_found pool c.args.wants.now c.loop-place.place c.get-want.result c.loop-place-test.true c.get-want.ensures c.loop-place.least c.lesser.result all (sym c.if-is_long.ensures) c.lesser.ensures (c.loop-place.invariant pool all)

pub returns : goal.returns
returns c = λ pool all.
    let start : c.loop-place.place ≡ 0 = omega arith in
    let whole : drop c.loop-place.place c.args.wants.now ≡ c.args.wants.now = rw start refl in
    subst (λ (ws : List WantedText). IsLeastLong (wants_of pool ws) c.loop-place.least) whole (c.loop-place.invariant pool all)

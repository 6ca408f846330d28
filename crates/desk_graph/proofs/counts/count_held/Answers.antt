use Rattle.std.proofs.Common.{◌<◌, ◌∙◌, sym, length, arith}
use Rattle.desk_graph.specs.Tables.{holds}
use Rattle.desk_graph.proofs.Counting.{counted, passed_over}
use Rattle.desk_graph.proofs.counts.count_held.Goals as goal
use Rattle.desk_graph.proofs.counts.count_held.Goals.{then-holds, else-holds}

pub loop-place-preserved : goal.loop-place-preserved
loop-place-preserved c =
    let within : c.loop-place.place < length c.args.held.now = omega arith in
    elim c.if-holds.branch [
      | then-holds w ↦ (
        counted (holds c.args.defined.now) c.args.held.now c.loop-place.place c.get.result.now within c.get.ensures c.loop-place.count c.if-holds.count c.loop-place.invariant.0 (sym c.holds.ensures ∙ w.if-holds.true) w.count-is,
        omega (arith, w.count-is, c.loop-place.invariant.1),
      )
      | else-holds w ↦ (
        passed_over (holds c.args.defined.now) c.args.held.now c.loop-place.place c.get.result.now within c.get.ensures c.loop-place.count c.if-holds.count c.loop-place.invariant.0 (sym c.holds.ensures ∙ w.if-holds.false) w.count-is,
        omega (arith, w.count-is, c.loop-place.invariant.1),
      )
    ]

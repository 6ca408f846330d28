use Rattle.std.proofs.Common.{◌++◌, ap, ◌∙◌, arith}
use Rattle.std.proofs.lemmas.List.{take_rest}
use Rattle.desk_sections.proofs.Written.{written_step}
use Rattle.desk_sections.proofs.folding.append_folded.Goals as goal

pub loop-limit-preserved : goal.loop-limit-preserved
loop-limit-preserved c = (
  omega arith,
  written_step _ c.loop-limit.out c.args.between.now c.args.last.now c.loop-limit.rest.now c.loop-limit.limit c.cut_place-place.result _ _ _ _
      c.loop-limit.invariant.1 c.loop-limit-test.true c.loop-limit.invariant.0 c.cut_place-place.ensures.place
      c.in_ok-append.ensures.ok c.in_ok-append-2.ensures.ok c.in_ok-push.ensures.ok
      (take_rest c.loop-limit.rest.now c.cut_place-place.result),
)

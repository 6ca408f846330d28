use Rattle.std.proofs.Common.{rules, ◌<◌, ◌+◌, List, length, map, Some, subst, sym, ap, ◌∙◌, length-append}
use Rattle.std.proofs.lemmas.Option.{slice_get-get_or}
use Rattle.desk_compare.specs.Ahead.{AreFound, difference_in}
use Rattle.desk_compare.specs.declared.pairs.FilePair.{FilePair}
use Rattle.desk_compare.proofs.Found.{found_next}
use Rattle.desk_compare.proofs.ahead.pair_files.Goals as goal

pub loop-i-preserved : goal.loop-i-preserved
loop-i-preserved c =
    let in_left : c.loop-i.i < length c.args.left.now = search rules in
    let in_right : c.loop-i.i < length c.args.right.now = search rules in
    record {
      found =
          subst (λ (pairs : List FilePair). AreFound c.args.left.now c.args.right.now (map difference_in pairs)) (sym c.in_ok-push.ensures.items)
          (found_next c.args.left.now c.args.right.now c.loop-i.pairs.items _ c.loop-i.i c.loop-i.invariant.found c.loop-i.invariant.count
          (slice_get-get_or c.args.left.now c.loop-i.i c.index-left-i.result in_left ∙ ap Some (sym c.index-left-i.is))
          (slice_get-get_or c.args.right.now c.loop-i.i c.index-right-i.result in_right ∙ ap Some (sym c.index-right-i.is)));
      count = ap length c.in_ok-push.ensures.items ∙ length-append c.loop-i.pairs.items _ ∙ ap (λ n. n + 1) c.loop-i.invariant.count;
    }

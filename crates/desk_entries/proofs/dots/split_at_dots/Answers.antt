use Rattle.std.proofs.Common.{◌∙◌, arith}
use Rattle.std.proofs.lemmas.List.{take_rest}
use Rattle.desk_entries.proofs.DotCuts.{cut_dot, cut_on, cut_end}
use Rattle.desk_entries.proofs.dots.split_at_dots.Goals as goal
use Rattle.desk_entries.proofs.dots.split_at_dots.Goals.{then-byte-eq46+in_ok-from_bytes+in_ok-push, else-byte-eq46}

pub loop-i-preserved : goal.loop-i-preserved
loop-i-preserved c = elim c.if-byte-eq46.branch [
  | then-byte-eq46+in_ok-from_bytes+in_ok-push w ↦
      rw (w.parts-is, w.from-is, w.in_ok-push.ensures.ok)
      (cut_dot c.args.text.now c.loop-i.parts c.loop-i.from c.loop-i.i c.loop-i.invariant (omega arith) w.if-byte-eq46.true _ w.in_ok-from_bytes.ensures)
  | else-byte-eq46 w ↦
      rw (w.parts-is, w.from-is)
      (cut_on c.args.text.now c.loop-i.parts c.loop-i.from c.loop-i.i c.loop-i.invariant (omega arith) w.if-byte-eq46.false)
]

pub returns : goal.returns
returns c = c.in_ok-push-2.ensures.ok ∙ cut_end c.args.text.now c.loop-i.parts c.loop-i.from c.loop-i.i c.loop-i.invariant (omega arith) _ (c.in_ok-from_bytes-2.ensures ∙ take_rest c.args.text.now c.loop-i.from)

use Rattle.std.proofs.Common.{◌∙◌, sym, arith}
use Rattle.desk_lines.proofs.Trimming.{trim_more, trim_done, trim_none}
use Rattle.desk_lines.proofs.blanks.trim_trailing_blanks.Goals as goal
use Rattle.desk_lines.proofs.blanks.trim_trailing_blanks.Goals.{then-loop-end-test+else-is_blank, else-loop-end-test}

pub loop-end-preserved : goal.loop-end-preserved
loop-end-preserved c = record {
  within = omega (arith, c.loop-end.invariant.within);
  so_far = trim_more c.args.text.now c.loop-end.end (omega arith) c.loop-end.invariant.within (sym c.is_blank.ensures ∙ c.if-is_blank.true) c.loop-end.invariant.so_far;
}

pub returns : goal.returns
returns c = elim c.loop-end-test.branch [
  | then-loop-end-test+else-is_blank w ↦ trim_done c.args.text.now c.loop-end.end (omega arith) c.loop-end.invariant.within (sym w.is_blank.ensures ∙ w.if-is_blank.false) c.loop-end.invariant.so_far
  | else-loop-end-test w ↦ trim_none c.args.text.now c.loop-end.end (omega arith) c.loop-end.invariant.so_far
]

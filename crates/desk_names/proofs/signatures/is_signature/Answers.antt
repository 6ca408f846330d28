use Rattle.std.proofs.Common.{◌+◌, sym, ◌∙◌}
use Rattle.desk_names.proofs.Skips.{run_at, run_more}
use Rattle.desk_names.proofs.signatures.is_signature.Goals as goal

pub loop-at-preserved-then-is_within : goal.loop-at-preserved-then-is_within
loop-at-preserved-then-is_within c = (c.mark_from-at.ensures.bound, run_at c.sig_step-state.result c.args.text.now (c.loop-at.at + 1) c.mark_from-at.result (sym c.is_within.ensures ∙ c.if-is_within.true) c.mark_from-at.ensures.value ∙ run_more c.loop-at.state c.sig_step-state.result c.args.text.now c.loop-at.at c.loop-at-test.true c.sig_step-state.ensures ∙ c.loop-at.invariant.1)

use Rattle.std.proofs.Common.{◌+◌, sym, ◌∙◌, arith}
use Rattle.desk_names.proofs.SigPlaces.{other_more, other_ends, other_last}
use Rattle.desk_names.proofs.Skips.{cut_at}
use Rattle.desk_names.proofs.signature_parts.other_end.Goals as goal

pub returns-then-is_naming-clause-first : goal.returns-then-is_naming-clause-first
returns-then-is_naming-clause-first c = other_ends c.loop-at.state c.args.state c.sig_step-state.result c.args.text.now c.loop-at.at c.loop-at-test.true c.loop-at.invariant.1 c.sig_step-state.ensures (sym c.is_naming.ensures ∙ c.if-is_naming.true) c.loop-at.invariant.2

pub loop-at-preserved-then-is_within : goal.loop-at-preserved-then-is_within
loop-at-preserved-then-is_within c = (c.mark_from-at.ensures.bound, sym c.is_naming.ensures ∙ c.if-is_naming.false, cut_at c.sig_step-state.result c.args.state c.args.text.now (c.loop-at.at + 1) c.mark_from-at.result (sym c.is_within.ensures ∙ c.if-is_within.true) (sym c.is_naming.ensures ∙ c.if-is_naming.false) c.mark_from-at.ensures.value (other_more c.loop-at.state c.args.state c.sig_step-state.result c.args.text.now c.loop-at.at c.loop-at-test.true c.loop-at.invariant.1 c.sig_step-state.ensures (sym c.is_naming.ensures ∙ c.if-is_naming.false) c.loop-at.invariant.2))

pub loop-at-preserved : goal.loop-at-preserved
loop-at-preserved c = (omega arith, sym c.is_naming.ensures ∙ c.if-is_naming.false, other_more c.loop-at.state c.args.state c.sig_step-state.result c.args.text.now c.loop-at.at c.loop-at-test.true c.loop-at.invariant.1 c.sig_step-state.ensures (sym c.is_naming.ensures ∙ c.if-is_naming.false) c.loop-at.invariant.2)

pub returns-clause-first : goal.returns-clause-first
returns-clause-first c = other_last c.loop-at.state c.args.state c.args.text.now c.loop-at.at c.loop-at-test.false c.requires.some c.loop-at.invariant.2

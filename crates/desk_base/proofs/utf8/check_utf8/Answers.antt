use Rattle.std.proofs.Common.{sym, ◌∙◌, arith}
use Rattle.desk_base.proofs.Forms.{bad_end, bad_stop, bad_step, step_within, singles_passed}
use Rattle.desk_base.proofs.utf8.check_utf8.Goals as goal

pub loop-at-init : goal.loop-at-init
loop-at-init c = (c.single_front-at.ensures.within, singles_passed c.single_front-at.result c.args.bytes.now c.single_front-at.ensures.within c.single_front-at.ensures.single)

pub returns-then-size-eq0-clause-first : goal.returns-then-size-eq0-clause-first
returns-then-size-eq0-clause-first c = sym c.loop-at.invariant.1 ∙ bad_stop c.loop-at.at c.args.bytes.now c.loop-at-test.true (sym c.size_at-size.ensures ∙ c.if-size-eq0.true)

pub loop-at-preserved : goal.loop-at-preserved
loop-at-preserved c = rw (c.size_at-size.ensures) (step_within c.loop-at.at c.args.bytes.now c.loop-at.invariant.0, bad_step c.loop-at.at c.args.bytes.now (omega (arith, c.size_at-size.ensures)) ∙ c.loop-at.invariant.1)

pub returns-clause-formed : goal.returns-clause-formed
returns-clause-formed c = sym c.loop-at.invariant.1 ∙ bad_end c.loop-at.at c.args.bytes.now c.loop-at-test.false

use Rattle.std.proofs.Common.{sym, ◌∙◌}
use Rattle.desk_properties.proofs.Parts.{gap_none, gap_more, gap_end_byte, gap_end_last}
use Rattle.desk_properties.proofs.entries.skip_gap.Goals as goal

pub loop-at-init : goal.loop-at-init
loop-at-init c = gap_none c.args.file.now c.args.from _ c.resume-at.ensures

pub loop-at-preserved : goal.loop-at-preserved
loop-at-preserved c = gap_more c.args.file.now c.args.from c.loop-at.at _ c.loop-at.invariant c.loop-at-test.true (sym c.is_white.ensures ∙ c.if-is_white.true) c.resume-at-in-loop-at.ensures

pub returns-else-is_white : goal.returns-else-is_white
returns-else-is_white c = gap_end_byte c.args.file.now c.args.from c.loop-at.at c.loop-at.invariant c.loop-at-test.true (sym c.is_white.ensures ∙ c.if-is_white.false)

pub returns-after-loop-at : goal.returns-after-loop-at
returns-after-loop-at c = gap_end_last c.args.file.now c.args.from c.loop-at.at c.loop-at.invariant c.loop-at-test.false

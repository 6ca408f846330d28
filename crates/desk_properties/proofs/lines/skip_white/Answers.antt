use Rattle.std.proofs.Common.{sym, ◌∙◌}
use Rattle.desk_properties.proofs.Skips.{skip_none, skip_more, skip_at_byte, skip_at_last}
use Rattle.desk_properties.proofs.lines.skip_white.Goals as goal

pub loop-at-init : goal.loop-at-init
loop-at-init c = skip_none c.args.file.now c.args.from c.requires

pub loop-at-preserved : goal.loop-at-preserved
loop-at-preserved c = skip_more c.args.file.now c.args.from c.loop-at.at c.loop-at.invariant c.loop-at-test.true (sym c.is_white.ensures ∙ c.if-is_white.true)

pub returns-else-is_white : goal.returns-else-is_white
returns-else-is_white c = skip_at_byte c.args.file.now c.args.from c.loop-at.at c.loop-at.invariant c.loop-at-test.true (sym c.is_white.ensures ∙ c.if-is_white.false)

pub returns-after-loop-at : goal.returns-after-loop-at
returns-after-loop-at c = skip_at_last c.args.file.now c.args.from c.loop-at.at c.loop-at.invariant c.loop-at-test.false

use Rattle.std.proofs.Common.{rules, ◌∙◌, sym}
use Rattle.desk_sections.proofs.Headed.{one_more, skipped_all, nothing_anew, line_anew}
use Rattle.desk_sections.proofs.headers.skip_continuations.Goals as goal

pub loop-line-preserved : goal.loop-line-preserved
loop-line-preserved c =
    one_more c.args.text.now c.args.end c.loop-line.end c.loop-line.rest.now c.in-Some.line.content.now c.in-Some.line.end c.in-Some.more.now
    c.loop-line.invariant c.in-Some.ensures.line (search rules)

pub returns : goal.returns
returns c = skipped_all c.args.text.now c.args.end c.loop-line.end c.loop-line.rest.now c.loop-line.invariant (nothing_anew c.loop-line.rest.now (search rules))

pub returns-then-not-is_continuation : goal.returns-then-not-is_continuation
returns-then-not-is_continuation c =
    skipped_all c.args.text.now c.args.end c.loop-line.end c.loop-line.rest.now c.loop-line.invariant
    (line_anew c.loop-line.rest.now c.in-Some.line.content.now c.in-Some.line.end c.in-Some.more.now c.in-Some.ensures.line (search rules))

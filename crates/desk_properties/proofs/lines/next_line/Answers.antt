use Rattle.std.proofs.Common.{drop, arith}
use Rattle.std.proofs.lemmas.List.{length-drop}
use Rattle.desk_properties.proofs.Natural.{end_within}
use Rattle.desk_properties.proofs.Skips.{pass_none, pass_more, pass_end, pass_last}
use Rattle.desk_properties.proofs.lines.next_line.Goals as goal

pub loop-at-init : goal.loop-at-init
loop-at-init c = pass_none c.args.file.now c.args.from c.requires

pub returns-then-size-gt0 : goal.returns-then-size-gt0
returns-then-size-gt0 c =
    let file = c.args.file.now in
    pass_end file c.args.from c.loop-at.at _ c.loop-at.invariant c.loop-at-test.true c.end_size-size.ensures c.if-size-gt0.true
    (omega (arith, c.end_size-size.ensures, end_within (drop c.loop-at.at file), length-drop c.loop-at.at file))

pub loop-at-preserved : goal.loop-at-preserved
loop-at-preserved c = pass_more c.args.file.now c.args.from c.loop-at.at c.loop-at.invariant c.loop-at-test.true (omega (arith, c.end_size-size.ensures, c.if-size-gt0.false))

pub returns : goal.returns
returns c = pass_last c.args.file.now c.args.from c.loop-at.at c.loop-at.invariant c.loop-at-test.false

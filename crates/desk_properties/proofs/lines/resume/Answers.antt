use Rattle.std.proofs.Common.{◌+◌, drop, sym, ◌∙◌, arith}
use Rattle.std.proofs.lemmas.List.{length-drop}
use Rattle.desk_properties.proofs.Natural.{end_within}
use Rattle.desk_properties.proofs.Skips.{resume_none, resume_more, break_within}
use Rattle.desk_properties.proofs.lines.resume.Goals as goal

pub loop-size-init : goal.loop-size-init
loop-size-init c = resume_none c.args.file.now c.args.from c.requires

pub skip_white-at-requires : goal.skip_white-at-requires
skip_white-at-requires c =
    let file = c.args.file.now in
    let within = break_within file c.loop-size.at (sym c.begins_break.ensures ∙ c.loop-size-test.true) in
    omega (arith, within, c.end_size-size.ensures, end_within (drop (c.loop-size.at + 1) file), length-drop (c.loop-size.at + 1) file)

pub loop-size-preserved : goal.loop-size-preserved
loop-size-preserved c = resume_more c.args.file.now c.args.from c.loop-size.at _ _ c.loop-size.invariant (sym c.begins_break.ensures ∙ c.loop-size-test.true) c.end_size-size.ensures c.skip_white-at.ensures

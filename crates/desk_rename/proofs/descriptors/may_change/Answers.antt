use Rattle.std.proofs.Common.{◌∙◌, sym}
use Rattle.desk_rename.specs.Images.{repackaged}
use Rattle.desk_rename.proofs.Staying.{fixed_more, fixed_none, desc_stays}
use Rattle.desk_rename.proofs.descriptors.may_change.Goals as goal

pub loop-name-preserved : goal.loop-name-preserved
loop-name-preserved c = λ h.
    c.loop-name.invariant (fixed_more c.args.rules.now.renames c.recall_settled.ensures.settled.formed c.loop-name.rest.now c.in-Some.name.now c.in-Some.behind.now c.in-Some.ensures.name (sym c.begins.ensures ∙ c.if-begins.false) h)

pub returns : goal.returns
returns c = λ _. desc_stays c.args.rules.now.renames c.args.text.now (c.loop-name.invariant (fixed_none (repackaged c.args.rules.now.renames) c.loop-name.rest.now c.in_default.ensures.name))

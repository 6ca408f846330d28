use Rattle.std.proofs.Common.{sym, ◌∙◌}
use Rattle.desk_invert.proofs.LookUps.{none_below, none_exact, none_told, none_copied}
use Rattle.desk_invert.proofs.overlaps.may_be_taken_back.Goals as goal

pub returns-then-is_below : goal.returns-then-is_below
returns-then-is_below c h =
    none_below c.args.rename.now c.recall_form.ensures.formed c.args.backs.now c.dotted_target.result.now c.dotted_target.ensures (sym c.is_below.ensures ∙ c.if-is_below.true)
    (none_told _ _ c.longest_of.result c.longest_of.ensures.longest (sym c.is_some.ensures ∙ h))

pub returns-else-is_below : goal.returns-else-is_below
returns-else-is_below c h =
    none_exact c.args.rename.now c.recall_form.ensures.formed c.args.backs.now c.dotted_target-else-is_below.result.now c.dotted_target-else-is_below.ensures (sym c.is_below.ensures ∙ c.if-is_below.false)
    (none_copied c.rule_of.result _ c.rule_of.ensures (sym c.is_some-else-is_below.ensures ∙ h))

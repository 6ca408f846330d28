use Rattle.std.proofs.Common.{sym, ◌∙◌}
use Rattle.desk_invert.proofs.LookUps.{unmoved, none_overlaps}
use Rattle.desk_invert.proofs.overlaps.looked_up.Goals as goal

pub returns-then-not-changes : goal.returns-then-not-changes
returns-then-not-changes c = unmoved c.args.renames.now c.args.first.now (sym c.changes.ensures ∙ c.if-not-changes.true)

pub returns-then-not-may_overlap : goal.returns-then-not-may_overlap
returns-then-not-may_overlap c =
    none_overlaps c.args.renames.now c.args.backs.now.once.items c.args.backs.now.repeated.items c.requires.backs c.args.first.now c.requires.there
    (c.may_overlap.ensures.alone c.if-not-may_overlap.true) (c.may_overlap.ensures.untouched c.if-not-may_overlap.true)

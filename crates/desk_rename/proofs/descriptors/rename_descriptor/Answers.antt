use Rattle.desk_rename.proofs.Finished.{desc_other}
use Rattle.desk_rename.proofs.descriptors.rename_descriptor.Goals as goal

pub returns-in-None-clause-image : goal.returns-in-None-clause-image
returns-in-None-clause-image c = desc_other c.args.rules.now.renames c.args.text.now c.in-None.ensures

pub returns-then-not-may_change-clause-image : goal.returns-then-not-may_change-clause-image
returns-then-not-may_change-clause-image c = c.may_change.ensures c.if-not-may_change.true

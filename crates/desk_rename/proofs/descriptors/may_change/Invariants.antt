use Rattle.std.proofs.Common.{length}
use Rattle.desk_names.specs.Pieces.{pieces}
use Rattle.desk_rename.specs.Images.{repackaged}
use Rattle.desk_rename.specs.Drafts.{Fixed}
use Rattle.desk_rename.proofs.descriptors.may_change.Given as goal

abbrev pub invariant-loop-name : goal.invariant-loop-name
invariant-loop-name l = Fixed (repackaged l.fn.rules.renames) (pieces l.rest) → Fixed (repackaged l.fn.rules.renames) (pieces l.fn.text)

abbrev pub decreases-loop-name : goal.decreases-loop-name
decreases-loop-name l = length l.rest

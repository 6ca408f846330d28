use Rattle.std.proofs.Common.{◌-◌, length}
use Rattle.desk_textrules.proofs.Pieces.{IsSettledTo}
use Rattle.desk_textrules.proofs.texts.first_change.Given as goal

abbrev pub invariant-loop-place : goal.invariant-loop-place
invariant-loop-place l = IsSettledTo l.rules l.text l.done

abbrev pub decreases-loop-place : goal.decreases-loop-place
decreases-loop-place l = length l.text - l.done

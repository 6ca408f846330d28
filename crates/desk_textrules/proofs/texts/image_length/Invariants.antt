use Rattle.std.proofs.Common.{◌≤◌, ◌-◌, length}
use Rattle.desk_textrules.proofs.Lengths.{IsMeasuredTo}
use Rattle.desk_textrules.proofs.texts.image_length.Given as goal

abbrev pub invariant-loop-place : goal.invariant-loop-place
invariant-loop-place l = record {
  measured : IsMeasuredTo l.rules l.text l.most l.done l.room;
  small : l.room ≤ l.most;
}

abbrev pub decreases-loop-place : goal.decreases-loop-place
decreases-loop-place l = length l.text - l.done

use Rattle.std.proofs.Common.{◌-◌, length}
use Rattle.desk_textrules.proofs.Pieces.{IsReplacedTo}
use Rattle.desk_textrules.proofs.texts.replace.Given as goal

abbrev pub invariant-loop-place : goal.invariant-loop-place
invariant-loop-place l = IsReplacedTo l.rules l.text l.done l.bytes l.changed

abbrev pub decreases-loop-place : goal.decreases-loop-place
decreases-loop-place l = length l.text - l.done

use Rattle.std.proofs.Common.{length}
use Rattle.desk_compare.specs.Ahead.{AreFound}
use Rattle.desk_compare.proofs.Merge.{IsAhead}
use Rattle.desk_compare.proofs.files.compare.Given as goal

abbrev pub invariant-loop-a : goal.invariant-loop-a
invariant-loop-a g l = record {
  ahead : IsAhead l.fn.left l.fn.right l.one l.other;
  found : AreFound l.one l.other l.ahead.found.items;
}

abbrev pub decreases-loop-a : goal.decreases-loop-a
decreases-loop-a g l = length l.one

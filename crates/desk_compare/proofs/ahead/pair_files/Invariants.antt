use Rattle.std.proofs.Common.{◌≡◌, length, map}
use Rattle.desk_compare.specs.Ahead.{AreFound, difference_in}
use Rattle.desk_compare.proofs.ahead.pair_files.Given as goal

abbrev pub invariant-loop-i : goal.invariant-loop-i
invariant-loop-i l = record {
  found : AreFound l.left l.right (map difference_in l.pairs.items);
  count : length l.pairs.items ≡ l.i;
}

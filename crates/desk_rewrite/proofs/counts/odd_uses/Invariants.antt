use Rattle.std.proofs.Common.{◌≡◌, count_by, take}
use Rattle.desk_rewrite.specs.Counts.{AreOdd, is_odd_use}
use Rattle.desk_rewrite.proofs.counts.odd_uses.Given as goal

abbrev pub invariant-loop-used : goal.invariant-loop-used
invariant-loop-used l = record {
  odd : l.odd ≡ count_by (is_odd_use l.pool.entries) (take l.used-index l.uses);
  answers : AreOdd l.pool.entries l.answers;
}

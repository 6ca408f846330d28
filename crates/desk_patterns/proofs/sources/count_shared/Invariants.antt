use Rattle.std.proofs.Common.{◌≡◌, ◌≤◌, ◌+◌, ◌-◌, length, drop}
use Rattle.desk_patterns.specs.Tables.{shared}
use Rattle.desk_patterns.proofs.sources.count_shared.Given as goal

abbrev pub invariant-loop-at : goal.invariant-loop-at
invariant-loop-at l = record {
  within : l.at ≤ length l.source;
  inside : l.at ≤ length l.text;
  shared_is : shared l.source l.text ≡ l.at + shared (drop l.at l.source) (drop l.at l.text);
}

abbrev pub decreases-loop-at : goal.decreases-loop-at
decreases-loop-at l = length l.source - l.at

use Rattle.std.proofs.Common.{◌≤◌, ◌-◌, length}
use Rattle.desk_patterns.specs.Seen.{NoHits}
use Rattle.desk_patterns.proofs.text_rules.TextRules.next_place.Given as goal

abbrev pub invariant-loop-at : goal.invariant-loop-at
invariant-loop-at l = record {
  low : l.from ≤ l.at;
  high : l.at ≤ length l.text;
  before : NoHits l.self l.text l.from l.at;
}

abbrev pub decreases-loop-at : goal.decreases-loop-at
decreases-loop-at l = length l.text - l.at

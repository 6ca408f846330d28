use Rattle.std.proofs.Common.{◌-◌}
use Rattle.desk_patterns.specs.Seen.{rules_seen}
use Rattle.desk_patterns.proofs.Cuts.{IsNarrowed}
use Rattle.desk_patterns.proofs.sources.find_cut.Given as goal

abbrev pub invariant-loop-low : goal.invariant-loop-low
invariant-loop-low l = IsNarrowed (rules_seen l.rules) l.text l.low l.high l.low_shared l.high_shared

abbrev pub decreases-loop-low : goal.decreases-loop-low
decreases-loop-low l = l.high - l.low

use Rattle.desk_patterns.specs.Seen.{rules_seen}
use Rattle.desk_patterns.proofs.Tables.{IsWalk}
use Rattle.desk_patterns.proofs.text_rules.last_start.Given as goal

abbrev pub invariant-loop-place : goal.invariant-loop-place
invariant-loop-place l = IsWalk (rules_seen l.rules) l.text l.cut.count l.place

abbrev pub decreases-loop-place : goal.decreases-loop-place
decreases-loop-place l = l.place

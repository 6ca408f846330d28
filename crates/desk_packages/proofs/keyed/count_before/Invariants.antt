use Rattle.std.proofs.Common.{◌-◌}
use Rattle.desk_packages.specs.Keys.{IsCutAt}
use Rattle.desk_packages.proofs.keyed.count_before.Given as goal

abbrev pub invariant-loop-low : goal.invariant-loop-low
invariant-loop-low g l = IsCutAt g.R.Keyed.key_of l.rules l.text l.low l.high

abbrev pub decreases-loop-low : goal.decreases-loop-low
decreases-loop-low g l = l.high - l.low

use Rattle.std.proofs.Common.{◌-◌}
use Rattle.desk_packages.proofs.Searched.{Narrowed}
use Rattle.desk_packages.proofs.keyed.place_of.Given as goal

abbrev pub invariant-loop-low : goal.invariant-loop-low
invariant-loop-low g l = Narrowed g.R.Keyed.key_of l.rules l.key l.low l.high

abbrev pub decreases-loop-low : goal.decreases-loop-low
decreases-loop-low g l = l.high - l.low

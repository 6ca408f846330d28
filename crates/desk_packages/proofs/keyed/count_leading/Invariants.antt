use Rattle.desk_packages.specs.Keys.{AllBegin}
use Rattle.desk_packages.proofs.keyed.count_leading.Given as goal

abbrev pub invariant-loop-at : goal.invariant-loop-at
invariant-loop-at g l = AllBegin g.R.Keyed.key_of l.rules l.start l.at

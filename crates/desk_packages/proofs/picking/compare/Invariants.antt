use Rattle.desk_packages.specs.Keys.{goes_below, wanted_tail}
use Rattle.desk_packages.proofs.Sources.{IsLeft}
use Rattle.desk_packages.proofs.picking.compare.Given as goal

abbrev pub invariant-loop-at : goal.invariant-loop-at
invariant-loop-at l = IsLeft l.key l.path l.separator (wanted_tail (goes_below l.reach)) l.at

use Rattle.std.proofs.Common.{◌≡◌, ◌≤◌, length, drop, true}
use Rattle.desk_base.specs.Names.{is_whole}
use Rattle.desk_packages.proofs.fronts.front_end.Given as goal

-- no separator stands behind the place
abbrev pub invariant-loop-end : goal.invariant-loop-end
invariant-loop-end l = record { within : l.end ≤ length l.text; clear : is_whole l.separator (drop l.end l.text) ≡ true }

abbrev pub decreases-loop-end : goal.decreases-loop-end
decreases-loop-end l = l.end

use Rattle.std.proofs.Common.{◌≡◌, drop}
use Rattle.desk_clashes.specs.Known.{names_of, first_place, Knows}
use Rattle.desk_clashes.proofs.targets.first_place.Given as goal

abbrev pub invariant-loop-place : goal.invariant-loop-place
invariant-loop-place l = (l.first ≡ first_place l.place (names_of (drop l.place l.targets))) × Knows l.known.names l.known.folders l.known.apart (names_of (drop l.place l.targets))

use Rattle.std.proofs.Common.{◌≡◌, ◌+◌, drop}
use Rattle.std.specs.List.{position_from}
use Rattle.desk_clashes.specs.Clashes.{clashes}
use Rattle.desk_clashes.specs.Known.{names_of, name_at}
use Rattle.desk_clashes.proofs.targets.second_place.Given as goal

abbrev pub invariant-loop-place : goal.invariant-loop-place
invariant-loop-place l = position_from (clashes (name_at l.targets l.first)) (l.first + 1) (names_of (drop (l.first + 1) l.targets)) ≡ position_from (clashes (name_at l.targets l.first)) l.place (names_of (drop l.place l.targets))

use Rattle.std.proofs.Common.{◌≡◌, map, take}
use Rattle.desk_code.specs.Gathering.{placed_code}
use Rattle.desk_code.specs.Seen.{seen}
use Rattle.desk_code.proofs.places.places_in.Given as goal

abbrev pub invariant-loop-code : goal.invariant-loop-code
invariant-loop-code l = l.places.items ≡ map (placed_code l.bytes) (seen (take l.code-index l.codes))

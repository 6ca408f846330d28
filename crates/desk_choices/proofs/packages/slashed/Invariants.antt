use Rattle.std.proofs.Common.{◌≡◌, take, map}
use Rattle.desk_choices.specs.Packages.{slashed_byte}
use Rattle.desk_choices.proofs.packages.slashed.Given as goal

abbrev pub invariant-loop-byte : goal.invariant-loop-byte
invariant-loop-byte l = l.text ≡ map slashed_byte (take l.byte-index l.name)

use Rattle.std.proofs.Common.{◌≡◌, length}
use Rattle.desk_class.specs.Held.{found_all}
use Rattle.desk_class.specs.Standing.{standing_in}
use Rattle.desk_class.proofs.names.add_descriptor.Given as goal

abbrev pub invariant-loop-name : goal.invariant-loop-name
invariant-loop-name l = found_all l.names (standing_in l.rest) ≡ found_all l.fn.names (standing_in l.fn.text)

abbrev pub decreases-loop-name : goal.decreases-loop-name
decreases-loop-name l = length l.rest

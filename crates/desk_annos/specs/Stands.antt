-- Where a cursor stands after a walk that may have ended at a fault.
use Rattle.std.specs.Prelude.{◌≡◌, ◌+◌, ◌≤◌, length}
use Rattle.desk_base.specs.Spot.{Spot}

-- the new spot lies between the old one and its end, and has the same end
abbrev pub StandsWithin : Spot → Spot → Type 0
StandsWithin old new = (old.at ≤ new.at) × (new.at + length new.left ≡ old.at + length old.left)

use Rattle.std.proofs.Common.{◌-◌}
use Rattle.desk_packages.specs.Renames.{key_of}
use Rattle.desk_packages.specs.Keys.{byte_of, goes_below, wanted}
use Rattle.desk_packages.proofs.Searched.{Narrowed}
use Rattle.desk_packages.proofs.picking.find.Given as goal

abbrev pub invariant-loop-low : goal.invariant-loop-low
invariant-loop-low l = Narrowed key_of l.renames (wanted (byte_of l.separator) l.path (goes_below l.reach)) l.low l.high

abbrev pub decreases-loop-low : goal.decreases-loop-low
decreases-loop-low l = l.high - l.low

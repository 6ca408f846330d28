use Rattle.std.proofs.Common.{◌≡◌, take}
use Rattle.desk_base.specs.Names.{written}
use Rattle.desk_packages.specs.Keys.{byte_of}
use Rattle.desk_packages.proofs.rename.joined.Given as goal

abbrev pub invariant-loop-i : goal.invariant-loop-i
invariant-loop-i l = l.text ≡ written (byte_of l.separator) (take l.i l.segments)

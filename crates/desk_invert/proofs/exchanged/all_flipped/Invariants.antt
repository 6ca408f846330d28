use Rattle.std.proofs.Common.{◌≡◌, take, map}
use Rattle.std.specs.List.{filter}
use Rattle.desk_packages.specs.Renames.{changes}
use Rattle.desk_invert.specs.Inverse.{flipped}
use Rattle.desk_invert.proofs.exchanged.all_flipped.Given as goal

abbrev pub invariant-loop-rename : goal.invariant-loop-rename
invariant-loop-rename l = l.backs.items ≡ map flipped (filter changes (take l.rename-index l.renames))

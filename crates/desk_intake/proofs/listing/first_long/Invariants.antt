use Rattle.std.proofs.Common.{◌≡◌, drop}
use Rattle.desk_intake.specs.Limits.{first_long, itself}
use Rattle.desk_intake.proofs.listing.first_long.Given as goal

abbrev pub invariant-loop-path : goal.invariant-loop-path
invariant-loop-path l = first_long itself (drop l.path-index l.paths) ≡ first_long itself l.paths

use Rattle.std.proofs.Common.{◌≡◌, drop}
use Rattle.desk_sites.specs.Packages.{lies_in}
use Rattle.desk_sites.proofs.packages.lies_in.Given as goal

abbrev pub invariant-loop-segment : goal.invariant-loop-segment
invariant-loop-segment l = lies_in (drop l.segment-index l.scope) l.rest ≡ lies_in l.fn.scope l.fn.name

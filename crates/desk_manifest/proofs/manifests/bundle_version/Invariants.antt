use Rattle.std.proofs.Common.{◌≡◌, length}
use Rattle.desk_manifest.proofs.Sought.{sought}
use Rattle.desk_manifest.proofs.manifests.bundle_version.Given as goal

abbrev pub invariant-loop-line : goal.invariant-loop-line
invariant-loop-line l = sought l.rules l.text ≡ sought l.rules l.rest

abbrev pub decreases-loop-line : goal.decreases-loop-line
decreases-loop-line l = length l.rest

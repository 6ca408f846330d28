use Rattle.std.proofs.Common.{length}
use Rattle.desk_metainf.proofs.Migrating.{IsMigratedTo}
use Rattle.desk_metainf.proofs.services.migrate_service.Given as goal

abbrev pub invariant-loop-line : goal.invariant-loop-line
invariant-loop-line l = IsMigratedTo l.rules l.text l.rest l.bytes l.changed

abbrev pub decreases-loop-line : goal.decreases-loop-line
decreases-loop-line l = length l.rest

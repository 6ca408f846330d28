use Rattle.std.proofs.Common.{length}
use Rattle.desk_lines.specs.Lines.{lines}
use Rattle.desk_manifest.specs.Manifests.{bundle_version, fold_end, images_of}
use Rattle.desk_manifest.proofs.Migrating.{IsMigratedTo, items_of}
use Rattle.desk_manifest.proofs.manifests.migrate_manifest.Given as goal

abbrev pub invariant-loop-line : goal.invariant-loop-line
invariant-loop-line l = IsMigratedTo (images_of l.rules (bundle_version l.rules (items_of l.text))) (fold_end (lines l.text)) l.text l.rest l.edits l.changed l.main

abbrev pub decreases-loop-line : goal.decreases-loop-line
decreases-loop-line l = length l.rest

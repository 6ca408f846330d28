use Rattle.std.proofs.Common.{◌≡◌, ◌≤◌, ◌+◌, ◌++◌, Some, map, length}
use Rattle.std.specs.Prelude.{All}
use Rattle.desk_file.specs.Linked.{image_in}
use Rattle.desk_file.specs.Routes.{IsRouteBy}
use Rattle.desk_folders.specs.Contents.{Contents}
use Rattle.desk_batches.specs.Notes.{IsNoteOf, IsSound, BecomesAsNoted}
use Rattle.desk_batches.specs.Turns.{HasItsDigest, image_here, image_of_input, migrated}
use Rattle.desk_batches.specs.declared.planned.PlannedFile.{PlannedFile}
use Rattle.desk_batches.proofs.images.images_of_batch.Given as goal

abbrev pub invariant-loop-rest : goal.invariant-loop-rest
invariant-loop-rest g l = record {
  told : g.F.Folders.told l.folders ≡ g.F.Folders.told l.fn.folders;
  counts : g.F.Folders.faults l.fn.folders ≤ g.F.Folders.faults l.folders;
  images : (m : Contents) → g.F.Folders.told l.fn.folders ≡ Some m
      → map (image_here (image_in l.job.graph.now.rules l.job.graph.now.defined) l.from m) (migrated l.batch) ≡ l.images.items ++ (map (image_of_input l.job.graph.now.rules l.job.graph.now.defined) l.inputs.items
      ++ map (image_here (image_in l.job.graph.now.rules l.job.graph.now.defined) l.from m) (migrated l.rest));
  count : length (migrated l.batch) ≡ length l.images.items + (length l.inputs.items + length (migrated l.rest));
  digests : (m : Contents) → g.F.Folders.told l.fn.folders ≡ Some m → All HasItsDigest l.inputs.items;
  short : length l.rest ≤ length l.batch;
  sound : All IsSound l.rest;
  routes : All (λ (file : PlannedFile). IsRouteBy l.job.graph.now.rules file.route) l.rest;
  notes : (m : Contents) → g.F.Folders.told l.fn.folders ≡ Some m → All (IsNoteOf l.from m) l.rest;
  stays : (m : Contents) → g.F.Folders.told l.fn.folders ≡ Some m → All (BecomesAsNoted (image_in l.job.graph.now.rules l.job.graph.now.defined) l.from m) l.rest;
}

abbrev pub decreases-loop-rest : goal.decreases-loop-rest
decreases-loop-rest g l = length l.rest

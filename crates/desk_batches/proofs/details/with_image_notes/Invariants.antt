use Rattle.std.proofs.Common.{◌≡◌, ◌++◌, map, take, drop, length}
use Rattle.desk_batches.specs.Details.{bare, image_notes, notes_in}
use Rattle.desk_batches.specs.declared.planned.PlannedFile.{PlannedFile}
use Rattle.desk_batches.proofs.details.with_image_notes.Given as goal

abbrev pub invariant-loop-place : goal.invariant-loop-place
invariant-loop-place l = record {
  count : length l.known.items ≡ length l.initial.known.items;
  bare : map bare l.known.items ≡ map bare l.initial.known.items;
  images : image_notes (map (λ (file : PlannedFile). file.class) l.initial.known.items) l.fn.counts
      ≡ notes_in (take l.place l.known.items) ++ image_notes (drop l.place (map (λ (file : PlannedFile). file.class) l.initial.known.items)) l.left;
}

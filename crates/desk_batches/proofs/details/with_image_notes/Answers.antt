use Rattle.std.proofs.Common.{◌<◌, ◌∙◌, length, map, refl, arith}
use Rattle.std.proofs.Math.ListN.{length-set}
use Rattle.std.proofs.lemmas.List.{length-map}
use Rattle.desk_batches.specs.declared.planned.PlannedFile.{PlannedFile}
use Rattle.desk_batches.specs.Details.{image_notes}
use Rattle.desk_batches.proofs.Detailing.{bare_more, class_at, details_more}
use Rattle.desk_batches.proofs.details.with_image_notes.Goals as goal

pub loop-place-preserved : goal.loop-place-preserved
loop-place-preserved c =
    let xs = c.loop-place.known.items in
    let place = c.loop-place.place in
    let notes = map (λ (file : PlannedFile). file.class) c.args.planned.items in
    let read : PlannedFile = c.index.result.now in
    let one : PlannedFile = c.index_mut.result.now in
    let new : PlannedFile = record { route = one.route; size = one.size; digest = one.digest; class = one.class; image = c.next_note-note.result.0; action = one.action } in
    let within : place < length xs = omega (arith, c.loop-place.invariant.count, c.loop-place-test.true) in
    let all = length-map c.args.planned.items (λ (file : PlannedFile). file.class) in
    let there : place < length notes = omega (arith, c.loop-place.invariant.count, within, all) in
    record {
      count = length-set xs place new ∙ c.loop-place.invariant.count;
      bare = bare_more xs c.args.planned.items place new one within c.index_mut.ensures.value refl c.loop-place.invariant.bare;
      images = details_more (image_notes notes c.args.counts.now) xs notes place new read.class c.loop-place.left.now c.next_note-note.result.1.now within there
          (class_at xs c.args.planned.items place read c.index.ensures c.loop-place.invariant.bare) c.loop-place.invariant.images c.next_note-note.ensures.note c.next_note-note.ensures.behind;
    }

use Rattle.std.proofs.Common.{◌∙◌, List, ap, map, option_map}
use Rattle.desk_batches.specs.Details.{image_notes}
use Rattle.desk_readings.specs.declared.measured.ClassNote.{ClassNote}
use Rattle.desk_readings.specs.declared.measured.MeasuredFile.{MeasuredFile}
use Rattle.desk_ledger.specs.Ledger.{with_header}
use Rattle.desk_batches.specs.Notes.{IsSound}
use Rattle.desk_run.proofs.Staying.{bare_planned, classes_same, measured_same, of_bare, sound_bare}
use Rattle.desk_run.proofs.finish.plan.Goals as goal

pub returns-clause-planned : goal.returns-clause-planned
returns-clause-planned g c = λ m l ef ek.
    c.with_image_notes-planned.ensures.bare
    ∙ bare_planned c.in_ok-planned.planned.items _ _ _ (c.in_ok-planned.ensures.planned m (with_header c.in_ok-header.header l) ef (c.in_ok-open_ledger.ensures.ok ∙ ap (option_map (with_header c.in_ok-header.header)) ek))

pub returns-clause-sound : goal.returns-clause-sound
returns-clause-sound g c = of_bare IsSound c.with_image_notes-planned.result.items c.in_ok-planned.planned.items sound_bare c.with_image_notes-planned.ensures.bare c.in_ok-planned.ensures.sound

pub returns-clause-measured : goal.returns-clause-measured
returns-clause-measured g c = measured_same c.with_image_notes-planned.result.items c.in_ok-planned.planned.items c.with_image_notes-planned.ensures.bare ∙ c.in_ok-planned.ensures.measured

pub returns-clause-images : goal.returns-clause-images
returns-clause-images g c =
    c.with_image_notes-planned.ensures.images
    ∙ ap (λ (ns : List ClassNote). image_notes ns c.link_counts.result.now) (classes_same c.in_ok-planned.planned.items ∙ ap (map (λ (file : MeasuredFile). file.class)) c.in_ok-planned.ensures.measured)
    ∙ ap (image_notes (map (λ (file : MeasuredFile). file.class) c.args.notes.files.items)) c.link_counts.ensures

use Rattle.std.proofs.Common.{rules, ◌≡◌, ◌≤◌, ◌+◌, ◌∙◌, ap, sym, subst, refl, map, take, drop, length, take_all}
use Rattle.std.specs.Prelude.{option_map, ◌++◌}
use Rattle.std.proofs.lemmas.Result.{err_from_is_err_and}
use Rattle.std.specs.List.{slice_range}
use Rattle.std.proofs.lemmas.List.{map-append}
use Rattle.desk_readings.proofs.Fronts.{if_some}
use Rattle.desk_batches.specs.Notes.{IsNoteOf, BecomesAsNoted}
use Rattle.desk_batches.specs.Stops.{StoppedAt}
use Rattle.desk_batches.specs.Works.{files_after, ledger_after}
use Rattle.desk_file.specs.Linked.{image_in}
use Rattle.desk_batches.specs.Turns.{outcome_of, work_in, works_in}
use Rattle.desk_batches.proofs.Fresh.{fresh_later}
use Rattle.desk_batches.proofs.Staying.{note_of_source, stay_of_source, stays_same, stays_twice}
use Rattle.desk_batches.proofs.Taking.{batch_files, batch_rows, by_now, front_and_batch, front_batch_rest, length_front, no_file, no_row, notes_now, notes_part, sound_part, stopped_first, stopped_later}
use Rattle.desk_batches.proofs.batches.write_all.Goals as goal

pub loop-at-init : goal.loop-at-init
loop-at-init g c = record {
  attached = search rules;
  counts_f = search rules;
  counts_k = search rules;
  stays = stays_same c.args.roots.now.from _ _ refl;
  inside = search rules;
  filled = search rules;
  room = search rules;
  folders = λ m e. no_file c.args.roots.now.to (g.F.Folders.told c.args.folders.now);
  ledger = λ m e. no_row (g.K.Keeper.told c.args.keeper.now);
  outcomes = λ m e. search rules;
}

pub write_batch-requires-clause-notes : goal.write_batch-requires-clause-notes
write_batch-requires-clause-notes g c κs within =
    notes_part (IsNoteOf c.args.roots.now.from) (g.F.Folders.told c.loop-at.folders) c.args.planned.now c.loop-at.at c.batch_end-end.result
    (notes_now IsNoteOf c.args.roots.now.from (g.F.Folders.told c.args.folders.now) (g.F.Folders.told c.loop-at.folders) c.args.planned.now note_of_source c.loop-at.invariant.stays c.requires.sound c.requires.notes)

pub write_batch-requires-clause-stays : goal.write_batch-requires-clause-stays
write_batch-requires-clause-stays g c κs within =
    let image = image_in c.args.job.now.graph.now.rules c.args.job.now.graph.now.defined in
    notes_part (BecomesAsNoted image c.args.roots.now.from) (g.F.Folders.told c.loop-at.folders) c.args.planned.now c.loop-at.at c.batch_end-end.result
    (notes_now (BecomesAsNoted image) c.args.roots.now.from (g.F.Folders.told c.args.folders.now) (g.F.Folders.told c.loop-at.folders) c.args.planned.now (stay_of_source image) c.loop-at.invariant.stays c.requires.sound c.requires.stays)

pub loop-at-preserved : goal.loop-at-preserved
loop-at-preserved g c =
    let image = image_in c.args.job.now.graph.now.rules c.args.job.now.graph.now.defined in
    let from = c.args.roots.now.from in
    let to = c.args.roots.now.to in
    let told = g.F.Folders.told c.args.folders.now in
    let now = g.F.Folders.told c.loop-at.folders in
    let files = c.args.planned.now in
    let at = c.loop-at.at in
    let end = c.batch_end-end.result in
    let batch = slice_range files at end in
    let stays = c.loop-at.invariant.stays in
    let le : at ≤ end = search rules in
    let sound = sound_part files at end c.requires.sound in
    record {
      attached = search rules;
      counts_f = search rules;
      counts_k = search rules;
      stays = stays_twice from _ now _ stays c.in-Ok.ensures.stays;
      inside = search rules;
      filled = search rules;
      room = search rules;
      folders = λ m e.
          let works = work_in image from m in
          batch_files to (map works (take at files)) (map works batch) told now _ (c.loop-at.invariant.folders m e)
          (by_now (λ ws. g.F.Folders.told c.write_batch.new.folders ≡ option_map (files_after to ws) now) image from told now m batch e stays sound c.in-Ok.ensures.folders)
          ∙ ap (λ ws. option_map (files_after to ws) told) (sym (front_and_batch works files at end le));
      ledger = λ m e.
          let works = work_in image from m in
          batch_rows (map works (take at files)) (map works batch) (g.K.Keeper.told c.args.keeper.now) (g.K.Keeper.told c.loop-at.keeper) _ (c.loop-at.invariant.ledger m e)
          (by_now (λ ws. g.K.Keeper.told c.write_batch.new.keeper ≡ option_map (ledger_after ws) (g.K.Keeper.told c.loop-at.keeper)) image from told now m batch e stays sound c.in-Ok.ensures.ledger)
          ∙ ap (λ ws. option_map (ledger_after ws) (g.K.Keeper.told c.args.keeper.now)) (sym (front_and_batch works files at end le));
      outcomes = λ m e.
          let works = work_in image from m in
          let more = by_now (λ ws. c.in-Ok.more.items ≡ map outcome_of ws) image from told now m batch e stays sound c.in-Ok.ensures.outcomes in
          let grown : c.append.new.self.items ≡ c.loop-at.outcomes.items ++ c.in-Ok.more.items = search rules in
          grown ∙ ap (λ ys. ys ++ c.in-Ok.more.items) (c.loop-at.invariant.outcomes m e) ∙ ap (λ ys. map outcome_of (map works (take at files)) ++ ys) more
          ∙ sym (map-append outcome_of (map works (take at files)) (map works batch)) ∙ ap (map outcome_of) (sym (front_and_batch works files at end le));
    }

pub returns-in-Err-clause-err : goal.returns-in-Err-clause-err
returns-in-Err-clause-err g c =
    let image = image_in c.args.job.now.graph.now.rules c.args.job.now.graph.now.defined in
    let from = c.args.roots.now.from in
    let to = c.args.roots.now.to in
    let told = g.F.Folders.told c.args.folders.now in
    let now = g.F.Folders.told c.loop-at.folders in
    let new = g.F.Folders.told c.write_batch.new.folders in
    let rows = g.K.Keeper.told c.args.keeper.now in
    let files = c.args.planned.now in
    let at = c.loop-at.at in
    let end = c.batch_end-end.result in
    let batch = slice_range files at end in
    let done = c.in-Err.stopped.done in
    let le : at ≤ end = search rules in
    let sound = sound_part files at end c.requires.sound in
    if_some _ told (λ m e.
    let works = work_in image from m in
    let here = by_now (λ ws. StoppedAt to ws done now new (g.K.Keeper.told c.loop-at.keeper) (g.K.Keeper.told c.write_batch.new.keeper)) image from told now m batch e c.loop-at.invariant.stays sound c.in-Err.ensures.err in
    subst (λ n. StoppedAt to (works_in image from m files) (n + done) told new rows (g.K.Keeper.told c.write_batch.new.keeper)) (length_front works files at c.loop-at.invariant.inside)
    (stopped_later to (works_in image from m files) (map works (take at files)) (map works batch) (map works (drop end files)) done _ now _ _ (g.K.Keeper.told c.loop-at.keeper) _
    (front_batch_rest works files at end le) (c.loop-at.invariant.folders m e) (c.loop-at.invariant.ledger m e) here))

pub returns-in-Err-clause-stays : goal.returns-in-Err-clause-stays
returns-in-Err-clause-stays g c = stays_twice c.args.roots.now.from _ (g.F.Folders.told c.loop-at.folders) _ c.loop-at.invariant.stays c.in-Err.ensures.stays

pub returns-clause-outcomes : goal.returns-clause-outcomes
returns-clause-outcomes g c =
    let all : length c.args.planned.now ≤ c.loop-at.at = search rules in
    if_some _ (g.F.Folders.told c.args.folders.now) (λ m e.
    c.loop-at.invariant.outcomes m e ∙ ap (λ xs. map outcome_of (works_in (image_in c.args.job.now.graph.now.rules c.args.job.now.graph.now.defined) c.args.roots.now.from m xs)) (take_all c.loop-at.at c.args.planned.now all))

pub returns-in-Err-clause-fresh : goal.returns-in-Err-clause-fresh
returns-in-Err-clause-fresh g c = fresh_later c.args.planned.now c.loop-at.at c.batch_end-end.result c.in-Err.stopped.done _ c.in-Err.ensures.fresh

pub returns-in_err-outcomes-clause-err : goal.returns-in_err-outcomes-clause-err
returns-in_err-outcomes-clause-err g c =
    let told = g.F.Folders.told c.args.folders.now in
    let works = works_in (image_in c.args.job.now.graph.now.rules c.args.job.now.graph.now.defined) c.args.roots.now.from in
    let p = err_from_is_err_and c.from_residual.result c.from_residual.ensures.1 in
    rw (p.1, p.2)
    (if_some _ told (λ m e.
    subst (λ n. StoppedAt c.args.roots.now.to (works m c.args.planned.now) n told told (g.K.Keeper.told c.args.keeper.now) (g.K.Keeper.told c.args.keeper.now)) (sym c.in_err-outcomes.ensures.err.1)
    (stopped_first c.args.roots.now.to (image_in c.args.job.now.graph.now.rules c.args.job.now.graph.now.defined) c.args.roots.now.from m c.args.planned.now told told (g.K.Keeper.told c.args.keeper.now) (g.K.Keeper.told c.args.keeper.now)
    c.in_err-outcomes.ensures.some refl refl)))

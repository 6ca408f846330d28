use Rattle.std.proofs.Common.{rules, arith, ◌≡◌, ◌∙◌, ap, length, map, refl, subst, sym, Some, true}
use Rattle.std.specs.Prelude.{option_copied}
use Rattle.std.proofs.lemmas.Result.{err_from_is_err_and}
use Rattle.desk_base.proofs.Results.{at_some}
use Rattle.desk_readings.proofs.Fronts.{if_some}
use Rattle.desk_file.specs.Linked.{image_in}
use Rattle.desk_folders.specs.Contents.{Contents}
use Rattle.desk_batches.specs.Stops.{StoppedAt}
use Rattle.desk_batches.specs.Turns.{fate_of, image_here, is_migrated, migrated, works_in}
use Rattle.desk_batches.proofs.Fresh.{behind_kept, fresh_here}
use Rattle.desk_batches.proofs.Staying.{note_stays, stays_same, stays_twice}
use Rattle.desk_batches.proofs.Taking.{count_more, fate_found, folder_more, image_there, ledger_more, no_file, no_row, note_of, outcome_more, sound_of, stopped_file, stopped_first, stopped_kept}
use Rattle.desk_batches.proofs.batches.write_batch.Goals as goal

pub loop-i-init : goal.loop-i-init
loop-i-init g c = record {
  attached = search rules;
  counts_f = search rules;
  counts_k = search rules;
  stays = stays_same c.args.roots.now.from _ _ c.in-Ok.ensures.told;
  next = refl;
  bound = search rules;
  filled = search rules;
  room = search rules;
  folders = λ m e. c.in-Ok.ensures.told ∙ no_file c.args.roots.now.to (g.F.Folders.told c.args.folders.now);
  ledger = λ m e. no_row (g.K.Keeper.told c.args.keeper.now);
  outcomes = λ m e. search rules;
}

pub write_planned-requires-clause-note : goal.write_planned-requires-clause-note
write_planned-requires-clause-note g c =
    note_stays c.args.roots.now.from (g.F.Folders.told c.args.folders.now) _ c.index-batch-i.result c.loop-i.invariant.stays
    (sound_of c.args.batch.now c.loop-i.i c.index-batch-i.result c.loop-i-test.true c.index-batch-i.is c.requires.sound).path
    (note_of c.args.roots.now.from (g.F.Folders.told c.args.folders.now) c.args.batch.now c.loop-i.i c.index-batch-i.result c.loop-i-test.true c.index-batch-i.is c.requires.notes)

pub write_planned-requires-clause-fate : goal.write_planned-requires-clause-fate
write_planned-requires-clause-fate g c h =
    c.get.ensures.lookup.2
    (image_there c.args.batch.now c.loop-i.i c.loop-i.next _ c.index-batch-i.result c.loop-i-test.true c.index-batch-i.is c.loop-i.invariant.next (ap length c.as_slice-images.ensures.value ∙ c.in-Ok.ensures.count) h)

pub returns-in-Err-write_planned-clause-err : goal.returns-in-Err-write_planned-clause-err
returns-in-Err-write_planned-clause-err g c =
    let image = image_in c.args.job.now.graph.now.rules c.args.job.now.graph.now.defined in
    let from = c.args.roots.now.from in
    let told = g.F.Folders.told c.args.folders.now in
    let batch = c.args.batch.now in
    let i = c.loop-i.i in
    let file = c.index-batch-i.result in
    let found = option_copied c.get.result in
    let lt = c.loop-i-test.true in
    let is = c.index-batch-i.is in
    if_some _ told (λ m e.
    let made = c.as_slice-images.ensures.value ∙ at_some (λ m. c.in-Ok.made.items ≡ map (image_here image from m) (migrated batch)) told m e c.in-Ok.ensures.images in
    let same = fate_found (image_here image from m) c.as_slice-images.result.now batch i c.loop-i.next file found lt is c.loop-i.invariant.next made (c.get.ensures.lookup.4 (omega arith)) in
    stopped_file c.args.roots.now.to image from m batch i file (fate_of found) told (g.F.Folders.told c.loop-i.folders) _ (g.K.Keeper.told c.args.keeper.now) (g.K.Keeper.told c.loop-i.keeper) _ e c.loop-i.invariant.stays
    (sound_of batch i file lt is c.requires.sound).path lt is same (c.loop-i.invariant.folders m e) (c.loop-i.invariant.ledger m e) c.in-Err-write_planned.ensures.err)

pub returns-in-Err-write_planned-clause-stays : goal.returns-in-Err-write_planned-clause-stays
returns-in-Err-write_planned-clause-stays g c = stays_twice c.args.roots.now.from _ (g.F.Folders.told c.loop-i.folders) _ c.loop-i.invariant.stays c.in-Err-write_planned.ensures.stays

pub loop-i-preserved : goal.loop-i-preserved
loop-i-preserved g c =
    let image = image_in c.args.job.now.graph.now.rules c.args.job.now.graph.now.defined in
    let from = c.args.roots.now.from in
    let to = c.args.roots.now.to in
    let told = g.F.Folders.told c.args.folders.now in
    let now = g.F.Folders.told c.loop-i.folders in
    let batch = c.args.batch.now in
    let i = c.loop-i.i in
    let file = c.index-batch-i.result in
    let found = option_copied c.get.result in
    let lt = c.loop-i-test.true in
    let is = c.index-batch-i.is in
    let stays = c.loop-i.invariant.stays in
    let path = (sound_of batch i file lt is c.requires.sound).path in
    let same : (m : Contents) → told ≡ Some m → is_migrated file.action ≡ true → fate_of found ≡ image_here image from m file =
    λ m e. fate_found (image_here image from m) c.as_slice-images.result.now batch i c.loop-i.next file found lt is c.loop-i.invariant.next
    (c.as_slice-images.ensures.value ∙ at_some (λ m. c.in-Ok.made.items ≡ map (image_here image from m) (migrated batch)) told m e c.in-Ok.ensures.images) (c.get.ensures.lookup.4 (omega arith)) in
    record {
      attached = search rules;
      counts_f = search rules;
      counts_k = search rules;
      stays = stays_twice from _ now _ stays c.in-Ok-write_planned.ensures.stays;
      next = count_more batch i file c.loop-i.next _ lt is c.loop-i.invariant.next c.behind-next.ensures.count;
      bound = search rules;
      filled = search rules;
      room = search rules;
      folders = λ m e. folder_more to image from m batch i file (fate_of found) told now _ _ _ e stays path lt is (same m e) (c.loop-i.invariant.folders m e) c.in-Ok-write_planned.ensures.did;
      ledger = λ m e. ledger_more to image from m batch i file (fate_of found) told now _ (g.K.Keeper.told c.args.keeper.now) (g.K.Keeper.told c.loop-i.keeper) _ e stays path lt is (same m e) (c.loop-i.invariant.ledger m e)
          c.in-Ok-write_planned.ensures.did;
      outcomes = λ m e. outcome_more image from m batch i file (fate_of found) told now c.loop-i.outcomes.items _ c.in-Ok-write_planned.outcome e stays path lt is (same m e) (c.loop-i.invariant.outcomes m e)
          c.in-Ok-write_planned.ensures.outcome (search rules);
    }

pub returns-in-Err-clause-err : goal.returns-in-Err-clause-err
returns-in-Err-clause-err g c =
    if_some _ (g.F.Folders.told c.args.folders.now) (λ m e.
    stopped_kept c.args.roots.now.to (image_in c.args.job.now.graph.now.rules c.args.job.now.graph.now.defined) c.args.roots.now.from m c.args.batch.now _ _ _ _ _ c.kept_at_head.ensures.inside c.kept_at_head.ensures.kept c.in-Err.ensures.told refl)

pub returns-in-Err-clause-stays : goal.returns-in-Err-clause-stays
returns-in-Err-clause-stays g c = stays_same c.args.roots.now.from _ _ c.in-Err.ensures.told

pub returns-in-Err-clause-fresh : goal.returns-in-Err-clause-fresh
returns-in-Err-clause-fresh g c = behind_kept c.args.batch.now _ _ c.kept_at_head.ensures.inside c.kept_at_head.ensures.kept c.kept_at_head.ensures.next c.in-Err.ensures.some

pub returns-in-Err-write_planned-clause-fresh : goal.returns-in-Err-write_planned-clause-fresh
returns-in-Err-write_planned-clause-fresh g c = fresh_here c.args.batch.now c.loop-i.i c.index-batch-i.result _ c.loop-i-test.true c.index-batch-i.is c.in-Err-write_planned.ensures.fresh

pub returns-in_err-outcomes-clause-err : goal.returns-in_err-outcomes-clause-err
returns-in_err-outcomes-clause-err g c =
    let told = g.F.Folders.told c.args.folders.now in
    let works = works_in (image_in c.args.job.now.graph.now.rules c.args.job.now.graph.now.defined) c.args.roots.now.from in
    let p = err_from_is_err_and c.from_residual.result c.from_residual.ensures.1 in
    rw (p.1, p.2)
    (if_some _ told (λ m e.
    subst (λ n. StoppedAt c.args.roots.now.to (works m c.args.batch.now) n told told (g.K.Keeper.told c.args.keeper.now) (g.K.Keeper.told c.args.keeper.now)) (sym c.in_err-outcomes.ensures.err.1)
    (stopped_first c.args.roots.now.to (image_in c.args.job.now.graph.now.rules c.args.job.now.graph.now.defined) c.args.roots.now.from m c.args.batch.now told told (g.K.Keeper.told c.args.keeper.now) (g.K.Keeper.told c.args.keeper.now)
    c.in_err-outcomes.ensures.some refl refl)))

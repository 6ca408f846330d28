use Rattle.std.proofs.Common.{rules, arith, ◌≡◌, ◌<◌, ◌++◌, ◌∙◌, ap, inr, subst, sym, length, map, Ok, Err}
use Rattle.std.proofs.lemmas.Result.{IfOk-at_ok}
use Rattle.std.specs.Prelude.{All, IfSome, OnErr}
use Rattle.desk_base.proofs.Results.{at_some}
use Rattle.desk_file.specs.Linked.{image_in}
use Rattle.desk_file.specs.Routes.{IsRouteBy}
use Rattle.desk_batches.specs.Notes.{IsNoteOf, IsSound, BecomesAsNoted}
use Rattle.desk_batches.specs.Turns.{image_here, image_of_input, input_in, migrated, slice_length}
use Rattle.desk_batches.specs.Inputs.{WholeFile}
use Rattle.desk_batches.specs.declared.planned.PlannedFile.{PlannedFile}
use Rattle.desk_batches.proofs.Fresh.{any_err, some_back, some_front, some_left}
use Rattle.desk_batches.proofs.Slices.{all_back, all_front, both_ok, count_first, count_next, digests_known, few_inputs, notes_front, notes_later, slice_more, slice_read}
use Rattle.desk_batches.proofs.images.images_of_batch.Goals as goal

pub loop-rest-init : goal.loop-rest-init
loop-rest-init g c =
    let rules' = c.args.job.now.graph.now.rules in
    let defined = c.args.job.now.graph.now.defined in
    let from = c.args.from.now in
    let told = g.F.Folders.told c.args.folders.now in
    let batch = c.args.batch.now in
    let slice = c.split_slice.result.0.now in
    let rest = c.split_slice.result.1.now in
    let n = slice_length batch in
    let split = c.split_slice.ensures in
    let inputs = c.in_ok-inputs.inputs.items in
    let none = c.new-images.ensures.items in
    record {
      told = search rules;
      counts = search rules;
      images = λ m e.
          let read = at_some (λ m. inputs ≡ map (input_in from m) (migrated slice)) told m e c.in_ok-inputs.ensures.inputs in
          slice_read rules' defined from m batch slice rest n inputs c.requires.routes (at_some (λ m. All (BecomesAsNoted (image_in rules' defined) from m) batch) told m e c.requires.stays) split read
          ∙ ap (λ ys. ys ++ (map (image_of_input rules' defined) inputs ++ map (image_here (image_in rules' defined) from m) (migrated rest))) (sym none);
      count = let first = count_first batch slice rest n inputs split c.in_ok-inputs.ensures.files in let empty = ap length none in omega (arith, first, empty);
      digests = λ m e. digests_known from told m slice inputs e (notes_front from told batch slice rest n split c.requires.notes) c.in_ok-inputs.ensures.inputs;
      short = let long = split.4 in omega (arith, long);
      sound = all_back IsSound batch slice rest n split c.requires.sound;
      routes = all_back (λ (file : PlannedFile). IsRouteBy rules' file.route) batch slice rest n split c.requires.routes;
      notes = λ m e. all_back (IsNoteOf from m) batch slice rest n split (at_some (λ m. All (IsNoteOf from m) batch) told m e c.requires.notes);
      stays = λ m e. all_back (BecomesAsNoted (image_in rules' defined) from m) batch slice rest n split (at_some (λ m. All (BecomesAsNoted (image_in rules' defined) from m) batch) told m e c.requires.stays);
    }

pub migrate_and_read-made-requires-clause-few : goal.migrate_and_read-made-requires-clause-few
migrate_and_read-made-requires-clause-few g c κs within =
    let few = few_inputs c.args.batch.now c.loop-rest.rest.now _ _ _ c.loop-rest.invariant.count in
    let most = c.requires.few in
    omega (arith, few, most)

pub migrate_batch-last-requires-clause-few : goal.migrate_batch-last-requires-clause-few
migrate_batch-last-requires-clause-few g c κs within =
    let few = few_inputs c.args.batch.now c.loop-rest.rest.now _ _ _ c.loop-rest.invariant.count in
    let most = c.requires.few in
    omega (arith, few, most)

pub loop-rest-preserved : goal.loop-rest-preserved
loop-rest-preserved g c =
    let rules' = c.args.job.now.graph.now.rules in
    let defined = c.args.job.now.graph.now.defined in
    let from = c.args.from.now in
    let told = g.F.Folders.told c.args.folders.now in
    let batch = c.args.batch.now in
    let rest = c.loop-rest.rest.now in
    let next = c.split_slice-in-loop-rest.result.0.now in
    let behind = c.split_slice-in-loop-rest.result.1.now in
    let n = slice_length rest in
    let split = c.split_slice-in-loop-rest.ensures in
    let inputs = c.loop-rest.inputs.items in
    let ahead = c.in_ok-ahead.ahead.items in
    let now : g.F.Folders.told c.loop-rest.folders ≡ told = c.loop-rest.invariant.told in
    let was : c.migrate_and_read-made.result.1 ≡ Ok c.in_ok-ahead.ahead = search rules in
    let files = IfOk-at_ok (λ inputs. map (λ (input : WholeFile). input.file) inputs.items ≡ migrated next) was c.migrate_and_read-made.ensures.files in
    let reads = IfOk-at_ok (λ inputs. IfSome (g.F.Folders.told c.loop-rest.folders) (λ m. inputs.items ≡ map (input_in from m) (migrated next))) was c.migrate_and_read-made.ensures.inputs in
    record {
      told = search rules;
      counts = search rules;
      images = λ m e.
          both_ok c.migrate_and_read-made.result.0 c.in_default.ensures.made c.migrate_and_read-made.ensures.images c.in_default.ensures.ok (λ more is grown.
          slice_more rules' defined from m batch rest next behind n inputs ahead c.loop-rest.images.items more.items c.append_images.new.images.items c.loop-rest.invariant.routes (c.loop-rest.invariant.stays m e) split (c.loop-rest.invariant.images m e)
          is grown (at_some (λ m. ahead ≡ map (input_in from m) (migrated next)) (g.F.Folders.told c.loop-rest.folders) m (now ∙ e) reads));
      count =
          both_ok c.migrate_and_read-made.result.0 c.in_default.ensures.made c.migrate_and_read-made.ensures.images c.in_default.ensures.ok (λ more is grown.
          count_next rules' defined batch rest next behind n inputs ahead c.loop-rest.images.items more.items c.append_images.new.images.items split c.loop-rest.invariant.count
          is grown files);
      digests = λ m e.
          digests_known from (g.F.Folders.told c.loop-rest.folders) m next ahead (now ∙ e)
          (notes_later from told (g.F.Folders.told c.loop-rest.folders) next now (λ m e. all_front (IsNoteOf from m) rest next behind n split (c.loop-rest.invariant.notes m e))) reads;
      short = let long = split.4 in let before = c.loop-rest.invariant.short in omega (arith, long, before);
      sound = all_back IsSound rest next behind n split c.loop-rest.invariant.sound;
      routes = all_back (λ (file : PlannedFile). IsRouteBy rules' file.route) rest next behind n split c.loop-rest.invariant.routes;
      notes = λ m e. all_back (IsNoteOf from m) rest next behind n split (c.loop-rest.invariant.notes m e);
      stays = λ m e. all_back (BecomesAsNoted (image_in rules' defined) from m) rest next behind n split (c.loop-rest.invariant.stays m e);
    }

pub returns-in_err-inputs-clause-some : goal.returns-in_err-inputs-clause-some
returns-in_err-inputs-clause-some g c =
    any_err c.from_residual.result _
    (λ why. inr (some_front c.args.batch.now c.split_slice.result.0.now c.split_slice.result.1.now (slice_length c.args.batch.now) c.split_slice.ensures c.in_err-inputs.ensures.some))

pub returns-in_err-ahead-clause-some : goal.returns-in_err-ahead-clause-some
returns-in_err-ahead-clause-some g c =
    let rest = c.loop-rest.rest.now in
    let next = c.split_slice-in-loop-rest.result.0.now in
    let behind = c.split_slice-in-loop-rest.result.1.now in
    let was : c.migrate_and_read-made.result.1 ≡ Err c.in_err-ahead.field-0.0 = search rules in
    let some : 0 < length (migrated next) = subst (λ r. OnErr r (0 < length (migrated next))) was c.migrate_and_read-made.ensures.some in
    any_err c.from_residual-in_err-ahead.result _
    (λ why. inr (some_left c.args.batch.now _ _ _ c.loop-rest.invariant.count (some_front rest next behind (slice_length rest) c.split_slice-in-loop-rest.ensures some)))

pub read_batch-requires-in-Err-clause-sound : goal.read_batch-requires-in-Err-clause-sound
read_batch-requires-in-Err-clause-sound g c =
    let rest = c.loop-rest.rest.now in
    all_back IsSound rest c.split_slice-in-loop-rest.result.0.now c.split_slice-in-loop-rest.result.1.now (slice_length rest) c.split_slice-in-loop-rest.ensures c.loop-rest.invariant.sound

pub read_batch-requires-in-Err-clause-notes : goal.read_batch-requires-in-Err-clause-notes
read_batch-requires-in-Err-clause-notes g c =
    let from = c.args.from.now in
    let rest = c.loop-rest.rest.now in
    let next = c.split_slice-in-loop-rest.result.0.now in
    let behind = c.split_slice-in-loop-rest.result.1.now in
    notes_later from (g.F.Folders.told c.args.folders.now) (g.F.Folders.told c.migrate_and_read-made.new.folders) behind (c.migrate_and_read-made.ensures.told ∙ c.loop-rest.invariant.told)
    (λ m e. all_back (IsNoteOf from m) rest next behind (slice_length rest) c.split_slice-in-loop-rest.ensures (c.loop-rest.invariant.notes m e))

pub returns-in_err-read_batch-clause-some : goal.returns-in_err-read_batch-clause-some
returns-in_err-read_batch-clause-some g c =
    let rest = c.loop-rest.rest.now in
    let next = c.split_slice-in-loop-rest.result.0.now in
    let behind = c.split_slice-in-loop-rest.result.1.now in
    any_err c.from_residual-in_err-read_batch.result _
    (λ why. inr (some_left c.args.batch.now _ _ _ c.loop-rest.invariant.count (some_back rest next behind (slice_length rest) c.split_slice-in-loop-rest.ensures c.in_err-read_batch.ensures.some)))

use Rattle.std.proofs.Common.{rules, arith, ◌∙◌, ◌∷◌, [], ap, length, length-append}
use Rattle.std.proofs.lemmas.Iterator.Adapters.{YieldsList-from_vec}
use Rattle.std.proofs.lemmas.Iterator.Consumers.{YieldsList-end, YieldsList-so_far, YieldsList-turn}
use Rattle.std.proofs.lemmas.Result.{err_from_is_err_and}
use Rattle.desk_base.proofs.Results.{at_some}
use Rattle.desk_intake.proofs.Parts.{there_listed}
use Rattle.desk_calls.specs.Found.{all_found}
use Rattle.desk_calls.specs.Reading.{ReadsOne}
use Rattle.desk_calls.proofs.ClassFiles.{all_answered, count_more, found_first, found_more, halts_reading, listed_items, none_found, split_now}
use Rattle.desk_calls.proofs.finding.find_calls.Goals as goal

pub loop-path-init : goal.loop-path-init
loop-path-init g c = record {
  told = search rules;
  counts = search rules;
  few = omega arith;
  batch = search rules;
  count = none_found c.args.package.now c.new-finding.result.found.items c.new-finding.result.batch.items c.new-finding.ensures.found c.new-finding.ensures.batch;
  found = λ m e. found_first c.args.package.now c.args.from.now m c.new-finding.result.found.items c.new-finding.result.batch.items c.new-finding.ensures.found c.new-finding.ensures.batch;
}

pub read_file-requires : goal.read_file-requires
read_file-requires g c =
    let road = YieldsList-from_vec {s = c.into_iter-path-iterator.result} c.into_vec-path-items.result.items c.into_iter-path-iterator.ensures.into_iter_gives.0 (c.into_iter-path-iterator.ensures.into_iter_gives.1 ∙ c.into_vec-path-items.result.ok.0) in
    let turn = YieldsList-turn road c.loop-path.yielded c.loop-path.path-iterator c.loop-path.yielded_by c.next.result c.next.new.self c.in-Some.path c.in-Some.is c.next.ensures.steps in
    there_listed c.args.from.now (g.F.Folders.told c.args.folders.now) (g.F.Folders.told c.loop-path.folders) c.into_vec-path-items.result.items (length c.loop-path.yielded) c.in-Some.path
    c.loop-path.invariant.told (listed_items (g.F.Folders.told c.args.folders.now) c.args.from.now c.in_ok-paths.paths c.into_vec-path-items.result.items (search rules) c.in_ok-paths.ensures.paths) turn.0 turn.1

pub returns-in_err-read-clause-told : goal.returns-in_err-read-clause-told
returns-in_err-read-clause-told g c = c.in_err-read.ensures.told ∙ c.loop-path.invariant.told

pub returns-in_err-read-clause-err : goal.returns-in_err-read-clause-err
returns-in_err-read-clause-err g c =
    let road = YieldsList-from_vec {s = c.into_iter-path-iterator.result} c.into_vec-path-items.result.items c.into_iter-path-iterator.ensures.into_iter_gives.0 (c.into_iter-path-iterator.ensures.into_iter_gives.1 ∙ c.into_vec-path-items.result.ok.0) in
    let turn = YieldsList-turn road c.loop-path.yielded c.loop-path.path-iterator c.loop-path.yielded_by c.next.result c.next.new.self c.in-Some.path c.in-Some.is c.next.ensures.steps in
    let so_far = YieldsList-so_far road c.loop-path.yielded c.loop-path.path-iterator c.loop-path.yielded_by in
    let p = err_from_is_err_and c.from_residual-in_err-read.result c.from_residual-in_err-read.ensures.1 in
    rw (p.1, p.2)
    (halts_reading c.args.package.now c.args.from.now (g.F.Folders.told c.args.folders.now) (g.F.Folders.told c.loop-path.folders) c.into_vec-path-items.result.items c.loop-path.yielded _ c.in-Some.path _ _ _ c.in_err-read.field-0.0
    c.loop-path.invariant.told c.loop-path.invariant.counts
    (listed_items (g.F.Folders.told c.args.folders.now) c.args.from.now c.in_ok-paths.paths c.into_vec-path-items.result.items (search rules) c.in_ok-paths.ensures.paths) c.in_ok-paths.ensures.clear
    (split_now c.into_vec-path-items.result.items c.loop-path.yielded c.in-Some.path so_far turn.0 turn.1) (λ m e. (c.loop-path.invariant.found m e).fit) c.in_err-read.ensures.err)

pub returns-in_err-read-clause-counts : goal.returns-in_err-read-clause-counts
returns-in_err-read-clause-counts g c = omega (arith, c.loop-path.invariant.counts, c.in_err-read.ensures.counts)

pub add-requires-after_bounds : goal.add-requires-after_bounds
add-requires-after_bounds g c κs within = omega (arith, c.loop-path.invariant.batch, c.loop-path.invariant.few)

pub loop-path-preserved : goal.loop-path-preserved
loop-path-preserved g c =
    let road = YieldsList-from_vec {s = c.into_iter-path-iterator.result} c.into_vec-path-items.result.items c.into_iter-path-iterator.ensures.into_iter_gives.0 (c.into_iter-path-iterator.ensures.into_iter_gives.1 ∙ c.into_vec-path-items.result.ok.0) in
    let turn = YieldsList-turn road c.loop-path.yielded c.loop-path.path-iterator c.loop-path.yielded_by c.next.result c.next.new.self c.in-Some.path c.in-Some.is c.next.ensures.steps in
    let behind = length-append c.loop-path.yielded (c.in-Some.path ∷ []) in
    let items = ap length (c.into_vec-path-items.ensures) in
    let grows = count_more c.args.package.now (all_found c.args.package.now c.loop-path.finding) (all_found c.args.package.now c.add.new.self) c.in_ok-read.read (length c.loop-path.yielded) c.loop-path.invariant.count c.in_ok-add.ensures.found in
    record {
      told = c.in_ok-read.ensures.told ∙ c.loop-path.invariant.told;
      counts = omega (arith, c.loop-path.invariant.counts, c.in_ok-read.ensures.counts);
      few = omega (arith, behind, turn.0, items, c.in_ok-paths.ensures.few);
      batch = omega (arith, behind, c.loop-path.invariant.batch, c.in_ok-add.ensures.batch);
      count = omega (arith, behind, grows);
      found = λ m e. found_more c.args.package.now c.args.from.now m c.loop-path.yielded c.in-Some.path (all_found c.args.package.now c.loop-path.finding) (all_found c.args.package.now c.add.new.self) c.in_ok-read.read
          (c.loop-path.invariant.found m e)
          (at_some (λ m. ReadsOne c.args.from.now m c.in-Some.path c.in_ok-read.read) (g.F.Folders.told c.loop-path.folders) m (c.loop-path.invariant.told ∙ e) c.in_ok-read.ensures.read)
          c.in_ok-add.ensures.found;
    }

pub returns-in_err-add-clause-told : goal.returns-in_err-add-clause-told
returns-in_err-add-clause-told g c = c.in_ok-read.ensures.told ∙ c.loop-path.invariant.told

pub returns-in_err-add-clause-counts : goal.returns-in_err-add-clause-counts
returns-in_err-add-clause-counts g c = omega (arith, c.loop-path.invariant.counts, c.in_ok-read.ensures.counts)

pub finish-requires-after_bounds : goal.finish-requires-after_bounds
finish-requires-after_bounds g c κs within = omega (arith, c.loop-path.invariant.batch, c.loop-path.invariant.few)

pub returns-in_err-found-clause-told : goal.returns-in_err-found-clause-told
returns-in_err-found-clause-told g c = c.loop-path.invariant.told

pub returns-in_err-found-clause-counts : goal.returns-in_err-found-clause-counts
returns-in_err-found-clause-counts g c = c.loop-path.invariant.counts

pub calls_of-requires : goal.calls_of-requires
calls_of-requires g c =
    let slice = ap length c.as_slice.ensures.value in
    let all = ap length c.in_ok-found.ensures in
    omega (arith, slice, all, c.loop-path.invariant.count, c.loop-path.invariant.few)

pub returns-in_err-calls_of-clause-told : goal.returns-in_err-calls_of-clause-told
returns-in_err-calls_of-clause-told g c = c.loop-path.invariant.told

pub returns-in_err-calls_of-clause-counts : goal.returns-in_err-calls_of-clause-counts
returns-in_err-calls_of-clause-counts g c = c.loop-path.invariant.counts

pub returns-clause-told : goal.returns-clause-told
returns-clause-told g c = c.loop-path.invariant.told

pub returns-clause-ok : goal.returns-clause-ok
returns-clause-ok g c =
    let road = YieldsList-from_vec {s = c.into_iter-path-iterator.result} c.into_vec-path-items.result.items c.into_iter-path-iterator.ensures.into_iter_gives.0 (c.into_iter-path-iterator.ensures.into_iter_gives.1 ∙ c.into_vec-path-items.result.ok.0) in
    let end = YieldsList-end road c.loop-path.yielded c.loop-path.path-iterator c.loop-path.yielded_by c.next.result c.next.new.self c.in-None.is c.next.ensures.steps in
    all_answered c.args.package.now c.args.from.now (g.F.Folders.told c.args.folders.now) c.into_vec-path-items.result.items c.loop-path.yielded (all_found c.args.package.now c.loop-path.finding) c.in_ok-calls_of.field-0
    (listed_items (g.F.Folders.told c.args.folders.now) c.args.from.now c.in_ok-paths.paths c.into_vec-path-items.result.items (search rules) c.in_ok-paths.ensures.paths) c.in_ok-paths.ensures.clear end.0 c.loop-path.invariant.found
    (search rules)

pub returns-clause-counts : goal.returns-clause-counts
returns-clause-counts g c = c.loop-path.invariant.counts

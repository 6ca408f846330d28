use Rattle.std.proofs.Common.{rules, ◌≡◌, ◌∙◌, ◌∷◌, ◌++◌, [], ap, drop, suc, length, map}
use Rattle.std.proofs.lemmas.Iterator.Adapters.{YieldsList-from_vec}
use Rattle.std.proofs.lemmas.Iterator.Consumers.{YieldsList-so_far, YieldsList-turn}
use Rattle.std.proofs.lemmas.Result.{err_from_is_err_and}
use Rattle.std.proofs.lemmas.List.{map-append}
use Rattle.desk_base.specs.Paths.{full}
use Rattle.desk_base.proofs.Results.{at_some}
use Rattle.desk_folders.specs.Contents.{bytes_at}
use Rattle.desk_compare.specs.Verdicts.{IsShort, paths_of}
use Rattle.desk_folders.specs.declared.folders.GenFile.{GenFile}
use Rattle.desk_readings.proofs.Fronts.{all_pushed}
use Rattle.desk_comparison.specs.Files.{file_in}
use Rattle.desk_comparison.proofs.Applications.{split_turn, there_turn}
use Rattle.desk_comparison.proofs.Rooms.{halts_later, read_more, read_none}
use Rattle.desk_comparison.proofs.reading.read_paths.Goals as goal

pub loop-path-init : goal.loop-path-init
loop-path-init g c = record {
  told = search rules;
  counts = search rules;
  paths = search rules;
  short = search rules;
  read = λ m e. read_none c.args.other.now m c.args.room.now _ (search rules);
}

pub read_one-requires : goal.read_one-requires
read_one-requires g c =
    let road = YieldsList-from_vec {s = c.into_iter-path-iterator.result} c.args.paths.items (cc) (cc) in
    let turn = YieldsList-turn road c.loop-path.yielded c.loop-path.path-iterator c.loop-path.yielded_by c.next.result c.next.new.self c.in-Some.path c.in-Some.is c.next.ensures.steps in
    record {
      there = there_turn (λ path. path) c.args.other.now (g.F.Folders.told c.args.folders.now) (g.F.Folders.told c.loop-path.folders) c.args.paths.items (length c.loop-path.yielded) c.in-Some.path
          c.loop-path.invariant.told c.requires.there turn.0 turn.1;
    }

pub returns-in_err-content-clause-err : goal.returns-in_err-content-clause-err
returns-in_err-content-clause-err g c =
    let road = YieldsList-from_vec {s = c.into_iter-path-iterator.result} c.args.paths.items (cc) (cc) in
    let turn = YieldsList-turn road c.loop-path.yielded c.loop-path.path-iterator c.loop-path.yielded_by c.next.result c.next.new.self c.in-Some.path c.in-Some.is c.next.ensures.steps in
    let so_far = YieldsList-so_far road c.loop-path.yielded c.loop-path.path-iterator c.loop-path.yielded_by in
    let split = split_turn c.args.paths.items c.loop-path.yielded c.in-Some.path so_far turn.0 turn.1 in
    let p = err_from_is_err_and c.from_residual.result c.from_residual.ensures.1 in
    rw (p.1, p.2)
    (halts_later c.args.other.now (g.F.Folders.told c.args.folders.now) (g.F.Folders.told c.loop-path.folders) c.args.room.now c.loop-path.room c.loop-path.yielded c.args.paths.items
    (drop (suc (length c.loop-path.yielded)) c.args.paths.items) c.in-Some.path _ _ _ c.in_err-content.field-0.0
    c.loop-path.invariant.told c.loop-path.invariant.counts split
    (λ m e. (map file_in c.loop-path.files.items, c.loop-path.invariant.read m e)) c.in_err-content.ensures.err)

pub loop-path-preserved : goal.loop-path-preserved
loop-path-preserved g c = record {
  told = search rules;
  counts = search rules;
  paths = ap paths_of (search rules) ∙ map-append (λ (f : GenFile). f.path) c.loop-path.files.items (record { path = c.in-Some.path; content = c.in_ok-content.content } ∷ []) ∙ ap (λ ps. ps ++ c.in-Some.path ∷ []) c.loop-path.invariant.paths;
  short = all_pushed IsShort c.loop-path.files.items c.push.new.self.items (record { path = c.in-Some.path; content = c.in_ok-content.content }) c.loop-path.invariant.short c.in_ok-content.ensures.small (search rules);
  read = λ m e. read_more c.args.other.now m c.args.room.now c.loop-path.yielded (map file_in c.loop-path.files.items) (map file_in c.push.new.self.items) c.loop-path.room c.read_one.new.room c.in-Some.path c.in_ok-content.content
      (c.loop-path.invariant.read m e) (ap (map file_in) (search rules) ∙ map-append file_in c.loop-path.files.items (record { path = c.in-Some.path; content = c.in_ok-content.content } ∷ []))
      (at_some (λ m. c.in_ok-content.content ≡ bytes_at m (full c.args.other.now c.in-Some.path)) (g.F.Folders.told c.loop-path.folders) m (c.loop-path.invariant.told ∙ e) c.in_ok-content.ensures.text)
      c.in_ok-content.ensures.fits c.in_ok-content.ensures.room;
}

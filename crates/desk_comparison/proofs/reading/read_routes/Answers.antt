use Rattle.std.proofs.Common.{rules, ◌≡◌, ◌∙◌, ◌∷◌, ◌++◌, [], ap, sym, subst, drop, suc, length, map}
use Rattle.std.proofs.lemmas.Iterator.Adapters.{YieldsList-from_vec}
use Rattle.std.proofs.lemmas.Iterator.Consumers.{YieldsList-so_far, YieldsList-turn}
use Rattle.std.proofs.lemmas.Result.{err_from_is_err_and}
use Rattle.std.proofs.lemmas.List.{map-append}
use Rattle.desk_base.specs.Paths.{full}
use Rattle.desk_base.proofs.Results.{at_some}
use Rattle.desk_folders.specs.Contents.{bytes_at}
use Rattle.desk_comparison.specs.Files.{HasRead, file_of, files_of, path_of, route_in}
use Rattle.desk_comparison.proofs.Applications.{split_turn, there_turn}
use Rattle.desk_comparison.proofs.Rooms.{halts_later, read_more, read_none}
use Rattle.desk_comparison.proofs.reading.read_routes.Goals as goal

pub loop-route-init : goal.loop-route-init
loop-route-init g c = record {
  told = search rules;
  counts = search rules;
  routes = search rules;
  read = λ m e. read_none c.args.from.now m c.args.room.now _ (search rules);
}

pub read_one-requires : goal.read_one-requires
read_one-requires g c =
    let road = YieldsList-from_vec {s = c.into_iter-route-iterator.result} c.args.routes.items (cc) (cc) in
    let turn = YieldsList-turn road c.loop-route.yielded c.loop-route.route-iterator c.loop-route.yielded_by c.next.result c.next.new.self c.in-Some.route c.in-Some.is c.next.ensures.steps in
    record {
      there = there_turn path_of c.args.from.now (g.F.Folders.told c.args.folders.now) (g.F.Folders.told c.loop-route.folders) c.args.routes.items (length c.loop-route.yielded) c.in-Some.route
          c.loop-route.invariant.told c.requires.there turn.0 turn.1;
    }

pub returns-in_err-text-clause-err : goal.returns-in_err-text-clause-err
returns-in_err-text-clause-err g c =
    let road = YieldsList-from_vec {s = c.into_iter-route-iterator.result} c.args.routes.items (cc) (cc) in
    let turn = YieldsList-turn road c.loop-route.yielded c.loop-route.route-iterator c.loop-route.yielded_by c.next.result c.next.new.self c.in-Some.route c.in-Some.is c.next.ensures.steps in
    let so_far = YieldsList-so_far road c.loop-route.yielded c.loop-route.route-iterator c.loop-route.yielded_by in
    let split = split_turn c.args.routes.items c.loop-route.yielded c.in-Some.route so_far turn.0 turn.1 in
    let p = err_from_is_err_and c.from_residual.result c.from_residual.ensures.1 in
    rw (p.1, p.2)
    (halts_later c.args.from.now (g.F.Folders.told c.args.folders.now) (g.F.Folders.told c.loop-route.folders) c.args.room.now c.loop-route.room (map path_of c.loop-route.yielded) (map path_of c.args.routes.items)
    (map path_of (drop (suc (length c.loop-route.yielded)) c.args.routes.items)) c.in-Some.route.path _ _ _ c.in_err-text.field-0.0
    c.loop-route.invariant.told c.loop-route.invariant.counts (ap (map path_of) split ∙ map-append path_of c.loop-route.yielded (c.in-Some.route ∷ drop (suc (length c.loop-route.yielded)) c.args.routes.items))
    (λ m e. (files_of c.loop-route.files.items, c.loop-route.invariant.read m e)) c.in_err-text.ensures.err)

pub loop-route-preserved : goal.loop-route-preserved
loop-route-preserved g c = record {
  told = search rules;
  counts = search rules;
  routes = ap (map route_in) (search rules) ∙ map-append route_in c.loop-route.files.items (record { route = c.in-Some.route; content = c.in_ok-text.text } ∷ []) ∙ ap (λ rs. rs ++ c.in-Some.route ∷ []) c.loop-route.invariant.routes;
  read = λ m e. subst (λ ps. HasRead c.args.from.now m c.args.room.now ps (files_of c.push.new.self.items) c.read_one.new.room) (sym (map-append path_of c.loop-route.yielded (c.in-Some.route ∷ [])))
      (read_more c.args.from.now m c.args.room.now (map path_of c.loop-route.yielded) (files_of c.loop-route.files.items) (files_of c.push.new.self.items) c.loop-route.room c.read_one.new.room c.in-Some.route.path c.in_ok-text.text
      (c.loop-route.invariant.read m e) (ap files_of (search rules) ∙ map-append file_of c.loop-route.files.items (record { route = c.in-Some.route; content = c.in_ok-text.text } ∷ []))
      (at_some (λ m. c.in_ok-text.text ≡ bytes_at m (full c.args.from.now c.in-Some.route.path)) (g.F.Folders.told c.loop-route.folders) m (c.loop-route.invariant.told ∙ e) c.in_ok-text.ensures.text)
      c.in_ok-text.ensures.fits c.in_ok-text.ensures.room);
}

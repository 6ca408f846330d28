use Rattle.std.proofs.Common.{◌∙◌, sym, subst, drop, suc, length, map, map-id}
use Rattle.std.proofs.lemmas.Iterator.Adapters.{YieldsList-from_vec}
use Rattle.std.proofs.lemmas.Iterator.Consumers.{YieldsList-end, YieldsList-so_far, YieldsList-turn}
use Rattle.std.proofs.lemmas.Result.{err_from_is_err_and}
use Rattle.desk_file.specs.Linked.{image_in}
use Rattle.desk_intake.proofs.Parts.{item_at}
use Rattle.desk_comparison.specs.Files.{IsNoted, IsRouted, file_of, files_of, source_of}
use Rattle.desk_comparison.specs.Makings.{MadeBy}
use Rattle.desk_comparison.proofs.Applications.{split_turn}
use Rattle.desk_comparison.proofs.Notes.{all_mapped}
use Rattle.desk_comparison.proofs.Makes.{files_more, files_split, made_more, made_none, making_later}
use Rattle.desk_comparison.proofs.images.make_images.Goals as goal

pub loop-file-init : goal.loop-file-init
loop-file-init c = made_none c.args.graph.now.rules c.args.graph.now.defined c.new-made.result c.new-made.ensures.images c.new-made.ensures.lines c.new-made.ensures.refused

pub make_one-requires : goal.make_one-requires
make_one-requires c =
    let road = YieldsList-from_vec {s = c.into_iter-file-iterator.result} c.args.files.items (cc) (cc) in
    let turn = YieldsList-turn road c.loop-file.yielded c.loop-file.file-iterator c.loop-file.yielded_by c.next.result c.next.new.self c.in-Some.file c.in-Some.is c.next.ensures.steps in
    record {
      routed = item_at (λ n. IsRouted c.args.graph.now.rules n.file) c.args.files.items (length c.loop-file.yielded) c.in-Some.file (all_mapped (IsRouted c.args.graph.now.rules) source_of c.args.files.items c.requires.routed) turn.0 turn.1;
      noted = item_at (IsNoted c.args.graph.now.rules) c.args.files.items (length c.loop-file.yielded) c.in-Some.file c.requires.noted turn.0 turn.1;
    }

pub loop-file-preserved : goal.loop-file-preserved
loop-file-preserved c =
    subst (λ fs. MadeBy c.args.graph.now.rules c.args.graph.now.defined fs c.make_one.new.made) (sym (files_more c.loop-file.yielded c.in-Some.file))
    (made_more c.args.graph.now.rules c.args.graph.now.defined (files_of (map source_of c.loop-file.yielded)) (file_of c.in-Some.file.file) c.loop-file.made c.make_one.new.made c.loop-file.invariant c.in_ok-make_one.ensures.ok)

pub returns-in_err-make_one-clause-err : goal.returns-in_err-make_one-clause-err
returns-in_err-make_one-clause-err c =
    let road = YieldsList-from_vec {s = c.into_iter-file-iterator.result} c.args.files.items (cc) (cc) in
    let turn = YieldsList-turn road c.loop-file.yielded c.loop-file.file-iterator c.loop-file.yielded_by c.next.result c.next.new.self c.in-Some.file c.in-Some.is c.next.ensures.steps in
    let so_far = YieldsList-so_far road c.loop-file.yielded c.loop-file.file-iterator c.loop-file.yielded_by in
    let split = split_turn c.args.files.items c.loop-file.yielded c.in-Some.file so_far turn.0 turn.1 in
    let rest = drop (suc (length c.loop-file.yielded)) c.args.files.items in
    let p = err_from_is_err_and c.from_residual.result c.from_residual.ensures.1 in
    rw (p.1, p.2)
    (making_later (image_in c.args.graph.now.rules c.args.graph.now.defined) (files_of (map source_of c.loop-file.yielded)) (files_of (map source_of rest)) (file_of c.in-Some.file.file) (files_of (map source_of c.args.files.items)) c.in_err-make_one.field-0.0
    (files_split c.args.files.items c.loop-file.yielded rest c.in-Some.file split) c.loop-file.invariant.fit c.in_err-make_one.ensures.err)

pub returns-clause-ok : goal.returns-clause-ok
returns-clause-ok c =
    let road = YieldsList-from_vec {s = c.into_iter-file-iterator.result} c.args.files.items (cc) (cc) in
    let end = YieldsList-end road c.loop-file.yielded c.loop-file.file-iterator c.loop-file.yielded_by c.next.result c.next.new.self c.in-None.is c.next.ensures.steps in
    subst (λ fs. MadeBy c.args.graph.now.rules c.args.graph.now.defined (files_of (map source_of fs)) c.loop-file.made) (sym (map-id c.loop-file.yielded) ∙ end.0) c.loop-file.invariant

use Rattle.std.proofs.Common.{rules, subst, ap, sym, ◌∙◌, length, length-append, ◌<◌, ◌+◌, ◌∷◌, [], refl}
use Rattle.std.proofs.lemmas.Iterator.Adapters.{YieldsList-from_vec}
use Rattle.std.proofs.lemmas.Iterator.Consumers.{YieldsList-end, YieldsList-so_far, YieldsList-turn}
use Rattle.std.proofs.lemmas.Result.{on_ok_weaker, on_err_weaker}
use Rattle.desk_base.proofs.Results.{on_err}
use Rattle.desk_report.proofs.Gathering.{Gathers-all, WritesFront-all}
use Rattle.desk_run.proofs.Reporting.{line_front, line_more, report_gathered, totals_front}
use Rattle.desk_run.proofs.report.write_report.Goals as goal

pub returns-in_err-put_outcome-clause-err : goal.returns-in_err-put_outcome-clause-err
returns-in_err-put_outcome-clause-err g c =
    let road = YieldsList-from_vec {s = c.into_iter-file-iterator.result} c.args.planned.items (cc) (cc) in
    let turn = YieldsList-turn road c.loop-file.yielded c.loop-file.file-iterator c.loop-file.yielded_by c.next.result c.next.new.self c.in-Some.file c.in-Some.is c.next.ensures.steps in
    on_err _ (line_front c.args.planned.items c.loop-file.yielded c.in-Some.file c.args.outcomes.now c.loop-file.place [] _ _ _ _ (YieldsList-so_far road c.loop-file.yielded c.loop-file.file-iterator c.loop-file.yielded_by) turn.0 turn.1
    c.loop-file.invariant.place c.requires.same c.loop-file.invariant.told c.in_err-put_outcome.ensures.err)

pub loop-file-preserved : goal.loop-file-preserved
loop-file-preserved g c =
    let road = YieldsList-from_vec {s = c.into_iter-file-iterator.result} c.args.planned.items (cc) (cc) in
    let turn = YieldsList-turn road c.loop-file.yielded c.loop-file.file-iterator c.loop-file.yielded_by c.next.result c.next.new.self c.in-Some.file c.in-Some.is c.next.ensures.steps in
    record {
      place = ap (λ n. n + 1) c.loop-file.invariant.place ∙ sym (length-append c.loop-file.yielded (c.in-Some.file ∷ []));
      told = line_more c.loop-file.yielded c.in-Some.file c.args.outcomes.now c.loop-file.place [] _ _ _ _ _ c.loop-file.invariant.place (subst (λ n. length c.loop-file.yielded < n) c.requires.same turn.0) c.loop-file.invariant.told
          c.in_ok-put_outcome.ensures.ok;
      counts = search rules;
    }

pub returns-in_err-put_summary-clause-err : goal.returns-in_err-put_summary-clause-err
returns-in_err-put_summary-clause-err g c =
    let road = YieldsList-from_vec {s = c.into_iter-file-iterator.result} c.args.planned.items (cc) (cc) in
    let end = YieldsList-end road c.loop-file.yielded c.loop-file.file-iterator c.loop-file.yielded_by c.next.result c.next.new.self c.in-None.is c.next.ensures.steps in
    on_err _ (totals_front c.args.planned.items c.loop-file.yielded c.args.outcomes.now c.summary_of-summary.result [] _ _ _ _ end.0 c.summary_of-summary.ensures c.loop-file.invariant.told c.in_err-put_summary.ensures.err)

pub returns-clause-ok : goal.returns-clause-ok
returns-clause-ok g c =
    let road = YieldsList-from_vec {s = c.into_iter-file-iterator.result} c.args.planned.items (cc) (cc) in
    let end = YieldsList-end road c.loop-file.yielded c.loop-file.file-iterator c.loop-file.yielded_by c.next.result c.next.new.self c.in-None.is c.next.ensures.steps in
    let all = report_gathered c.args.planned.items c.loop-file.yielded c.args.outcomes.now c.summary_of-summary.result [] _ _ _ _ _ end.0 c.summary_of-summary.ensures c.loop-file.invariant.told c.in_ok-put_summary.ensures.ok in
    on_ok_weaker c.flush.result (Gathers-all _ _ _ _ _ all) c.flush.ensures.ok

pub returns-clause-err : goal.returns-clause-err
returns-clause-err g c =
    let road = YieldsList-from_vec {s = c.into_iter-file-iterator.result} c.args.planned.items (cc) (cc) in
    let end = YieldsList-end road c.loop-file.yielded c.loop-file.file-iterator c.loop-file.yielded_by c.next.result c.next.new.self c.in-None.is c.next.ensures.steps in
    let all = report_gathered c.args.planned.items c.loop-file.yielded c.args.outcomes.now c.summary_of-summary.result [] _ _ _ _ _ end.0 c.summary_of-summary.ensures c.loop-file.invariant.told c.in_ok-put_summary.ensures.ok in
    on_err_weaker c.flush.result (WritesFront-all _ _ _ _ _ _ refl all) c.flush.ensures.err

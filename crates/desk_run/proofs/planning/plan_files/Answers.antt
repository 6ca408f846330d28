use Rattle.std.proofs.Common.{rules, ◌∙◌, ap, sym, map, map-id, length}
use Rattle.std.proofs.lemmas.Iterator.Adapters.{YieldsList-from_vec}
use Rattle.std.proofs.lemmas.Iterator.Consumers.{YieldsList-end, YieldsList-turn}
use Rattle.desk_readings.proofs.Fronts.{all_pushed}
use Rattle.desk_batches.specs.Notes.{IsSound}
use Rattle.desk_readings.specs.Noting.{IsWithin}
use Rattle.desk_readings.specs.declared.measured.MeasuredFile.{MeasuredFile}
use Rattle.desk_batches.specs.declared.planned.PlannedFile.{PlannedFile}
use Rattle.desk_run.specs.Meaning.{finds_in}
use Rattle.desk_intake.proofs.Parts.{item_at, mapped_more}
use Rattle.desk_intake.specs.Routes.{IsRelativeRoute}
use Rattle.desk_run.specs.Notes.{measured_in, planned_by}
use Rattle.desk_run.proofs.planning.plan_files.Goals as goal

pub plan_file-requires-clause-relative : goal.plan_file-requires-clause-relative
plan_file-requires-clause-relative g c =
    let road = YieldsList-from_vec {s = c.into_iter-file-iterator.result} c.args.files.items (cc) (cc) in
    let turn = YieldsList-turn road c.loop-file.yielded c.loop-file.file-iterator c.loop-file.yielded_by c.next.result c.next.new.self c.in-Some.file c.in-Some.is c.next.ensures.steps in
    item_at (λ (file : MeasuredFile). IsRelativeRoute file.route) c.args.files.items (length c.loop-file.yielded) c.in-Some.file c.requires.relative turn.0 turn.1

pub plan_file-requires-clause-within : goal.plan_file-requires-clause-within
plan_file-requires-clause-within g c =
    let road = YieldsList-from_vec {s = c.into_iter-file-iterator.result} c.args.files.items (cc) (cc) in
    let turn = YieldsList-turn road c.loop-file.yielded c.loop-file.file-iterator c.loop-file.yielded_by c.next.result c.next.new.self c.in-Some.file c.in-Some.is c.next.ensures.steps in
    item_at IsWithin c.args.files.items (length c.loop-file.yielded) c.in-Some.file c.requires.within turn.0 turn.1

pub loop-file-preserved : goal.loop-file-preserved
loop-file-preserved g c =
    let one = c.in_ok-plan_file.field-0 in
    record {
      told_f = search rules;
      told = search rules;
      attached = search rules;
      counts_f = search rules;
      counts = search rules;
      sound = all_pushed IsSound c.loop-file.planned.items c.push.new.self.items one c.loop-file.invariant.sound c.in_ok-plan_file.ensures.sound (search rules);
      measured = mapped_more measured_in (λ (file : MeasuredFile). file) c.loop-file.planned.items c.push.new.self.items one c.loop-file.yielded c.in-Some.file
          (c.loop-file.invariant.measured ∙ sym (map-id c.loop-file.yielded)) c.in_ok-plan_file.ensures.measured (search rules) ∙ map-id _;
      rows = λ m ledger em e. sym (map-id c.push.new.self.items) ∙ mapped_more (λ (n : PlannedFile). n) (planned_by (finds_in c.args.roots.now m) ledger.rows) c.loop-file.planned.items c.push.new.self.items one c.loop-file.yielded c.in-Some.file
          (map-id c.loop-file.planned.items ∙ c.loop-file.invariant.rows m ledger em e)
          (c.in_ok-plan_file.ensures.planned m ledger (c.loop-file.invariant.told_f ∙ em) (c.loop-file.invariant.told ∙ e))
          (search rules);
    }

pub returns-clause-planned : goal.returns-clause-planned
returns-clause-planned g c =
    let road = YieldsList-from_vec {s = c.into_iter-file-iterator.result} c.args.files.items (cc) (cc) in
    let end = YieldsList-end road c.loop-file.yielded c.loop-file.file-iterator c.loop-file.yielded_by c.next.result c.next.new.self c.in-None.is c.next.ensures.steps in
    λ m l em e. c.loop-file.invariant.rows m l em e ∙ ap (map (planned_by (finds_in c.args.roots.now m) l.rows)) (sym (map-id c.loop-file.yielded) ∙ end.0)

pub returns-clause-measured : goal.returns-clause-measured
returns-clause-measured g c =
    let road = YieldsList-from_vec {s = c.into_iter-file-iterator.result} c.args.files.items (cc) (cc) in
    let end = YieldsList-end road c.loop-file.yielded c.loop-file.file-iterator c.loop-file.yielded_by c.next.result c.next.new.self c.in-None.is c.next.ensures.steps in
    c.loop-file.invariant.measured ∙ (sym (map-id c.loop-file.yielded) ∙ end.0)

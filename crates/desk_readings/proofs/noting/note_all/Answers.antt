use Rattle.std.proofs.Common.{rules, arith, ◌≡◌, ◌++◌, ◌∙◌, length, map}
use Rattle.std.proofs.lemmas.Bool.Decides.{nat_tests}
use Rattle.std.proofs.lemmas.List.{nil_from_length}
use Rattle.std.proofs.lemmas.Result.{err_from_is_err_and}
use Rattle.desk_readings.proofs.FirstReading.{fails_behind, few_turned, noted_end, noted_turned, split_turned, within_end, within_turned}
use Rattle.desk_base.proofs.Results.{at_some}
use Rattle.desk_readings.proofs.Fronts.{if_some}
use Rattle.desk_readings.specs.Slices.{left_in, routes_in}
use Rattle.desk_readings.specs.Noting.{NotedTo}
use Rattle.desk_readings.specs.Readings.{measured_by, scans_of}
use Rattle.desk_readings.specs.declared.measured.MeasuredFile.{MeasuredFile}
use Rattle.desk_readings.proofs.noting.note_all.Goals as goal

pub returns-in_err-slice-2-clause-err : goal.returns-in_err-slice-2-clause-err
returns-in_err-slice-2-clause-err g c =
    let p = err_from_is_err_and c.from_residual-in_err-slice-2.result c.from_residual-in_err-slice-2.ensures.1 in
    rw (p.1, p.2)
    (fails_behind c.args.from.now (g.F.Folders.told c.args.folders.now) (g.F.Folders.told c.loop-reading.folders) (map (λ (file : MeasuredFile). file.route) c.loop-reading.notes.files.items ++ routes_in c.loop-reading.slice.items)
    c.args.routes.items (left_in c.loop-reading.unread) _ _ _ c.in_err-slice-2.field-0.0 c.loop-reading.invariant.told c.loop-reading.invariant.counts c.loop-reading.invariant.split
    (λ m e. (c.loop-reading.invariant.noted m e).fit) c.in_err-slice-2.ensures.err)

pub loop-reading-preserved : goal.loop-reading-preserved
loop-reading-preserved g c =
    let grown : c.add_and_read.new.self.files.items ≡ c.loop-reading.notes.files.items ++ map (measured_by c.args.rules.now) c.loop-reading.slice.items = search rules in
    let kept : c.add_and_read.new.self.scanned.items ≡ c.loop-reading.notes.scanned.items ++ scans_of c.loop-reading.slice.items = search rules in
    record {
      told = search rules;
      counts = search rules;
      split = split_turned c.args.rules.now c.args.routes.items (left_in c.loop-reading.unread) (left_in c.add_and_read.new.unread) c.loop-reading.notes.files.items c.add_and_read.new.self.files.items c.loop-reading.slice.items c.in_ok-slice-2.slice.items
          c.loop-reading.invariant.split grown c.in_ok-slice-2.ensures.read.split;
      within = within_turned c.args.rules.now c.loop-reading.notes.files.items c.add_and_read.new.self.files.items c.loop-reading.slice.items c.in_ok-slice-2.slice.items c.loop-reading.invariant.within c.in_ok-slice-2.ensures.read.within grown;
      few = few_turned c.args.rules.now c.loop-reading.notes.files.items c.add_and_read.new.self.files.items c.loop-reading.notes.scanned.items c.add_and_read.new.self.scanned.items c.loop-reading.slice.items c.loop-reading.invariant.few c.in_ok-slice-2.ensures.few grown;
      noted = λ m e. noted_turned c.args.rules.now c.args.from.now m c.loop-reading.notes.files.items c.add_and_read.new.self.files.items c.loop-reading.notes.scanned.items c.add_and_read.new.self.scanned.items c.loop-reading.slice.items c.in_ok-slice-2.slice.items
          (c.loop-reading.invariant.noted m e)
          (at_some (λ m. NotedTo c.args.rules.now c.args.from.now m (routes_in c.in_ok-slice-2.slice.items) (map (measured_by c.args.rules.now) c.in_ok-slice-2.slice.items) (scans_of c.in_ok-slice-2.slice.items)) (g.F.Folders.told c.loop-reading.folders) m
          (c.loop-reading.invariant.told ∙ e) c.in_ok-slice-2.ensures.read.noted) grown kept;
      some = c.in_ok-slice-2.ensures.read.some;
      there = search rules;
      ahead = search rules;
    }

pub returns-clause-noted : goal.returns-clause-noted
returns-clause-noted g c =
    let zero : length c.loop-reading.slice.items ≡ 0 = grind (arith, nat_tests) in
    let none = nil_from_length c.loop-reading.slice.items zero in
    if_some _ (g.F.Folders.told c.args.folders.now) (λ m e.
    noted_end c.args.rules.now c.args.from.now m c.args.routes.items (left_in c.loop-reading.unread) c.loop-reading.notes.files.items c.loop-reading.notes.scanned.items c.loop-reading.slice.items (c.loop-reading.invariant.noted m e)
    c.loop-reading.invariant.split none (c.loop-reading.invariant.some none))

pub returns-clause-within : goal.returns-clause-within
returns-clause-within g c =
    let zero : length c.loop-reading.slice.items ≡ 0 = grind (arith, nat_tests) in
    let none = nil_from_length c.loop-reading.slice.items zero in
    within_end c.args.rules.now c.loop-reading.notes.files.items c.loop-reading.slice.items c.loop-reading.invariant.within none

use Rattle.std.proofs.Common.{ap, sym, subst, ◌∙◌}
use Rattle.std.proofs.lemmas.Result.{err_from_is_err_and}
use Rattle.desk_intake.proofs.Listed.{all_there}
use Rattle.desk_run.proofs.FirstReadings.{all_read, halts_large}
use Rattle.desk_run.proofs.Gathering.{are_read, halts_clash, halts_sizes, says_told}
use Rattle.desk_intake.specs.Halts.{HaltsClashing}
use Rattle.desk_run.specs.Halts.{clash_of, paths_in, targets_in}
use Rattle.desk_intake.specs.Faults.{halt_of_note}
use Rattle.desk_run.proofs.gather.read_files.Goals as goal

pub note_all-requires-clause-there : goal.note_all-requires-clause-there
note_all-requires-clause-there g c κs within =
    all_there c.args.ruled.now.rules c.args.names.now.from (g.F.Folders.told c.args.folders.now) (g.F.Folders.told c.list_routes.new.folders) c.in_ok-routes.routes.items c.in_ok-routes.ensures.told c.in_ok-routes.ensures.routes

pub returns-in_err-notes-clause-err : goal.returns-in_err-notes-clause-err
returns-in_err-notes-clause-err g c =
    let rules = c.args.ruled.now.rules in
    let from = c.args.names.now.from in
    let told = c.in_ok-routes.ensures.told in
    let p = err_from_is_err_and c.from_residual-in_err-notes.result c.from_residual-in_err-notes.ensures.1 in
    rw (p.1, p.2)
    (halts_sizes rules from (g.F.Folders.told c.args.folders.now) (g.F.Folders.told c.list_routes.new.folders) _ (g.F.Folders.faults c.list_routes.new.folders) _ (halt_of_note c.in_err-notes.field-0.0) c.in_ok-routes.ensures.counts told c.in_ok-routes.ensures.clear
    (halts_large rules from (g.F.Folders.told c.list_routes.new.folders) c.in_ok-routes.routes.items _ _ c.in_err-notes.field-0.0 (rw told c.in_ok-routes.ensures.routes) c.in_err-notes.ensures.err))

pub returns-in_err-refuse_clash-clause-err : goal.returns-in_err-refuse_clash-clause-err
returns-in_err-refuse_clash-clause-err g c =
    let rules = c.args.ruled.now.rules in
    let from = c.args.names.now.from in
    let routes = c.in_ok-routes.ensures in
    let notes = c.in_ok-notes.notes in
    let p = err_from_is_err_and c.from_residual-in_err-refuse_clash.result c.from_residual-in_err-refuse_clash.ensures.1 in
    rw (p.1, p.2)
    (halts_clash rules from (g.F.Folders.told c.args.folders.now) notes.files.items notes.scanned.items _ _ c.in_err-refuse_clash.field-0.0 routes.clear
    (says_told rules from (g.F.Folders.told c.args.folders.now) (g.F.Folders.told c.list_routes.new.folders) c.in_ok-routes.routes.items notes.files.items notes.scanned.items routes.told routes.routes c.in_ok-notes.ensures.noted)
    (subst (λ files. HaltsClashing (paths_in files) (targets_in files) c.in_err-refuse_clash.field-0.0) c.deref.ensures.value c.in_err-refuse_clash.ensures.err))

pub returns-clause-notes : goal.returns-clause-notes
returns-clause-notes g c =
    let rules = c.args.ruled.now.rules in
    let from = c.args.names.now.from in
    let routes = c.in_ok-routes.ensures in
    let notes = c.in_ok-notes.notes in
    are_read rules from (g.F.Folders.told c.args.folders.now) notes.files.items notes.scanned.items routes.clear
    (says_told rules from (g.F.Folders.told c.args.folders.now) (g.F.Folders.told c.list_routes.new.folders) c.in_ok-routes.routes.items notes.files.items notes.scanned.items routes.told routes.routes c.in_ok-notes.ensures.noted)
    (sym (ap clash_of c.deref.ensures.value) ∙ c.in_ok-refuse_clash.ensures.ok)

pub returns-clause-read : goal.returns-clause-read
returns-clause-read g c =
    all_read c.args.ruled.now.rules c.in_ok-routes.routes.items c.in_ok-notes.notes.files.items c.in_ok-notes.ensures.routes c.in_ok-routes.ensures.relative c.in_ok-routes.ensures.routed c.in_ok-notes.ensures.within

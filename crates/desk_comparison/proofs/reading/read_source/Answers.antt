use Rattle.std.proofs.Common.{ℕ, ◌≡◌, None, List, map, IfSome, subst}
use Rattle.std.proofs.lemmas.Result.{err_from_is_err_and}
use Rattle.desk_intake.proofs.Listed.{all_there}
use Rattle.desk_clashes.specs.Clashes.{first_clash}
use Rattle.desk_intake.specs.Halts.{HaltsClashing}
use Rattle.desk_intake.specs.Standing.{clash_status}
use Rattle.desk_comparison.specs.Files.{HasRead, files_of, path_of}
use Rattle.desk_comparison.specs.Sizes.{most_both}
use Rattle.desk_comparison.specs.declared.reading.SourceFile.{SourceFile}
use Rattle.desk_comparison.proofs.Applications.{all_routed, halts_clash, halts_listing, halts_reading, read_listed, source_clear}
use Rattle.desk_comparison.proofs.reading.read_source.Goals as goal

pub read_routes-requires : goal.read_routes-requires
read_routes-requires g c = record {
  there = all_there c.args.rules.now c.args.from.now (g.F.Folders.told c.args.folders.now) (g.F.Folders.told c.list_routes.new.folders) c.in_ok-routes.routes.items c.in_ok-routes.ensures.told c.in_ok-routes.ensures.routes;
}

pub returns-in_err-routes-clause-err : goal.returns-in_err-routes-clause-err
returns-in_err-routes-clause-err g c =
    let p = err_from_is_err_and c.from_residual.result c.from_residual.ensures.1 in
    rw (p.1, p.2) (halts_listing c.args.rules.now c.args.from.now (g.F.Folders.told c.args.folders.now) _ _ c.in_err-routes.field-0.0 c.in_err-routes.ensures.err)

pub returns-in_err-files-clause-err : goal.returns-in_err-files-clause-err
returns-in_err-files-clause-err g c =
    let p = err_from_is_err_and c.from_residual-in_err-files.result c.from_residual-in_err-files.ensures.1 in
    rw (p.1, p.2)
    (halts_reading c.args.rules.now c.args.from.now (g.F.Folders.told c.args.folders.now) c.in_ok-routes.routes.items c.in_ok-routes.ensures.routes c.in_ok-routes.ensures.clear (g.F.Folders.told c.list_routes.new.folders) c.args.room.now _ _ _
    c.in_err-files.field-0.0 c.in_ok-routes.ensures.told c.in_ok-routes.ensures.counts c.requires.room c.in_err-files.ensures.err)

pub returns-in_err-refuse_clash-clause-err : goal.returns-in_err-refuse_clash-clause-err
returns-in_err-refuse_clash-clause-err g c =
    let p = err_from_is_err_and c.from_residual-in_err-refuse_clash.result c.from_residual-in_err-refuse_clash.ensures.1 in
    let files = c.in_ok-files.files.items in
    rw (p.1, p.2)
    (halts_clash c.args.rules.now c.args.from.now (g.F.Folders.told c.args.folders.now) c.in_ok-routes.routes.items c.in_ok-routes.ensures.routes c.in_ok-routes.ensures.clear files c.in_ok-files.ensures.routes c.read_routes.new.room
    (read_listed c.args.rules.now c.args.from.now (g.F.Folders.told c.args.folders.now) c.in_ok-routes.routes.items c.in_ok-routes.ensures.routes (g.F.Folders.told c.list_routes.new.folders) most_both c.read_routes.new.room (files_of files)
    c.in_ok-routes.ensures.told
    (subst (λ (n : ℕ). IfSome (g.F.Folders.told c.list_routes.new.folders) (λ m. HasRead c.args.from.now m n (map path_of c.in_ok-routes.routes.items) (files_of files) c.read_routes.new.room)) c.requires.room c.in_ok-files.ensures.read))
    _ _ c.in_err-refuse_clash.field-0.0
    (subst (λ (fs : List SourceFile). HaltsClashing (map (λ (f : SourceFile). f.route.path) fs) (map (λ (f : SourceFile). f.route.target) fs) c.in_err-refuse_clash.field-0.0) c.as_slice.ensures.value c.in_err-refuse_clash.ensures.err))

pub returns-clause-routed : goal.returns-clause-routed
returns-clause-routed g c = all_routed c.args.rules.now c.in_ok-files.files.items c.in_ok-routes.routes.items c.in_ok-files.ensures.routes c.in_ok-routes.ensures.routed

pub returns-clause-read : goal.returns-clause-read
returns-clause-read g c =
    read_listed c.args.rules.now c.args.from.now (g.F.Folders.told c.args.folders.now) c.in_ok-routes.routes.items c.in_ok-routes.ensures.routes (g.F.Folders.told c.list_routes.new.folders) c.args.room.now _ (files_of c.in_ok-files.files.items)
    c.in_ok-routes.ensures.told c.in_ok-files.ensures.read

pub returns-clause-clear : goal.returns-clause-clear
returns-clause-clear g c =
    let files = c.in_ok-files.files.items in
    source_clear c.args.rules.now c.args.from.now (g.F.Folders.told c.args.folders.now) c.in_ok-routes.routes.items c.in_ok-routes.ensures.routes c.in_ok-routes.ensures.clear files c.in_ok-files.ensures.routes c.read_routes.new.room
    (read_listed c.args.rules.now c.args.from.now (g.F.Folders.told c.args.folders.now) c.in_ok-routes.routes.items c.in_ok-routes.ensures.routes (g.F.Folders.told c.list_routes.new.folders) most_both c.read_routes.new.room (files_of files)
    c.in_ok-routes.ensures.told
    (subst (λ (n : ℕ). IfSome (g.F.Folders.told c.list_routes.new.folders) (λ m. HasRead c.args.from.now m n (map path_of c.in_ok-routes.routes.items) (files_of files) c.read_routes.new.room)) c.requires.room c.in_ok-files.ensures.read))
    (subst (λ (fs : List SourceFile). clash_status (map (λ (f : SourceFile). f.route.path) fs) (first_clash (map (λ (f : SourceFile). f.route.target) fs)) ≡ None) c.as_slice.ensures.value c.in_ok-refuse_clash.ensures.ok)

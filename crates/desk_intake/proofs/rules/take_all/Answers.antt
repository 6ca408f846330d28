use Rattle.std.proofs.Common.{rules, ◌∙◌}
use Rattle.std.proofs.lemmas.Result.{err_from_is_err_and}
use Rattle.desk_base.proofs.Results.{at_some}
use Rattle.desk_folders.specs.Contents.{file_at}
use Rattle.desk_intake.specs.RuleFolders.{Takes}
use Rattle.desk_intake.proofs.Parts.{there_listed}
use Rattle.desk_intake.proofs.Taking.{all_taken, files_first, files_more, free_more, halts_taking, name_free, none_free, small_first, small_more, sorted_apart}
use Rattle.desk_intake.proofs.rules.take_all.Goals as goal

pub take_file-requires-clause-there : goal.take_file-requires-clause-there
take_file-requires-clause-there g c =
    there_listed c.args.root.now (g.F.Folders.told c.args.folders.now) (g.F.Folders.told c.loop-path.folders) c.args.paths.now c.loop-path.path-index c.path-item.result
    c.loop-path.invariant.told c.requires.listed c.loop-path-test.true c.path-item.is

pub take_file-requires-clause-absent : goal.take_file-requires-clause-absent
take_file-requires-clause-absent g c = name_free c.loop-path.files c.args.paths.now c.loop-path.path-index c.path-item.result c.loop-path-test.true c.path-item.is c.loop-path.invariant.free

pub returns-in_err-take_file-clause-err : goal.returns-in_err-take_file-clause-err
returns-in_err-take_file-clause-err g c =
    let p = err_from_is_err_and c.from_residual.result c.from_residual.ensures.1 in
    rw (p.1, p.2)
    (halts_taking c.args.root.now c.args.paths.now c.loop-path.path-index c.path-item.result _ _ _ _ _ c.in_err-take_file.field-0.0 c.loop-path.invariant.counts c.loop-path.invariant.told c.loop-path-test.true c.path-item.is
    c.loop-path.invariant.small c.in_err-take_file.ensures.err)

pub loop-path-init : goal.loop-path-init
loop-path-init g c = record {
  told = search rules;
  counts = search rules;
  free = none_free _ c.args.paths.now c.new-files.ensures;
  files = files_first c.args.root.now _ c.args.paths.now _ c.new-files.ensures c.requires.listed;
  small = small_first c.args.root.now _ c.args.paths.now c.requires.listed;
}

pub loop-path-preserved : goal.loop-path-preserved
loop-path-preserved g c =
    let takes = c.in_ok-take_file.ensures.takes in
    record {
      told = search rules;
      counts = search rules;
      free = free_more c.loop-path.files _ c.args.paths.now c.loop-path.path-index c.path-item.result c.loop-path-test.true c.path-item.is (sorted_apart c.args.paths.now c.requires.rising)
          c.in_ok-take_file.ensures.others c.loop-path.invariant.free;
      files = λ m e. files_more c.args.root.now m c.args.paths.now c.loop-path.path-index c.path-item.result c.loop-path.files _ _ c.loop-path-test.true c.path-item.is
          (at_some (λ m. Takes (file_at c.args.root.now m c.path-item.result) c.loop-path.files _) (g.F.Folders.told c.loop-path.folders) m (c.loop-path.invariant.told ∙ e) takes) (c.loop-path.invariant.files m e);
      small = λ m e. small_more c.args.root.now m c.args.paths.now c.loop-path.path-index c.path-item.result c.loop-path.files _ _ c.loop-path-test.true c.path-item.is
          (at_some (λ m. Takes (file_at c.args.root.now m c.path-item.result) c.loop-path.files _) (g.F.Folders.told c.loop-path.folders) m (c.loop-path.invariant.told ∙ e) takes) (c.loop-path.invariant.small m e);
    }

pub returns-clause-taken : goal.returns-clause-taken
returns-clause-taken g c =
    all_taken c.args.root.now _ c.args.paths.now c.loop-path.path-index c.loop-path.files c.loop-path-test.false c.loop-path.invariant.files c.loop-path.invariant.small

use Rattle.std.proofs.Common.{◌≤◌, ap, ◌∙◌, arith}
use Rattle.std.specs.List.{list_all}
use Rattle.desk_base.specs.Paths.{is_relative_path}
use Rattle.desk_folders.specs.declared.folders.GenFile.{GenFile}
use Rattle.desk_gen.proofs.Paths.{generated_relative}
use Rattle.desk_gen.proofs.application.generate.Goals as goal

pub returns-clause-relative : goal.returns-clause-relative
returns-clause-relative c =
    let most : c.args.count ≤ 20000 = omega (arith, c.if-count-gt-MOST.false) in
    ap (list_all (λ (file : GenFile). is_relative_path file.path)) c.in_ok-application.ensures ∙ generated_relative c.args.count most

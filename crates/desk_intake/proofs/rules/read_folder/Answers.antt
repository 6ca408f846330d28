use Rattle.std.proofs.Common.{rules, IfSome, subst}
use Rattle.desk_intake.specs.RuleFolders.{HasTakenAll}
use Rattle.desk_intake.proofs.Taking.{all_read}
use Rattle.desk_intake.proofs.rules.read_folder.Goals as goal

pub returns-clause-read : goal.returns-clause-read
returns-clause-read g c =
    all_read c.args.root.now _ c.in_ok-names.names c.in_ok-files.files c.in_ok-names.ensures.paths (search rules) c.in_ok-names.ensures.rising
    (subst (λ told. IfSome told (λ m. HasTakenAll c.args.root.now m c.in_ok-files.files)) c.in_ok-names.ensures.told c.in_ok-files.ensures.taken)

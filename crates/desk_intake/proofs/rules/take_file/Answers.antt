use Rattle.std.proofs.Common.{◌≡◌, ◌∙◌, ap}
use Rattle.std.specs.FinMap as fin
use Rattle.desk_base.specs.TextMaps.{get-insert-other}
use Rattle.desk_rules.specs.Files.{Files}
use Rattle.desk_intake.proofs.rules.take_file.Goals as goal

pub returns-clause-others : goal.returns-clause-others
returns-clause-others g c =
    let same : c.in_ok-name.name ≡ c.args.path.now = c.in_ok-name.ensures ∙ c.as_bytes.ensures in
    λ name apart. ap (λ (m : Files). fin.get m name) c.in_ok-add.ensures.ok ∙ get-insert-other c.args.files.now c.in_ok-name.name c.in-Some.content name (λ e. apart (e ∙ same))

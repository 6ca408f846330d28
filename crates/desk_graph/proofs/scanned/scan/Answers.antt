use Rattle.std.proofs.Common.{◌∙◌}
use Rattle.desk_graph.proofs.Kept.{scanned}
use Rattle.desk_graph.proofs.scanned.scan.Goals as goal

pub returns : goal.returns
returns c = λ class reads.
    scanned c.args.view.now c.args.path.now c.in_ok-path.path c.in_ok-name.name c.args.selected c.in_ok-held.held class reads
    (c.in_ok-path.ensures ∙ c.as_bytes.ensures) (c.in_ok-name.ensures ∙ c.name.ensures) c.in_ok-held.ensures.held

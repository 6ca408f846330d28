use Rattle.std.proofs.Common.{sym, ◌∙◌, arith}
use Rattle.std.proofs.lemmas.List.{take_rest, drop_all}
use Rattle.desk_sites.proofs.Dimensions.{dimensions_end}
use Rattle.desk_sites.proofs.packages.behind_dimensions.Goals as goal

pub returns-then-byte-ne91 : goal.returns-then-byte-ne91
returns-then-byte-ne91 c =
    take_rest c.args.text.now c.loop-at.at
    ∙ dimensions_end c.args.text.now c.loop-at.at (omega arith) c.loop-at.invariant (λ h. c.if-byte-ne91.true)

pub returns : goal.returns
returns c =
    sym (drop_all c.loop-at.at c.args.text.now (omega arith))
    ∙ dimensions_end c.args.text.now c.loop-at.at (omega arith) c.loop-at.invariant (λ h. absurd (omega arith))

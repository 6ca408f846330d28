use Rattle.std.proofs.Common.{ap, sym, not, arith}
use Rattle.desk_lines.specs.Blanks.{not_blank}
use Rattle.desk_lines.proofs.Cuts.{until_length}
use Rattle.desk_lines.proofs.blanks.count_leading_blanks.Goals as goal

pub returns-then-not-is_blank-clause-count : goal.returns-then-not-is_blank-clause-count
returns-then-not-is_blank-clause-count c =
    until_length not_blank c.args.text.now c.loop-i.i (omega arith) c.loop-i.invariant (λ h. ap not (sym c.if-not-is_blank.ensures))

pub returns-clause-count : goal.returns-clause-count
returns-clause-count c =
    until_length not_blank c.args.text.now _ (omega arith) (λ k h. c.loop-i.invariant k (omega arith)) (λ h. absurd (omega arith))

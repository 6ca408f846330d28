use Rattle.std.proofs.Common.{refl, sym}
use Rattle.desk_compare.proofs.KnownValues.{within_known, no_levels}
use Rattle.desk_compare.proofs.values.+same_within.Goals as goal

pub returns-then-levels-eq0-clause-same : goal.returns-then-levels-eq0-clause-same
returns-then-levels-eq0-clause-same t c = no_levels c.args.known.now.left c.args.known.now.right c.args.levels c.args.i c.args.j c.if-levels-eq0.true

pub returns-then-has-clause-same : goal.returns-then-has-clause-same
returns-then-has-clause-same t c =
    sym (within_known c.args.known.now.left c.args.known.now.right c.args.levels c.args.i c.args.j c.requires (c.if-has.ensures refl))

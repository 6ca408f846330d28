use Rattle.std.proofs.Common.{sym, refl, arith}
use Rattle.desk_packages.specs.Keys.{goes_below, wanted_tail}
use Rattle.desk_packages.proofs.Sources.{left_ends}
use Rattle.desk_packages.proofs.picking.compare.Goals as goal

pub returns-then-at-key : goal.returns-then-at-key
returns-then-at-key c = sym (left_ends c.args.key.now c.args.path.now c.args.separator (wanted_tail (goes_below c.args.reach)) c.loop-at.at _ c.loop-at.invariant (omega arith) (omega arith) refl)

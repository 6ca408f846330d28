use Rattle.std.proofs.Common.{arith}
use Rattle.desk_base.proofs.Singles.{single_from_lanes}
use Rattle.desk_base.proofs.utf8.is_single_block.Goals as goal

pub returns : goal.returns
returns c = single_from_lanes c.args.bytes.now c.args.at 8 c.requires (omega arith) c.type_inv.bytes

use Rattle.std.proofs.Common.{◌-◌}
use Rattle.desk_pool.proofs.Indices.{same_seen}
use Rattle.desk_pool.proofs.named.find_class_name.Goals as goal

pub returns : goal.returns
returns c = same_seen c.args.slots.now (c.args.index - 1) c.index-slots-place.result _ c.index-slots-place.is c.with_class_name.ensures

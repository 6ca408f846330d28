use Rattle.std.proofs.Common.{sym}
use Rattle.desk_new_pool.proofs.Listed.{length-listed}
use Rattle.desk_new_pool.proofs.wants.WantedTexts.len.Goals as goal

pub returns : goal.returns
returns c = sym (length-listed c.self.inside.images.items c.self.inside.uses.now c.self.inside.numbers.items c.args.self.now c.self.invariant c.self.view_is)

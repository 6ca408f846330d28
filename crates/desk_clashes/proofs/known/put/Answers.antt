use Rattle.desk_clashes.proofs.Sets.{put_holds}
use Rattle.desk_clashes.proofs.known.put.Goals as goal

pub returns-clause-added : goal.returns-clause-added
returns-clause-added c = λ q. put_holds c.args.set.now c.insert.new.self c.args.text.now q (rw (← c.new.ensures) c.in_ok-is_new.ensures.updates)

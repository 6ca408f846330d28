use Rattle.desk_graph.proofs.Sets.{put_holds, put_texts}
use Rattle.desk_graph.proofs.names.put.Goals as goal

pub returns-clause-holds : goal.returns-clause-holds
returns-clause-holds c = λ q. put_holds c.args.set.now c.insert.new.self c.args.text.now q (rw (← c.new.ensures) c.in_ok-insert.ensures.updates)

pub returns-clause-texts : goal.returns-clause-texts
returns-clause-texts c = put_texts c.args.set.now c.insert.new.self c.args.text.now (rw (← c.new.ensures) c.in_ok-insert.ensures.keys)

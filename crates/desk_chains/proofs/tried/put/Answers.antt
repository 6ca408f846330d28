use Rattle.desk_chains.proofs.Gifts.{put_or_not}
use Rattle.desk_chains.proofs.tried.put.Goals as goal

pub returns : goal.returns
returns c = λ q h. put_or_not c.insert.result c.args.set.now c.insert.new.self c.args.text q c.insert.ensures.updates c.insert.ensures.err h

use Rattle.desk_new_pool.proofs.Wanted.{after_none, after_own, after_image}
use Rattle.desk_new_pool.proofs.keeps.after.Goals as goal

pub returns-in-None : goal.returns-in-None
returns-in-None c = λ own ts d k. after_none own ts c.args.image c.in-None.is

pub returns-in-Own : goal.returns-in-Own
returns-in-Own c = λ own ts d k. after_own own ts c.args.image c.args.state c.in-Own.is k

pub returns-in-Image : goal.returns-in-Image
returns-in-Image c = λ own ts d k. after_image own ts c.args.image c.in-Some.text _ c.args.state c.in-Some.is c.in-Image.is d k

use Rattle.std.proofs.lemmas.Result.{IfOk-weaker}
use Rattle.desk_words.specs.declared.roots.Order.{Order}
use Rattle.desk_words.proofs.Rooted.{order_is_sound}
use Rattle.desk_words.proofs.roots.read_order.Goals as goal

pub returns-clause-sound : goal.returns-clause-sound
returns-clause-sound c = IfOk-weaker c.order_of.result _ _ (λ (given : Order) e. order_is_sound c.args.words.now given e) c.order_of.ensures.ok

use Rattle.desk_new_pool.specs.declared.wants.WantedText.{WantedText}
use Rattle.desk_new_pool.proofs.Wanted.{made_more}
use Rattle.desk_new_pool.proofs.new_texts.own_indices.Goals as goal

pub loop-place-preserved : goal.loop-place-preserved
loop-place-preserved c = made_more (λ (w : WantedText). w.used.index) c.args.wants.now c.loop-place.place c.get.result c.loop-place.indices.items c.push.new.self.items c.get.ensures c.loop-place.invariant c.in_ok-push.ensures.items

use Rattle.std.specs.Prelude.{List, Result, IfErr}
use Rattle.std.proofs.Common.{subst}
use Rattle.desk_base.specs.Names.{Text}
use Rattle.desk_words.specs.Roots.{RefusedBy, order_of_words}
use Rattle.desk_words.specs.declared.roots.Order.{Order}
use Rattle.desk_words.specs.declared.roots.RootsFault.{RootsFault}
use Rattle.desk_words.proofs.request.Request.order.Goals as goal

pub returns-in-Err-clause-err : goal.returns-in-Err-clause-err
returns-in-Err-clause-err c = c.again.ensures (order_of_words c.args.self.now)
    (subst (λ (words : List Text). RefusedBy (order_of_words words) c.in-Err.fault) c.self.view_is
    (subst (λ (order : Result Order RootsFault). IfErr order (RefusedBy (order_of_words c.self.inside.words.now))) c.in-Err.is c.self.invariant.1))

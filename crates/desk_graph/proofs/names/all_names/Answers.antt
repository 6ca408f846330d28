use Rattle.std.proofs.Common.{◌≡◌, ap, sym, subst, ◌∙◌, List, [], drop, IfOk, arith}
use Rattle.std.proofs.lemmas.List.{drop_all}
use Rattle.desk_base.specs.Names.{Text}
use Rattle.desk_class.specs.Held.{put_all}
use Rattle.desk_graph.specs.Application.{names}
use Rattle.desk_graph.specs.declared.scanned.Scanned.{Scanned}
use Rattle.desk_graph.proofs.Orders.{names_step}
use Rattle.desk_graph.proofs.names.all_names.Goals as goal

pub loop-class-preserved : goal.loop-class-preserved
loop-class-preserved c =
    names_step c.args.classes.now c.loop-class.class-index c.class-item.result c.loop-class.all c.put_class.new.self _ c.loop-class-test.true c.class-item.is c.in_ok-put_class.ensures c.loop-class.invariant

pub returns : goal.returns
returns c =
    let none : drop c.loop-class.class-index c.args.classes.now ≡ [] = drop_all c.loop-class.class-index c.args.classes.now (omega (arith, c.loop-class-test.false)) in
    subst (λ (ts : List Text). IfOk c.in_order.result (λ list. list.items ≡ ts)) (ap (λ (cs : List Scanned). put_all c.loop-class.all (names cs)) (sym none) ∙ c.loop-class.invariant) c.in_order.ensures

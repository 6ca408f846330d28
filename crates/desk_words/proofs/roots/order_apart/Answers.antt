use Rattle.std.proofs.Common.{◌≡◌, ℕ, Bool, Option, Some, None, Ok, sym, ap, ◌∙◌, option_map}
use Rattle.desk_words.specs.declared.roots.Root.{Root}
use Rattle.desk_words.specs.declared.roots.Roots.{Roots}
use Rattle.desk_words.specs.declared.roots.Order.TheVariants as order
use Rattle.desk_words.specs.Words.{first_nested, written}
use Rattle.desk_words.specs.Roots.{nested_fault, order_apart}
use Rattle.desk_words.proofs.roots.order_apart.Goals as goal

separate : (rules from to ledger : Root) (workers : ℕ) (verify : Bool) (o : Option (Root × Root)) (roots : Roots) → None ≡ option_map nested_fault o
    → roots ≡ record { rules = written rules; from = written from; to = written to; ledger = written ledger; verify = verify } → order_apart rules from to ledger workers verify o ≡ Ok (order.Run roots workers)
separate rules from to ledger workers verify None roots e f = ap (λ r. Ok (order.Run r workers)) (sym f)
separate rules from to ledger workers verify (Some pair) roots e f = cc

pub returns-in_ok-roots-in-None-clause-ok : goal.returns-in_ok-roots-in-None-clause-ok
returns-in_ok-roots-in-None-clause-ok c =
    let o : Option (Root × Root) = first_nested c.args.roots.now.rules c.args.roots.now.from c.args.roots.now.to c.args.roots.now.ledger in
    let e : None ≡ option_map nested_fault o = sym c.in-None.is ∙ c.in_ok-fault.ensures in
    separate c.args.roots.now.rules c.args.roots.now.from c.args.roots.now.to c.args.roots.now.ledger c.args.workers c.args.roots.now.verify o _ e c.in_ok-roots-in-None.ensures

use Rattle.std.proofs.Common.{◌+◌, sym, arith, take, subst, Some}
use Rattle.std.proofs.lemmas.List.{take_rest}
use Rattle.std.proofs.lemmas.Bool.{false_from_ne_true}
use Rattle.desk_base.specs.Names.{Text}
use Rattle.desk_clauses.specs.Cuts.{IsFirstItem}
use Rattle.desk_clauses.proofs.Items.{item_alone, item_first}
use Rattle.desk_clauses.proofs.quotes.split_first_item.Goals as goal

pub returns-in-None : goal.returns-in-None
returns-in-None c = item_alone c.args.list.now (λ k h. false_from_ne_true _ (c.in-None.ensures k (omega arith) h))

pub returns-in-Some : goal.returns-in-Some
returns-in-Some c =
    let found = c.in-Some.ensures.0 in
    let list = c.args.list.now in
    let at = c.in-Some.at in
    let within = found.high in
    subst (λ (more : Text). IsFirstItem list (take at list) (Some more)) (sym (take_rest list (at + 1)))
    (item_first list at within (λ k h. false_from_ne_true _ (found.before k (omega arith) h)) c.in-Some.ensures.1)

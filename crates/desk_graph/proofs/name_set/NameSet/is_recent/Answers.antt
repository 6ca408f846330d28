use Rattle.std.proofs.Common.{◌∙◌, sym, ap, subst, List, Contains, Some}
use Rattle.std.specs.Cmp.Lexicographic.{bytes_decides}
use Rattle.std.proofs.lemmas.Bool.{ltb-true}
use Rattle.desk_base.specs.Names.{Text}
use Rattle.desk_graph.proofs.Lately.{got, recent_there}
use Rattle.desk_graph.proofs.name_set.NameSet.is_recent.Goals as goal

pub returns-in-Some-Some : goal.returns-in-Some-Some
returns-in-Some-Some c = λ same.
    let lookup = c.in-Some-Some.ensures.lookup in
    subst (λ (ts : List Text). Contains ts c.args.name.now) c.self.view_is
    (recent_there c.self.inside.set c.self.inside.recent.items c.args.place c.in-Some-Some.recent c.args.name.now c.self.invariant
    (rw (← c.deref.ensures.value) (got c.deref.result.now c.args.place _ (ltb-true _ _ (sym lookup.0)) ∙ ap Some (sym lookup.1 ∙ c.in-Some-Some.field-0-is)))
    ((bytes_decides c.in-Some-Some.recent.now c.args.name.now).0 (sym c.eq.ensures ∙ same)))

use Rattle.std.proofs.Common.{◌∙◌, sym, ap, subst, [], ◌∷◌, List, Contains}
use Rattle.desk_base.specs.Names.{Text}
use Rattle.desk_class.specs.Held.{put_all}
use Rattle.desk_graph.proofs.Lately.{put_again}
use Rattle.desk_graph.proofs.Sets.{put_texts}
use Rattle.desk_graph.proofs.name_set.NameSet.put.Goals as goal

pub returns-then-is_recent-clause-ok : goal.returns-then-is_recent-clause-ok
returns-then-is_recent-clause-ok c =
    sym c.self.view_is
    ∙ put_again c.self.inside.set c.args.name.now (subst (λ (ts : List Text). Contains ts c.args.name.now) (sym c.self.view_is) (c.is_recent.ensures c.if-is_recent.true))
    ∙ ap (λ (ts : List Text). put_all ts (c.args.name.now ∷ [])) c.self.view_is

pub returns-then-place-len-clause-ok : goal.returns-then-place-len-clause-ok
returns-then-place-len-clause-ok c =
    put_texts c.self.inside.set c.insert.new.self c.args.name.now (rw (← c.new-marked.ensures) c.in_ok-insert.ensures.keys)
    ∙ ap (λ (ts : List Text). put_all ts (c.args.name.now ∷ [])) c.self.view_is

pub returns-else-place-len-clause-ok : goal.returns-else-place-len-clause-ok
returns-else-place-len-clause-ok c =
    put_texts c.self.inside.set c.insert.new.self c.args.name.now (rw (← c.new-marked.ensures) c.in_ok-insert.ensures.keys)
    ∙ ap (λ (ts : List Text). put_all ts (c.args.name.now ∷ [])) c.self.view_is

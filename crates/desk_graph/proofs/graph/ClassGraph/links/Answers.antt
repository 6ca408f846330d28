use Rattle.std.proofs.Common.{◌≡◌, ◌∙◌, sym, ap, ap₂, subst, List, Option, ℕ, length, ◌<◌, ◌^◌}
use Rattle.desk_base.specs.Names.{Text}
use Rattle.desk_packages.specs.Keys.{RiseBy}
use Rattle.desk_class.specs.Held.{held_in, ascending}
use Rattle.desk_class.proofs.Once.{once_ascending}
use Rattle.desk_graph.specs.Application.{Pair}
use Rattle.desk_graph.specs.Graphs.{Graph, links_of}
use Rattle.desk_graph.specs.Nodes.{firsts, defined_of}
use Rattle.desk_graph.specs.Tables.{as_is}
use Rattle.desk_graph.proofs.Links.{none_linked, not_linked, linked, item_at, are_links, links_are, few_links, same_names, ascending_rise}
use Rattle.desk_graph.proofs.graph.ClassGraph.links.Goals as goal
use Rattle.desk_graph.proofs.graph.ClassGraph.links.Goals.{in-Some+in_ok-push, in_default}

pub loop-name-init : goal.loop-name-init
loop-name-init c = rw c.new-links.ensures.items (none_linked (defined_of (firsts c.as_slice-known.result.now) c.as_slice-nodes.result.now) c.as_slice-name-items.result.now)

pub node_in-requires : goal.node_in-requires
node_in-requires c = rw (c.as_slice-known.ensures.value, c.as_slice-nodes.ensures.value) c.self.invariant.table

pub loop-name-preserved : goal.loop-name-preserved
loop-name-preserved c =
    let defined = defined_of (firsts c.as_slice-known.result.now) c.as_slice-nodes.result.now in
    let names_rise = ascending_rise c.as_slice-name-items.result.now (held_in c.args.view.now) (c.as_slice-name-items.ensures.value ∙ c.in_ok-names.ensures ∙ ap ascending c.in_ok-held.ensures.held ∙ once_ascending (held_in c.args.view.now)) in
    let defined_rise = subst (RiseBy as_is) (sym (ap₂ (λ (ks : List Pair) (os : List (Option ℕ)). defined_of (firsts ks) os) c.as_slice-known.ensures.value c.as_slice-nodes.ensures.value)) c.self.invariant.defined_rise in
    let at = item_at c.as_slice-name-items.result.now c.loop-name.name-index c.name-item.result c.loop-name-test.true c.name-item.is in
    elim c.match-node_in.branch [
      | in-Some+in_ok-push w ↦ rw (w.links-is, w.in_ok-push.ensures.items)
          (linked defined c.as_slice-name-items.result.now defined_rise names_rise c.loop-name.name-index c.name-item.result c.loop-name-test.true at c.loop-name.links.items c.loop-name.invariant
          w.in-Some.place (rw (← c.bytes.ensures) w.in-Some.ensures))
      | in_default w ↦ rw w.links-is
          (not_linked defined c.as_slice-name-items.result.now defined_rise names_rise c.loop-name.name-index c.name-item.result c.loop-name-test.true at c.loop-name.links.items c.loop-name.invariant
          (rw (← c.bytes.ensures) (rw w.in_default.is at c.node_in.ensures)))
    ]

whole : (c : goal.After-drop-held-inside-3) → c.loop-name.links.items ≡ links_of c.args.self.now.defined c.args.view.now
whole c =
    let defined = defined_of (firsts c.as_slice-known.result.now) c.as_slice-nodes.result.now in
    links_are defined c.args.view.now c.loop-name.links.items
    (are_links defined c.as_slice-name-items.result.now c.args.view.now c.loop-name.name-index c.loop-name.links.items
    (same_names c.as_slice-name-items.result.now (held_in c.args.view.now) (c.as_slice-name-items.ensures.value ∙ c.in_ok-names.ensures ∙ ap ascending c.in_ok-held.ensures.held ∙ once_ascending (held_in c.args.view.now))) c.loop-name-test.false c.loop-name.auto.name-index-end c.loop-name.invariant)
    ∙ ap (λ (ds : List Text). links_of ds c.args.view.now)
    (ap₂ (λ (ks : List Pair) (os : List (Option ℕ)). defined_of (firsts ks) os) c.as_slice-known.ensures.value c.as_slice-nodes.ensures.value ∙ ap (λ (g : Graph). g.defined) c.self.view_is)

pub returns-clause-links : goal.returns-clause-links
returns-clause-links c = whole c

pub returns-clause-few : goal.returns-clause-few
returns-clause-few c =
    few_links c.args.self.now.defined c.args.view.now c.loop-name.links.items (whole c)
    (subst (λ (g : Graph). length g.defined < 2 ^ 32) c.self.view_is c.self.invariant.few)

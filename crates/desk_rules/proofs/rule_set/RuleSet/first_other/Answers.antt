use Rattle.std.proofs.Common.{◌∙◌, refl, sym, ap, length, vec_len, arith}
use Rattle.desk_rules.specs.Others.{first_other}
use Rattle.desk_rules.proofs.Others.{other_is, named_here, named_behind}
use Rattle.desk_rules.proofs.rule_set.RuleSet.first_other.Goals as goal

pub returns-then-not-is_empty : goal.returns-then-not-is_empty
returns-then-not-is_empty c =
    sym (
    ap first_other (sym c.self.view_is) ∙ other_is _ _ _ _ c.self.inside.selection c.self.inside.texts c.self.invariant
    ∙ named_here c.self.inside.versions.items (vec_len c.self.inside.versions) _ _ c.is_empty.result (omega (arith, c.self.inside.versions.ok.0)) c.is_empty.ensures c.if-not-is_empty.true)

pub returns-then-not-is_empty-2 : goal.returns-then-not-is_empty-2
returns-then-not-is_empty-2 c =
    sym (
    ap first_other (sym c.self.view_is) ∙ other_is _ _ _ _ c.self.inside.selection c.self.inside.texts c.self.invariant
    ∙ named_behind c.self.inside.versions.items (vec_len c.self.inside.versions) _ _ c.is_empty.result (omega (arith, c.self.inside.versions.ok.0)) c.is_empty.ensures c.if-not-is_empty.false
    ∙ named_here c.self.inside.bundles.items (vec_len c.self.inside.bundles) _ _ c.is_empty-else-not-is_empty.result (omega (arith, c.self.inside.bundles.ok.0)) c.is_empty-else-not-is_empty.ensures c.if-not-is_empty-2.true)

pub returns-then-not-is_empty-3 : goal.returns-then-not-is_empty-3
returns-then-not-is_empty-3 c =
    sym (
    ap first_other (sym c.self.view_is) ∙ other_is _ _ _ _ c.self.inside.selection c.self.inside.texts c.self.invariant
    ∙ named_behind c.self.inside.versions.items (vec_len c.self.inside.versions) _ _ c.is_empty.result (omega (arith, c.self.inside.versions.ok.0)) c.is_empty.ensures c.if-not-is_empty.false
    ∙ named_behind c.self.inside.bundles.items (vec_len c.self.inside.bundles) _ _ c.is_empty-else-not-is_empty.result (omega (arith, c.self.inside.bundles.ok.0)) c.is_empty-else-not-is_empty.ensures c.if-not-is_empty-2.false
    ∙ named_here c.self.inside.direct.items (vec_len c.self.inside.direct) _ _ c.is_empty-else-not-is_empty-2.result (omega (arith, c.self.inside.direct.ok.0)) c.is_empty-else-not-is_empty-2.ensures c.if-not-is_empty-3.true)

pub returns-then-not-is_empty-4 : goal.returns-then-not-is_empty-4
returns-then-not-is_empty-4 c =
    sym (
    ap first_other (sym c.self.view_is) ∙ other_is _ _ _ _ c.self.inside.selection c.self.inside.texts c.self.invariant
    ∙ named_behind c.self.inside.versions.items (vec_len c.self.inside.versions) _ _ c.is_empty.result (omega (arith, c.self.inside.versions.ok.0)) c.is_empty.ensures c.if-not-is_empty.false
    ∙ named_behind c.self.inside.bundles.items (vec_len c.self.inside.bundles) _ _ c.is_empty-else-not-is_empty.result (omega (arith, c.self.inside.bundles.ok.0)) c.is_empty-else-not-is_empty.ensures c.if-not-is_empty-2.false
    ∙ named_behind c.self.inside.direct.items (vec_len c.self.inside.direct) _ _ c.is_empty-else-not-is_empty-2.result (omega (arith, c.self.inside.direct.ok.0)) c.is_empty-else-not-is_empty-2.ensures c.if-not-is_empty-3.false
    ∙ named_here c.self.inside.selection (length c.self.inside.selection) _ _ c.is_empty-else-not-is_empty-3.result refl c.is_empty-else-not-is_empty-3.ensures c.if-not-is_empty-4.true)

pub returns-then-not-is_empty-5 : goal.returns-then-not-is_empty-5
returns-then-not-is_empty-5 c =
    sym (
    ap first_other (sym c.self.view_is) ∙ other_is _ _ _ _ c.self.inside.selection c.self.inside.texts c.self.invariant
    ∙ named_behind c.self.inside.versions.items (vec_len c.self.inside.versions) _ _ c.is_empty.result (omega (arith, c.self.inside.versions.ok.0)) c.is_empty.ensures c.if-not-is_empty.false
    ∙ named_behind c.self.inside.bundles.items (vec_len c.self.inside.bundles) _ _ c.is_empty-else-not-is_empty.result (omega (arith, c.self.inside.bundles.ok.0)) c.is_empty-else-not-is_empty.ensures c.if-not-is_empty-2.false
    ∙ named_behind c.self.inside.direct.items (vec_len c.self.inside.direct) _ _ c.is_empty-else-not-is_empty-2.result (omega (arith, c.self.inside.direct.ok.0)) c.is_empty-else-not-is_empty-2.ensures c.if-not-is_empty-3.false
    ∙ named_behind c.self.inside.selection (length c.self.inside.selection) _ _ c.is_empty-else-not-is_empty-3.result refl c.is_empty-else-not-is_empty-3.ensures c.if-not-is_empty-4.false
    ∙ named_here c.self.inside.texts (length c.self.inside.texts) _ _ c.is_empty-else-not-is_empty-4.result refl c.is_empty-else-not-is_empty-4.ensures c.if-not-is_empty-5.true)

pub returns-else-not-is_empty-5 : goal.returns-else-not-is_empty-5
returns-else-not-is_empty-5 c =
    sym (
    ap first_other (sym c.self.view_is) ∙ other_is _ _ _ _ c.self.inside.selection c.self.inside.texts c.self.invariant
    ∙ named_behind c.self.inside.versions.items (vec_len c.self.inside.versions) _ _ c.is_empty.result (omega (arith, c.self.inside.versions.ok.0)) c.is_empty.ensures c.if-not-is_empty.false
    ∙ named_behind c.self.inside.bundles.items (vec_len c.self.inside.bundles) _ _ c.is_empty-else-not-is_empty.result (omega (arith, c.self.inside.bundles.ok.0)) c.is_empty-else-not-is_empty.ensures c.if-not-is_empty-2.false
    ∙ named_behind c.self.inside.direct.items (vec_len c.self.inside.direct) _ _ c.is_empty-else-not-is_empty-2.result (omega (arith, c.self.inside.direct.ok.0)) c.is_empty-else-not-is_empty-2.ensures c.if-not-is_empty-3.false
    ∙ named_behind c.self.inside.selection (length c.self.inside.selection) _ _ c.is_empty-else-not-is_empty-3.result refl c.is_empty-else-not-is_empty-3.ensures c.if-not-is_empty-4.false
    ∙ named_behind c.self.inside.texts (length c.self.inside.texts) _ _ c.is_empty-else-not-is_empty-4.result refl c.is_empty-else-not-is_empty-4.ensures c.if-not-is_empty-5.false)

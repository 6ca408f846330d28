use Rattle.std.proofs.Common.{◌∙◌, ap, sym, List}
use Rattle.desk_base.specs.Names.{segments, dot}
use Rattle.desk_packages.specs.Renames.{Renaming, has_source}
use Rattle.desk_rules.specs.Rules.{Rules}
use Rattle.desk_rules.proofs.Beginnings.{no_source}
use Rattle.desk_rules.proofs.rule_set.RuleSet.is_source.Goals as goal

pub returns-then-begins : goal.returns-then-begins
returns-then-begins c =
    c.is_source.ensures
    ∙ ap (λ (rs : List Renaming). has_source rs (segments dot c.args.text.now)) c.deref.ensures.value
    ∙ ap (λ (r : Rules). has_source r.renames (segments dot c.args.text.now)) c.self.view_is

pub returns-else-begins : goal.returns-else-begins
returns-else-begins c = c.if-begins.false ∙ sym (
    ap (λ (r : Rules). has_source r.renames (segments dot c.args.text.now)) (sym c.self.view_is)
    ∙ no_source c.self.inside.renames.items c.self.invariant.table c.self.inside.firsts c.self.invariant.firsts_are (segments dot c.args.text.now) (sym c.begins.ensures ∙ c.if-begins.false))

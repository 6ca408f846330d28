use Rattle.std.proofs.Common.{◌∙◌, ap, sym, Some, None, List, ℕ, cond}
use Rattle.std.specs.Prelude.{option_map}
use Rattle.std.specs.List.{find}
use Rattle.std.specs.Str.{bytes_eq}
use Rattle.desk_base.specs.Names.{Text}
use Rattle.desk_rules.specs.Rules.{Rules, Versions}
use Rattle.desk_rules.specs.RuleSets.{version_of}
use Rattle.desk_rules.specs.Sides.{exports}
use Rattle.desk_rules.proofs.TextMaps.{found_value}
use Rattle.desk_rules.proofs.rule_set.RuleSet.version.Goals as goal

pub returns-in-None : goal.returns-in-None
returns-in-None c =
    sym (ap (λ (r : Rules). version_of r.versions c.args.«package».now (exports c.args.side)) (sym c.self.view_is)
    ∙ ap (option_map (λ (v : Versions). cond (exports c.args.side) v.exported v.imported)) (found_value c.self.inside.versions.items c.args.«package».now None (c.in-None.ensures ∙ ap (find (λ (e : Text × Versions). bytes_eq e.0 c.args.«package».now)) c.deref.ensures.value)))

pub returns-in-Some : goal.returns-in-Some
returns-in-Some c =
    sym (ap (λ (r : Rules). version_of r.versions c.args.«package».now (exports c.args.side)) (sym c.self.view_is)
    ∙ ap (option_map (λ (v : Versions). cond (exports c.args.side) v.exported v.imported)) (found_value c.self.inside.versions.items c.args.«package».now (Some c.in-Some.rule.now) (c.in-Some.ensures ∙ ap (find (λ (e : Text × Versions). bytes_eq e.0 c.args.«package».now)) c.deref.ensures.value))
    ∙ ap (λ (t : List ℕ). Some t) (sym c.version.ensures))

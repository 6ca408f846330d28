use Rattle.std.proofs.Common.{◌∙◌, ap}
use Rattle.desk_base.specs.Names.{segments}
use Rattle.desk_packages.specs.Keys.{byte_of}
use Rattle.desk_rules.specs.Rules.{Rules}
use Rattle.desk_rules.specs.Firsts.{begins_as}
use Rattle.desk_rules.proofs.Beginnings.{begins_same}
use Rattle.desk_rules.proofs.rule_set.RuleSet.begins.Goals as goal

pub returns : goal.returns
returns c =
    c.begins.ensures ∙ begins_same c.self.inside.renames.items c.self.inside.firsts c.self.invariant.firsts_are (segments (byte_of c.args.separator) c.args.path.now)
    ∙ ap (λ (r : Rules). begins_as r.renames (segments (byte_of c.args.separator) c.args.path.now)) c.self.view_is

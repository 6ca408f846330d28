use Rattle.std.proofs.Common.{◌∙◌, List, ap}
use Rattle.desk_base.specs.Names.{Text, segments}
use Rattle.desk_packages.specs.Keys.{byte_of}
use Rattle.desk_rules.specs.Firsts.{begins_in}
use Rattle.desk_rules.proofs.Beginnings.{begins_by}
use Rattle.desk_rules.proofs.firsts.FirstSegments.begins.Goals as goal

pub returns : goal.returns
returns c =
    c.is_some.ensures
    ∙ begins_by c.deref.result.now (segments (byte_of c.args.separator) c.args.path.now) c.first_of-first.result.now c.place_of.result (rw c.byte.ensures at c.first_of-first.ensures) c.place_of.ensures
    ∙ ap (λ (firsts : List Text). begins_in firsts (segments (byte_of c.args.separator) c.args.path.now)) (c.deref.ensures.value ∙ c.self.view_is)

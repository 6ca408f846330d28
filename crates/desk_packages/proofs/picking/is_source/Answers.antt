use Rattle.std.proofs.Common.{◌∙◌}
use Rattle.desk_packages.specs.Keys.{byte_of}
use Rattle.desk_packages.proofs.Sources.{separates}
use Rattle.desk_packages.proofs.HasSource.{source_exact, source_below}
use Rattle.desk_packages.proofs.picking.is_source.Goals as goal

pub returns-in-Some : goal.returns-in-Some
returns-in-Some c = source_exact c.args.renames.now c.requires (byte_of c.args.separator) (separates c.args.separator) c.args.path.now _ c.in-Some.ensures

pub returns-in-None : goal.returns-in-None
returns-in-None c =
    c.is_some.ensures
    ∙ source_below c.args.renames.now c.requires (byte_of c.args.separator) (separates c.args.separator) c.args.path.now (λ r. r.now) c.find-in-None.result c.in-None.ensures c.find-in-None.ensures

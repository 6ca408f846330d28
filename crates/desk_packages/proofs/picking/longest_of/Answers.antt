use Rattle.desk_packages.specs.Keys.{byte_of}
use Rattle.desk_packages.proofs.Sources.{separates}
use Rattle.desk_packages.proofs.LastBelow.{longest_by}
use Rattle.desk_packages.proofs.picking.longest_of.Goals as goal

pub returns : goal.returns
returns c = record { longest = longest_by c.args.renames.now c.requires (byte_of c.args.separator) (separates c.args.separator) c.args.path.now (λ r. r.now) c.longest_sought.result c.longest_sought.ensures }

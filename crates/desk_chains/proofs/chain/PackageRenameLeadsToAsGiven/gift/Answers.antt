use Rattle.std.proofs.Common.{Bool, ◌&&◌, ◌||◌}
use Rattle.desk_base.specs.Names.{Package, same, begins_with}
use Rattle.desk_packages.specs.Renames.{Renaming, changes}
use Rattle.desk_chains.proofs.Gifts.{gift_told}
use Rattle.desk_chains.proofs.chain.PackageRenameLeadsToAsGiven.gift.Goals as goal

pub returns : goal.returns
returns c = gift_told changes (λ (b : Bool) (p : Package) (s : Renaming). same p s.source || (s.below && begins_with p s.source) || (b && begins_with s.source p)) c.args.self.now c.gift_of.result c.gift_of.ensures

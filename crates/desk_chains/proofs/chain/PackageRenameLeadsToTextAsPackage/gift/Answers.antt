use Rattle.std.proofs.Common.{Bool}
use Rattle.desk_base.specs.Names.{Package, front}
use Rattle.desk_packages.specs.Renames.{Renaming, changes, covers}
use Rattle.desk_chains.proofs.Gifts.{gift_told}
use Rattle.desk_chains.proofs.chain.PackageRenameLeadsToTextAsPackage.gift.Goals as goal

pub returns : goal.returns
returns c = gift_told changes (λ (b : Bool) (p : Package) (s : Renaming). covers b p (front s.source)) c.args.self.now c.gift_of.result c.gift_of.ensures

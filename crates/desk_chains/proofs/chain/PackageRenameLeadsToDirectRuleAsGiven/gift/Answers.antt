use Rattle.std.proofs.Common.{Bool, ◌&&◌}
use Rattle.desk_base.specs.Names.{Package, is_dotted, front, segments, dot}
use Rattle.desk_packages.specs.Renames.{covers}
use Rattle.desk_entries.specs.Exchanges.{Exchange, alters}
use Rattle.desk_chains.proofs.Gifts.{gift_told}
use Rattle.desk_chains.proofs.chain.PackageRenameLeadsToDirectRuleAsGiven.gift.Goals as goal

pub returns : goal.returns
returns c = gift_told alters (λ (b : Bool) (p : Package) (e : Exchange). is_dotted e.0 && covers b p (front (segments dot e.0))) c.args.self.now c.gift_of.result c.gift_of.ensures

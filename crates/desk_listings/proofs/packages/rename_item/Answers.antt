use Rattle.std.proofs.Common.{◌∙◌, sym, subst}
use Rattle.desk_rules.specs.Images.{IsImage}
use Rattle.desk_listings.specs.Images.{package_image}
use Rattle.desk_listings.proofs.Items.{other_stays, package_stays}
use Rattle.desk_listings.proofs.packages.rename_item.Goals as goal

pub returns-then-not-is_dotted : goal.returns-then-not-is_dotted
returns-then-not-is_dotted c =
    other_stays c.args.rules.now.renames c.args.item.now c.trim_blanks-name.result.now c.trim_blanks-name.ensures.trimmed (sym c.is_dotted.ensures ∙ c.if-not-is_dotted.true)

pub returns-in-None : goal.returns-in-None
returns-in-None c =
    package_stays c.args.rules.now.renames c.args.item.now c.trim_blanks-name.result.now c.trim_blanks-name.ensures.trimmed
    (subst (IsImage c.trim_blanks-name.result.now (package_image c.args.rules.now.renames c.trim_blanks-name.result.now)) c.in-None.is c.in_ok-rename_dotted_package.ensures.image)

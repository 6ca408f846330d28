use Rattle.std.proofs.Common.{sym, ap, Option}
use Rattle.std.specs.Prelude.{unwrap_or}
use Rattle.desk_base.specs.Names.{Text}
use Rattle.desk_rules.specs.Images.{renamed_string, str}
use Rattle.desk_rename.proofs.Finished.{image_along}
use Rattle.desk_rename.proofs.strings.rename_string.Goals as goal

pub returns-in-None-clause-image : goal.returns-in-None-clause-image
returns-in-None-clause-image c =
    image_along c.args.text.now (renamed_string c.args.rules.now.renames c.args.text.now) (str c.args.rules.now c.args.text.now)
    (ap (λ (o : Option Text). unwrap_or o (renamed_string c.args.rules.now.renames c.args.text.now)) (sym c.in-None.ensures.answer)) c.rename_by_renames.result c.rename_by_renames.ensures

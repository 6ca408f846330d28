use Rattle.std.proofs.Common.{◌∙◌, sym, subst}
use Rattle.desk_rules.specs.Images.{IsImage, dotted}
use Rattle.desk_manifest.proofs.ClassNames.{class_stays}
use Rattle.desk_manifest.proofs.values.rename_class_name.Goals as goal

pub returns-in-None : goal.returns-in-None
returns-in-None c =
    class_stays c.args.rules.now c.args.value.now c.trim_blanks.result.now (sym c.has_tab.ensures ∙ c.if-has_tab.false) c.trim_blanks.ensures.trimmed
    (subst (IsImage c.trim_blanks.result.now (dotted c.args.rules.now.renames c.trim_blanks.result.now)) c.in-None.is c.in_ok-rename_dotted.ensures.image)

use Rattle.std.proofs.Common.{◌≡◌, ◌∙◌, None, ap, sym}
use Rattle.desk_base.specs.Names.{Text}
use Rattle.desk_textrules.specs.TextImages.{unsettled}
use Rattle.desk_textrules.proofs.Stays.{text_stays}
use Rattle.desk_textrules.proofs.texts.migrate_text.Goals as goal

pub returns-in-None-clause-again : goal.returns-in-None-clause-again
returns-in-None-clause-again c =
    text_stays c.args.there.now c.in_ok-new.new.bytes c.in-None.ensures.sources
    (ap (unsettled c.args.there.now) (sym c.as_bytes.ensures) ∙ sym c.in-None.ensures.first)

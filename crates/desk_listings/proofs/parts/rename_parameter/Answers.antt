use Rattle.std.proofs.Common.{◌∙◌, ap, sym, subst}
use Rattle.std.specs.Prelude.{IfOk}
use Rattle.std.specs.Option.{option_copied}
use Rattle.desk_base.specs.Names.{Text}
use Rattle.desk_lines.specs.Blanks.{trimmed}
use Rattle.desk_rules.specs.Images.{IsImage}
use Rattle.desk_listings.proofs.Parameters.{by_key, versioned_by_key}
use Rattle.desk_listings.proofs.parts.rename_parameter.Goals as goal

pub returns-then-has_version_key : goal.returns-then-has_version_key
returns-then-has_version_key c =
    let part = c.args.part.now in
    let named = c.trim_blanks-key.ensures.trimmed ∙ ap trimmed c.requires.before in
    subst (λ (image : Text). IfOk c.exchange_version.result (IsImage part image))
    (sym (versioned_by_key c.args.rules.now c.args.listing (option_copied c.args.version) part c.trim_blanks-key.result.now named (sym c.has_version_key.ensures ∙ c.if-has_version_key.true)))
    c.exchange_version.ensures

pub returns-then-has_uses_key : goal.returns-then-has_uses_key
returns-then-has_uses_key c =
    let part = c.args.part.now in
    let named = c.trim_blanks-key.ensures.trimmed ∙ ap trimmed c.requires.before in
    subst (λ (image : Text). IfOk c.exchange_uses.result (IsImage part image))
    (sym (by_key c.args.rules.now c.args.listing (option_copied c.args.version) part c.trim_blanks-key.result.now _ _ named
    (sym c.has_version_key.ensures ∙ c.if-has_version_key.false) (sym c.has_uses_key.ensures ∙ c.if-has_uses_key.true)))
    c.exchange_uses.ensures

pub returns : goal.returns
returns c =
    by_key c.args.rules.now c.args.listing (option_copied c.args.version) c.args.part.now c.trim_blanks-key.result.now _ _
    (c.trim_blanks-key.ensures.trimmed ∙ ap trimmed c.requires.before)
    (sym c.has_version_key.ensures ∙ c.if-has_version_key.false) (sym c.has_uses_key.ensures ∙ c.if-has_uses_key.false)

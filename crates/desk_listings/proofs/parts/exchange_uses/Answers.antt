use Rattle.std.proofs.Common.{◌+◌, ◌∙◌, ap, subst}
use Rattle.std.proofs.lemmas.List.{take_rest}
use Rattle.desk_base.specs.Names.{Text}
use Rattle.desk_lines.specs.Blanks.{trimmed}
use Rattle.desk_rules.specs.Images.{IsImage}
use Rattle.desk_clauses.specs.Grammar.{argument, between_blanks, with_argument}
use Rattle.desk_clauses.proofs.Between.{argument_at}
use Rattle.desk_listings.specs.Images.{uses_image}
use Rattle.desk_listings.proofs.Parameters.{uses_stay}
use Rattle.desk_listings.proofs.parts.exchange_uses.Goals as goal

pub returns-in-None : goal.returns-in-None
returns-in-None c =
    let part = c.args.part.now in
    let place = c.args.place in
    let list = c.trim_blanks.result.now in
    let list_is = c.trim_blanks.ensures.trimmed ∙ ap trimmed (take_rest part (place + 1) ∙ (argument_at part place c.requires).1) in
    uses_stay c.args.rules.now.renames part list place c.requires list_is
    (subst (IsImage list (uses_image c.args.rules.now.renames list)) c.in-None.is c.in_ok-rename_uses.ensures)

pub returns-in_ok-image-in-Some : goal.returns-in_ok-image-in-Some
returns-in_ok-image-in-Some c =
    let part = c.args.part.now in
    let place = c.args.place in
    let list = c.trim_blanks.result.now in
    let renames = c.args.rules.now.renames in
    let list_is = c.trim_blanks.ensures.trimmed ∙ ap trimmed (take_rest part (place + 1) ∙ (argument_at part place c.requires).1) in
    let new = subst (IsImage list (uses_image renames list)) c.in-Some.is c.in_ok-rename_uses.ensures in
    subst (λ (image : Text). IsImage part image c.image_or_none.result)
    (c.in_ok-image-in-Some.ensures ∙ ap (λ (t : Text). with_argument (between_blanks t (argument part)) part) (c.as_bytes.ensures ∙ new.0 ∙ ap (uses_image renames) list_is))
    c.image_or_none.ensures

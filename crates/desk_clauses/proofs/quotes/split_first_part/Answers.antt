use Rattle.std.proofs.Common.{◌∙◌, sym, arith, ◌+◌, take, drop, get_or, subst, Some, drop_of_length-le}
use Rattle.std.proofs.lemmas.List.{take_rest, drop_more}
use Rattle.desk_base.specs.Names.{Text}
use Rattle.desk_clauses.specs.Cuts.{IsFirstPart}
use Rattle.desk_clauses.proofs.Firsts.{first_of, first_alone}
use Rattle.desk_clauses.proofs.quotes.split_first_part.Goals as goal

pub returns-then-place-text : goal.returns-then-place-text
returns-then-place-text c =
    let text = c.args.text.now in
    let place = c.mark_place-place.result in
    subst (λ (more : Text). IsFirstPart c.args.mark text (take place text) (Some more)) (sym (take_rest text (place + 1)))
    (first_of c.args.mark text (take place text) (get_or text place 0) (drop (place + 1) text) c.mark_place-place.ensures.before (sym (drop_more text place 0 c.if-place-text.true) ∙ c.mark_place-place.ensures.from))

pub returns-else-place-text : goal.returns-else-place-text
returns-else-place-text c = first_alone c.args.mark c.args.text.now (sym c.mark_place-place.ensures.from ∙ drop_of_length-le c.args.text.now (omega (arith, c.if-place-text.false)))

use Rattle.std.proofs.Common.{◌≡◌, ◌∙◌, ℕ, ap, sym, subst, drop, length}
use Rattle.std.proofs.lemmas.List.{take_rest}
use Rattle.desk_base.specs.Names.{Text}
use Rattle.desk_lines.specs.Blanks.{not_blank, leading_blanks, trimmed_end, trimmed, IsTrimmed}
use Rattle.desk_lines.proofs.Trimming.{is_trimmed}
use Rattle.desk_lines.proofs.Cuts.{drop_until}
use Rattle.desk_lines.proofs.blanks.trim_blanks.Goals as goal

inner_is : (text : Text) (front : ℕ) → front ≡ length (leading_blanks text) → trimmed_end (drop front text) ≡ trimmed text
inner_is text front e = ap trimmed_end (ap (λ (n : ℕ). drop n text) e ∙ drop_until not_blank text)

pub returns-clause-trimmed : goal.returns-clause-trimmed
returns-clause-trimmed c =
    c.trim_trailing_blanks.ensures ∙ ap trimmed_end (take_rest c.args.text.now c.count_leading_blanks-front.result) ∙ inner_is c.args.text.now _ c.count_leading_blanks-front.ensures.count

pub returns-clause-between : goal.returns-clause-between
returns-clause-between c =
    let is = c.trim_trailing_blanks.ensures ∙ ap trimmed_end (take_rest c.args.text.now c.count_leading_blanks-front.result) ∙ inner_is c.args.text.now _ c.count_leading_blanks-front.ensures.count in
    subst (IsTrimmed c.args.text.now) (sym is) (is_trimmed c.args.text.now)

use Rattle.std.proofs.Common.{◌+◌, ◌++◌, ◌∙◌, ap₂}
use Rattle.std.proofs.lemmas.List.{take_rest}
use Rattle.desk_base.specs.Names.{Text}
use Rattle.desk_clauses.specs.Grammar.{between_blanks}
use Rattle.desk_clauses.proofs.Between.{with_argument_is}
use Rattle.desk_clauses.proofs.blanks.with_argument.Goals as goal

pub returns : goal.returns
returns c =
    c.in_ok-append_between_blanks.ensures
    ∙ ap₂ (λ (x y : Text). x ++ between_blanks c.args.new.now y) c.in_ok-image.ensures (take_rest c.args.part.now (c.args.place + 1))
    ∙ with_argument_is c.args.part.now c.args.new.now c.args.place c.requires

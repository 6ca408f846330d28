use Rattle.std.proofs.Common.{◌∙◌, List, String, Global, map, sym, ap, subst}
use Rattle.std.specs.Option.{option_and_then}
use Rattle.std.proofs.lemmas.Result.{IfOk-weaker}
use Rattle.desk_options.specs.Commands.{given_of, texts_of}
use Rattle.desk_options.specs.Joining.{WholeOf}
use Rattle.desk_options.specs.Values.{compare_of_given}
use Rattle.desk_options.proofs.values.compare_values.Goals as goal

pub returns-in-Some : goal.returns-in-Some
returns-in-Some c =
    let whole = subst (WholeOf c.args.words.now) c.in-Some.is c.in_ok-whole.ensures in
    IfOk-weaker c.compare_of_whole.result _ _ (λ values e. e ∙ ap (λ (ss : List (String Global)). compare_of_given (map given_of (texts_of ss))) c.as_slice.ensures.value ∙ sym (ap (option_and_then compare_of_given) whole.1)) c.compare_of_whole.ensures

pub returns-in-None : goal.returns-in-None
returns-in-None c = sym (ap (option_and_then compare_of_given) (subst (WholeOf c.args.words.now) c.in-None.is c.in_ok-whole.ensures))

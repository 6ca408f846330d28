use Rattle.std.proofs.Common.{◌∙◌, subst}
use Rattle.std.proofs.lemmas.Result.{IfOk-weaker}
use Rattle.clap.specs.Words.{app_of, found_of, rows_of}
use Rattle.desk_options.specs.Commands.{texts_of, IsParse}
use Rattle.desk_options.proofs.Clap.{compare_reads, compare_refuses}
use Rattle.desk_options.proofs.parsing.compare_of_whole.Goals as goal

pub returns-in-Some : goal.returns-in-Some
returns-in-Some c =
    let parse = subst (IsParse (app_of c.in_ok-compare_command.field-0) (texts_of c.args.words.now)) c.in-Some.is c.in_ok-matches.ensures in
    IfOk-weaker c.compare_of_matches.result _ _ (λ values e. e ∙ compare_reads (app_of c.in_ok-compare_command.field-0) (texts_of c.args.words.now) (rows_of (found_of c.in-Some.matches)) c.in_ok-compare_command.ensures c.requires parse.0 parse.1) c.compare_of_matches.ensures

pub returns-in-None : goal.returns-in-None
returns-in-None c =
    compare_refuses (app_of c.in_ok-compare_command.field-0) (texts_of c.args.words.now) c.in_ok-compare_command.ensures c.requires
    (subst (IsParse (app_of c.in_ok-compare_command.field-0) (texts_of c.args.words.now)) c.in-None.is c.in_ok-matches.ensures)

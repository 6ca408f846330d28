use Rattle.std.proofs.Common.{◌≡◌, ◌∙◌, sym, ap, Some, None, rules}
use Rattle.std.specs.Prelude.{option_and_then}
use Rattle.desk_folders.specs.Contents.{behind}
use Rattle.desk_folders.proofs.Below.{behind-append}
use Rattle.desk_folders.proofs.listing.behind_both.Goals as goal

pub returns-in_err-rest : goal.returns-in_err-rest
returns-in_err-rest c =
    let none : behind c.args.first.now c.args.text.now ≡ None = search rules in
    search rules ∙ sym (behind-append c.args.first.now c.args.second.now c.args.text.now ∙ ap (option_and_then (behind c.args.second.now)) none)

pub returns : goal.returns
returns c =
    let some : behind c.args.first.now c.args.text.now ≡ Some c.in_ok-rest.rest.now = search rules in
    search rules ∙ sym (behind-append c.args.first.now c.args.second.now c.args.text.now ∙ ap (option_and_then (behind c.args.second.now)) some)

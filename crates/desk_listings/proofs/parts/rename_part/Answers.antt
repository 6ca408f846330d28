use Rattle.std.proofs.Common.{subst, arith}
use Rattle.std.specs.Option.{option_copied}
use Rattle.desk_rules.specs.Images.{IsImage}
use Rattle.desk_listings.specs.Images.{path_image}
use Rattle.desk_listings.proofs.Parameters.{no_parameter, path_stays}
use Rattle.desk_listings.proofs.parts.rename_part.Goals as goal

pub returns-in-None : goal.returns-in-None
returns-in-None c =
    path_stays c.args.rules.now c.args.listing (option_copied c.args.version) c.args.part.now.text.now c.trim_blanks.result.now
    (no_parameter c.args.part.now.text.now c.args.part.now.mark c.args.part.now.marked.from (λ less. omega (arith, less, c.if-mark-text.false)))
    c.trim_blanks.ensures.trimmed
    (subst (IsImage c.trim_blanks.result.now (path_image c.args.rules.now c.args.listing c.trim_blanks.result.now)) c.in-None.is c.in_ok-rename_path.ensures)

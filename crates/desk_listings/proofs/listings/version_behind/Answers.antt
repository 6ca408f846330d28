use Rattle.std.proofs.Common.{sym, ◌∙◌}
use Rattle.std.specs.Option.{option_copied}
use Rattle.desk_listings.proofs.Clauses.{brought_stays, parameter_stays}
use Rattle.desk_listings.proofs.listings.version_behind.Goals as goal
use Rattle.desk_listings.proofs.listings.version_behind.Goals.{then-is_some-via-then-is_some, then-is_some-via-else-is_some+then-is_parameter}

pub returns-then-is_some : goal.returns-then-is_some
returns-then-is_some c =
    elim c.then-is_some.branch [
      | then-is_some-via-then-is_some w ↦ brought_stays c.args.rules.now c.args.listing c.args.version c.args.part.now.text.now (sym c.is_some.ensures ∙ w.if-is_some.true)
      | then-is_some-via-else-is_some+then-is_parameter w ↦
          parameter_stays c.args.rules.now c.args.listing (option_copied c.args.version) c.args.part.now.text.now (sym w.is_parameter.ensures ∙ w.if-is_parameter.true)
    ]

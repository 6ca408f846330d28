-- No image is changed again: there is no chain among all rules.
use Rattle.std.specs.Prelude.{◌≡◌, Option, None}
use Rattle.std.specs.FinMap as finite
use Rattle.desk_chains.specs.Chains.{Chain, first_chain_in}
use Rattle.desk_rules.specs.Rules.{Rules}

-- the first chain among all rules
abbrev pub first_chain : Rules → Option Chain
first_chain rules = first_chain_in rules.renames (finite.entries rules.direct) (finite.entries rules.bundles)

-- there is none
abbrev pub IsSettled : Rules → Type 0
IsSettled rules = first_chain rules ≡ None

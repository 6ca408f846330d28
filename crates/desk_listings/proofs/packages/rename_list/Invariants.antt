use Rattle.std.proofs.Common.{◌==◌}
use Rattle.std.specs.Option.{option_copied}
use Rattle.std.specs.List.{slice_split}
use Rattle.desk_clauses.proofs.Firsts.{left}
use Rattle.desk_clauses.proofs.Walked.{IsGone}
use Rattle.desk_listings.specs.Images.{item_image}
use Rattle.desk_listings.proofs.packages.rename_list.Given as goal

abbrev pub invariant-loop-rest : goal.invariant-loop-rest
invariant-loop-rest l = IsGone (slice_split (λ b. b == 44)) 44 (item_image l.rules.renames) l.list l.edits l.from (option_copied l.rest)

abbrev pub decreases-loop-rest : goal.decreases-loop-rest
decreases-loop-rest l = left (option_copied l.rest)

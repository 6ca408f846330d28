use Rattle.std.proofs.Common.{List, subst}
use Rattle.std.specs.List.Sorted.{IsPermutation}
use Rattle.desk_packages.specs.Renames.{Renaming}
use Rattle.desk_invert.proofs.Exchanges.{are_exchanged}
use Rattle.desk_invert.proofs.Faults.{if_ok}
use Rattle.desk_invert.proofs.exchanged.exchange_all.Goals as goal

pub returns : goal.returns
returns c =
    if_ok _ _ c.parted.result c.parted.ensures (λ parts p. are_exchanged c.args.renames.now c.sort.new.renames.items parts.once.items parts.repeated.items c.requires
    (subst (λ (xs : List Renaming). IsPermutation xs c.sort.new.renames.items) c.in_ok-backs.ensures c.in_ok-sort.ensures.permutation) p)

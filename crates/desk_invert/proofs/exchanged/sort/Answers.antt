use Rattle.std.proofs.Common.{rules}
use Rattle.std.specs.Ordering.{nat_cmp, is_lt}
use Rattle.std.specs.Cmp.Lexicographic.{slice_cmp}
use Rattle.std.proofs.lemmas.Cmp.{nat_list_cmp_total}
use Rattle.std.proofs.lemmas.List.MinMax.{ranks_by}
use Rattle.std.proofs.lemmas.List.Sorted.{answers_always}
use Rattle.desk_packages.specs.Renames.{Renaming, key_of}
use Rattle.desk_invert.proofs.exchanged.sort.Goals as goal

pub returns-clause-sorted : goal.returns-clause-sorted
returns-clause-sorted c =
    c.in_ok-sort_by.ensures.sorted (λ (a b : Renaming). is_lt (slice_cmp nat_cmp (key_of a) (key_of b))) (ranks_by nat_list_cmp_total key_of)
    (answers_always _ _ _ (λ f a r g h. search rules))

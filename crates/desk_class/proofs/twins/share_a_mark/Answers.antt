use Rattle.std.proofs.Common.{◌≢◌, ℕ, ◌+◌, ◌<◌, List, length, get_or, subst}
use Rattle.desk_format.specs.Members.{named_in}
use Rattle.desk_class.proofs.Apart.{no_twins}
use Rattle.desk_class.proofs.twins.share_a_mark.Goals as goal

pub returns : goal.returns
returns c = λ none.
    no_twins (named_in c.args.pool.now.entries) c.args.members.now c.in_ok-marks.marks.items c.sort_unstable.new.self.items c.in_ok-marks.ensures c.sort_unstable.ensures.permutation c.sort_unstable.ensures.sorted
    (subst (λ (xs : List ℕ). (k : ℕ) → k + 1 < length xs → get_or xs k 0 ≢ get_or xs (k + 1) 0) c.as_slice.ensures.value (c.has_equal_neighbours.ensures none))

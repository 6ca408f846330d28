use Rattle.std.proofs.Common.{◌≡◌, map, take}
use Rattle.desk_new_pool.specs.Wants.{numbered}
use Rattle.desk_rewrite.proofs.Listing.{found_of}
use Rattle.desk_rewrite.proofs.wants.numbers_in.Given as goal

abbrev pub invariant-loop-used : goal.invariant-loop-used
invariant-loop-used l = map (numbered l.table.images.items) l.numbers.items ≡ map (found_of l.table) (take l.used-index l.uses)

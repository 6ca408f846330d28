use Rattle.std.proofs.Common.{All, drop}
use Rattle.desk_base.specs.Entries.{Pool}
use Rattle.desk_new_pool.specs.Wants.{IsWanted, wants_of}
use Rattle.desk_new_pool.specs.Refusals.{IsLeastLong}
use Rattle.desk_new_pool.proofs.overlong.least_long.Given as goal

abbrev pub invariant-loop-place : goal.invariant-loop-place
invariant-loop-place l = (pool : Pool) → All (IsWanted pool) l.wants → IsLeastLong (wants_of pool (drop l.place l.wants)) l.least

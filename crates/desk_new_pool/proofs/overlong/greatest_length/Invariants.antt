use Rattle.std.proofs.Common.{◌≡◌, drop}
use Rattle.desk_base.specs.Entries.{Pool, text_at}
use Rattle.desk_format.specs.Split.{wanted}
use Rattle.desk_format.specs.NewClass.{greatest_length}
use Rattle.desk_new_pool.specs.Wants.{wants_of}
use Rattle.desk_new_pool.proofs.overlong.greatest_length.Given as goal

abbrev pub invariant-loop-place : goal.invariant-loop-place
invariant-loop-place l = (pool : Pool) → text_at pool l.index ≡ l.own → l.greatest ≡ greatest_length (wanted l.index (wants_of pool (drop l.place l.wants)))

use Rattle.std.proofs.Common.{◌≡◌, ◌<◌, ℕ, get_or, All, take, vec_len}
use Rattle.desk_base.specs.Entries.{Pool, text_at}
use Rattle.desk_format.specs.Split.{wanted}
use Rattle.desk_new_pool.specs.Keeps.{Keeps}
use Rattle.desk_new_pool.specs.Wants.{IsWanted, wants_of}
use Rattle.desk_new_pool.specs.declared.keeps.Keep.TheVariants as keep
use Rattle.desk_new_pool.proofs.keeps.all_keeps.Given as goal

abbrev pub invariant-loop-place : goal.invariant-loop-place
invariant-loop-place l = record {
  count : vec_len l.keeps ≡ l.count;
  each : (pool : Pool) → All (IsWanted pool) l.wants → (i : ℕ) → i < l.count → Keeps (text_at pool i) (wanted i (wants_of pool (take l.place l.wants))) (get_or l.keeps.items i keep.Unused);
}

use Rattle.std.proofs.Common.{◌≡◌, ◌+◌, ◌≤◌, ◌++◌, length, drop}
use Rattle.desk_base.specs.Limits.{file_size}
use Rattle.desk_format.specs.PoolBytes.{print_slots, pool_uses}
use Rattle.desk_pool.specs.Seen.{seen}
use Rattle.desk_pool.specs.Fits.{slots_fit}
use Rattle.desk_pool.proofs.fitting.uses_if_fitting.Given as goal

abbrev pub invariant-loop-place : goal.invariant-loop-place
invariant-loop-place l = record {
  same : seen l.slots ≡ seen l.fn.slots;
  fit : slots_fit (seen l.fn.slots) (drop l.place (seen l.fn.slots)) ≡ slots_fit (seen l.fn.slots) (seen l.fn.slots);
  rest : l.uses.items ++ pool_uses l.at (drop l.place (seen l.fn.slots)) ≡ pool_uses l.start (seen l.fn.slots);
  room : l.at + length (print_slots (drop l.place (seen l.fn.slots))) ≤ file_size;
}

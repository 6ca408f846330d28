use Rattle.std.proofs.Common.{◌≡◌, ◌+◌, ◌≤◌, length, drop}
use Rattle.desk_base.specs.Limits.{file_size}
use Rattle.desk_format.specs.PoolBytes.{print_slots}
use Rattle.desk_format.specs.PoolReading.{first_fault}
use Rattle.desk_pool.specs.Seen.{seen, check_of}
use Rattle.desk_pool.proofs.passes.first_fault.Given as goal

abbrev pub invariant-loop-slot : goal.invariant-loop-slot
invariant-loop-slot l = record {
  rest : first_fault (check_of l.pass (seen l.slots)) l.at (seen (drop l.slot-index l.slots)) ≡ first_fault (check_of l.pass (seen l.slots)) l.start (seen l.slots);
  room : l.at + length (print_slots (seen (drop l.slot-index l.slots))) ≤ file_size;
}

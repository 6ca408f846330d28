use Rattle.std.proofs.Common.{◌≡◌, ◌+◌, ◌≤◌, false, length}
use Rattle.desk_format.specs.PoolReading.{read_slots}
use Rattle.desk_pool.specs.Seen.{seen, before}
use Rattle.desk_pool.proofs.slots.read_slots.Given as goal

abbrev pub invariant-loop-later : goal.invariant-loop-later
invariant-loop-later l = record {
  goes_on : before (seen l.slots.items) (read_slots l.later l.second l.cursor.at l.cursor.left) ≡ read_slots l.fn.count false l.fn.cursor.at l.fn.cursor.left;
  many : length l.slots.items + l.later ≡ l.fn.count;
  ahead : l.fn.cursor.at ≤ l.cursor.at;
  end : l.cursor.at + length l.cursor.left ≡ l.fn.cursor.at + length l.fn.cursor.left;
}

abbrev pub decreases-loop-later : goal.decreases-loop-later
decreases-loop-later l = l.later

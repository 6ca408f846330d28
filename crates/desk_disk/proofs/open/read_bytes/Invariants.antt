use Rattle.std.proofs.Common.{◌≡◌, ◌≤◌, vec_len}
use Rattle.desk_disk.proofs.open.read_bytes.Given as goal

abbrev pub invariant-loop : goal.invariant-loop
invariant-loop l = record {
  within : l.filled ≤ l.size;
  all : vec_len l.bytes ≡ l.size;
}

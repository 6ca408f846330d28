use Rattle.std.proofs.Common.{◌≡◌, ◌≤◌, ◌-◌, length, take}
use Rattle.desk_disk.proofs.guard.known_end.Given as goal

abbrev pub invariant-loop-shared : goal.invariant-loop-shared
invariant-loop-shared l = record {
  front : take l.shared l.found ≡ take l.shared l.path;
  in_found : l.shared ≤ length l.found;
  in_path : l.shared ≤ length l.path;
}

abbrev pub decreases-loop-shared : goal.decreases-loop-shared
decreases-loop-shared l = length l.found - l.shared

use Rattle.std.proofs.Common.{◌≡◌}
use Rattle.std.specs.FinMap as fin
use Rattle.desk_folders.specs.InMemory.{filled}
use Rattle.desk_folders.proofs.memory.map_of.Given as goal

abbrev pub invariant-loop-file : goal.invariant-loop-file
invariant-loop-file l = record {
  made : fin.from_entries l.map.entries ≡ filled l.yielded fin.empty;
}

use Rattle.std.proofs.Common.{◌≡◌}
use Rattle.desk_base.proofs.TextEntries.{entry_at}
use Rattle.desk_folders.proofs.memory.content_of.Given as goal

abbrev pub invariant-loop-key : goal.invariant-loop-key
invariant-loop-key l = record {
  left : entry_at l.key-iterator l.path ≡ entry_at l.files.entries l.path;
}

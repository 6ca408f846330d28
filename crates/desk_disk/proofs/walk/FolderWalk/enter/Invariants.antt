use Rattle.std.proofs.Common.{◌≤◌}
use Rattle.desk_disk.specs.Disk.{IsLonger, entries}
use Rattle.desk_disk.proofs.walk.FolderWalk.enter.Given as goal

abbrev pub invariant-loop-entry : goal.invariant-loop-entry
invariant-loop-entry l = record {
  longer : IsLonger l.fn.self l.self;
  most : l.fn.self.count ≤ entries → l.self.count ≤ entries;
}

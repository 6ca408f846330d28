use Rattle.std.proofs.Common.{rules}
use Rattle.std.specs.FinMap as fin
use Rattle.desk_folders.proofs.Entries.{filled_more}
use Rattle.desk_folders.proofs.memory.map_of.Goals as goal

pub loop-file-preserved-in_ok-insert : goal.loop-file-preserved-in_ok-insert
loop-file-preserved-in_ok-insert c = record {
  made = filled_more c.loop-file.map.entries c.insert.new.self.entries c.loop-file.yielded c.in-Some.file fin.empty c.loop-file.invariant.made (search rules);
}

pub loop-file-preserved : goal.loop-file-preserved
loop-file-preserved c = record {
  made = filled_more c.loop-file.map.entries c.insert.new.self.entries c.loop-file.yielded c.in-Some.file fin.empty c.loop-file.invariant.made (search rules);
}

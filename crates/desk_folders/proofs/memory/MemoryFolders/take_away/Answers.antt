use Rattle.std.proofs.Common.{None, rules}
use Rattle.desk_folders.proofs.Entries.{one_left, leaves}
use Rattle.desk_folders.proofs.memory.MemoryFolders.take_away.Goals as goal

pub returns : goal.returns
returns c =
    leaves c.self.inside.files.entries c.remove.new.self.entries _ _ _ _ c.args.path.now None _ (one_left _ _ _ None (search rules)) c.self.view_is

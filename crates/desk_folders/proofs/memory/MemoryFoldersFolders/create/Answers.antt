use Rattle.std.proofs.Common.{refl}
use Rattle.desk_base.proofs.Results.{on_err}
use Rattle.desk_folders.proofs.Entries.{ChangesOnly-called}
use Rattle.desk_folders.proofs.memory.MemoryFoldersFolders.create.Goals as goal

pub returns-in_err-empty-clause-err : goal.returns-in_err-empty-clause-err
returns-in_err-empty-clause-err c = on_err _ (ChangesOnly-called c.args.path.now c.args.self.now c.call.new.self c.empty.new.self c.in_err-empty.ensures.err c.call.ensures.called)

pub returns-else-removes-clause-err : goal.returns-else-removes-clause-err
returns-else-removes-clause-err c = ChangesOnly-called c.args.path.now c.args.self.now c.call.new.self c.call.new.self refl c.call.ensures.called

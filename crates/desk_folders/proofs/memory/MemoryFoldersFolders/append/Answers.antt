use Rattle.std.proofs.Common.{Some, ◌++◌, refl}
use Rattle.desk_base.proofs.Results.{on_err}
use Rattle.desk_folders.specs.Contents.{bytes_at}
use Rattle.desk_folders.proofs.Entries.{ChangesOnly-called, ChangesOnly-leaving}
use Rattle.desk_folders.proofs.memory.MemoryFoldersFolders.append.Goals as goal

pub returns-in_err-grow-clause-err : goal.returns-in_err-grow-clause-err
returns-in_err-grow-clause-err c = on_err _ (ChangesOnly-called c.args.path.now c.args.self.now c.call.new.self c.grow.new.self c.in_err-grow.ensures.err c.call.ensures.called)

pub returns-in_ok-grow-clause-err : goal.returns-in_ok-grow-clause-err
returns-in_ok-grow-clause-err c =
    ChangesOnly-leaving c.args.path.now (Some (bytes_at c.call.new.self.contents c.args.path.now ++ c.half_of.result.now)) c.args.self.now c.call.new.self c.grow.new.self c.in_ok-grow.ensures.ok c.call.ensures.called

pub returns-in_err-grow-2-clause-err : goal.returns-in_err-grow-2-clause-err
returns-in_err-grow-2-clause-err c = on_err _ (ChangesOnly-called c.args.path.now c.args.self.now c.call.new.self c.grow-2.new.self c.in_err-grow-2.ensures.err c.call.ensures.called)

pub returns-else-adds-clause-err : goal.returns-else-adds-clause-err
returns-else-adds-clause-err c = ChangesOnly-called c.args.path.now c.args.self.now c.call.new.self c.call.new.self refl c.call.ensures.called

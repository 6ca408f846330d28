use Rattle.std.proofs.Common.{ap, ◌+◌}
use Rattle.desk_folders.specs.InMemory.{InMemory}
use Rattle.desk_folders.proofs.FirstPaths.{first_paths, both_ok}
use Rattle.desk_folders.proofs.memory.MemoryFolders.listed.Goals as goal

pub returns : goal.returns
returns c =
    both_ok c.paths_of.result (λ got ordered first. first_paths c.args.root.now (c.args.most + 1) c.self.inside.files.entries got _ ordered first (ap (λ (m : InMemory). m.contents) c.self.view_is))
    c.paths_of.ensures.ordered (rw c.as_bytes.ensures at c.paths_of.ensures.paths)

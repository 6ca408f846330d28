use Rattle.std.proofs.Common.{◌∙◌, ◌+◌, ap, take}
use Rattle.desk_folders.specs.Contents.{paths_below}
use Rattle.desk_folders.specs.InMemory.{InMemory}
use Rattle.desk_folders.proofs.FirstPaths.{listed_paths, listed_rise, listed_relative}
use Rattle.desk_folders.proofs.memory.MemoryFoldersFolders.list.Goals as goal

pub returns-clause-paths : goal.returns-clause-paths
returns-clause-paths c = listed_paths c.args.root.now c.args.most c.in_ok-listed.field-0 c.args.self.now.contents
    (c.in_ok-listed.ensures ∙ ap (λ (m : InMemory). take (c.args.most + 1) (paths_below c.args.root.now m.contents)) c.call.ensures.called)

pub returns-clause-rising : goal.returns-clause-rising
returns-clause-rising c = listed_rise c.args.root.now (c.args.most + 1) c.in_ok-listed.field-0 c.call.new.self.contents c.in_ok-listed.ensures

pub returns-clause-relative : goal.returns-clause-relative
returns-clause-relative c = listed_relative c.args.root.now (c.args.most + 1) c.in_ok-listed.field-0 c.call.new.self.contents c.in_ok-listed.ensures

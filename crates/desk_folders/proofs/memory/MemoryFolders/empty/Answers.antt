use Rattle.std.proofs.Common.{◌≡◌, ◌∙◌, ap, Some, [], rules}
use Rattle.desk_folders.specs.InMemory.{leaving}
use Rattle.desk_folders.proofs.Entries.{one_left, leaves}
use Rattle.desk_folders.proofs.memory.MemoryFolders.empty.Goals as goal

pub returns-clause-ok : goal.returns-clause-ok
returns-clause-ok c =
    let key : c.in_ok-key.key ≡ c.args.path.now = search rules in
    leaves c.self.inside.files.entries c.insert.new.self.entries _ _ _ _ c.in_ok-key.key (Some []) _ (one_left _ _ _ (Some []) (search rules)) c.self.view_is
    ∙ ap (λ k. leaving k (Some []) c.args.self.now) key

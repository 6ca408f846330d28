use Rattle.std.proofs.Common.{◌∙◌, sym, ap}
use Rattle.std.specs.FinMap as map
use Rattle.desk_base.proofs.TextEntries.{get_text}
use Rattle.desk_folders.specs.InMemory.{InMemory}
use Rattle.desk_folders.proofs.memory.MemoryFolders.content.Goals as goal

pub returns : goal.returns
returns c =
    c.content_of.ensures ∙ sym (get_text c.self.inside.files.entries c.args.path.now) ∙ ap (λ (m : InMemory). map.get m.contents c.args.path.now) c.self.view_is

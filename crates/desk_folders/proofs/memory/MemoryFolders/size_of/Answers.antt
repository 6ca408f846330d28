use Rattle.std.proofs.Common.{◌≡◌, ◌∙◌, ap, sym, length, Some, None, rules}
use Rattle.std.specs.Prelude.{option_map}
use Rattle.std.specs.FinMap as map
use Rattle.desk_base.specs.Names.{Text}
use Rattle.desk_base.proofs.TextEntries.{get_text}
use Rattle.desk_folders.specs.Contents.{size_at}
use Rattle.desk_folders.specs.InMemory.{InMemory}
use Rattle.desk_folders.proofs.memory.MemoryFolders.size_of.Goals as goal

pub returns-in-Some : goal.returns-in-Some
returns-in-Some c =
    let had : map.get (map.from_entries c.self.inside.files.entries) c.args.path.now ≡ Some c.in-Some.content.now = get_text c.self.inside.files.entries c.args.path.now ∙ search rules in
    let bytes : c.as_bytes.result.now ≡ c.in-Some.content.now = search rules in
    ap (λ (b : Text). Some (length b)) bytes ∙ ap (option_map (λ (b : Text). length b)) (sym had) ∙ ap (λ (m : InMemory). size_at m.contents c.args.path.now) c.self.view_is

pub returns-in-None : goal.returns-in-None
returns-in-None c =
    let had : map.get (map.from_entries c.self.inside.files.entries) c.args.path.now ≡ None = get_text c.self.inside.files.entries c.args.path.now ∙ search rules in
    ap (option_map (λ (b : Text). length b)) (sym had) ∙ ap (λ (m : InMemory). size_at m.contents c.args.path.now) c.self.view_is

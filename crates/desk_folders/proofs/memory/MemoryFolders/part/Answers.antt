use Rattle.std.proofs.Common.{rules, arith, ◌≡◌, ◌∙◌, ap, sym, Some, None, []}
use Rattle.std.proofs.lemmas.Grind.{common_steps}
use Rattle.std.specs.FinMap as map
use Rattle.desk_base.proofs.TextEntries.{get_text}
use Rattle.desk_folders.specs.Contents.{bytes_at}
use Rattle.desk_folders.specs.InMemory.{InMemory}
use Rattle.desk_folders.proofs.memory.MemoryFolders.part.Goals as goal

pub returns-in-Some : goal.returns-in-Some
returns-in-Some c =
    let had : map.get (map.from_entries c.self.inside.files.entries) c.args.path.now ≡ Some c.in-Some.content.now = get_text c.self.inside.files.entries c.args.path.now ∙ search rules in
    let there : bytes_at (map.from_entries c.self.inside.files.entries) c.args.path.now ≡ c.in-Some.content.now = rw had in
    let same : bytes_at c.args.self.now.contents c.args.path.now ≡ c.in-Some.content.now = ap (λ (m : InMemory). bytes_at m.contents c.args.path.now) (sym c.self.view_is) ∙ there in
    rw same (search rules)

pub returns-in-None : goal.returns-in-None
returns-in-None c =
    let had : map.get (map.from_entries c.self.inside.files.entries) c.args.path.now ≡ None = get_text c.self.inside.files.entries c.args.path.now ∙ search rules in
    let there : bytes_at (map.from_entries c.self.inside.files.entries) c.args.path.now ≡ [] = rw had in
    let same : bytes_at c.args.self.now.contents c.args.path.now ≡ [] = ap (λ (m : InMemory). bytes_at m.contents c.args.path.now) (sym c.self.view_is) ∙ there in
    c.empty.ensures ∙ rw same (grind (arith, common_steps))

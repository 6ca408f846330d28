use Rattle.std.proofs.Common.{◌≡◌, ◌∙◌, ap, sym, ◌++◌, Some, None, IsSome, true, rules}
use Rattle.std.specs.Prelude.{is_some}
use Rattle.std.specs.FinMap as map
use Rattle.desk_base.specs.Names.{Text}
use Rattle.desk_base.proofs.Results.{on_err}
use Rattle.desk_base.proofs.TextEntries.{get_text}
use Rattle.desk_folders.specs.Contents.{Contents, bytes_at, setting}
use Rattle.desk_folders.specs.InMemory.{InMemory, leaving}
use Rattle.desk_folders.proofs.Entries.{one_left, setting-same, leaves}
use Rattle.desk_folders.proofs.memory.MemoryFolders.grow.Goals as goal

pub returns-in_err-append-clause-err : goal.returns-in_err-append-clause-err
returns-in_err-append-clause-err c =
    let es = c.self.inside.files.entries in
    let had : map.get (map.from_entries es) c.args.path.now ≡ Some c.in-Some.content.now = get_text es c.args.path.now ∙ search rules in
    let now = one_left es (c.get_mut.follows.lender c.append.new.self).entries c.args.path.now (Some c.append.new.self) ((c.get_mut.follows.holds c.append.new.self).3 (search rules)).0 in
    let same : setting c.args.path.now (Some c.append.new.self) (map.from_entries es) ≡ map.from_entries es =
    ap (λ x. setting c.args.path.now (Some x) (map.from_entries es)) c.in_err-append.ensures.err ∙ setting-same _ _ _ had in
    on_err _ (ap (λ (m : Contents). record { contents = m; faults = c.self.inside.faults; calls = c.self.inside.calls; failing = c.self.inside.failing.items; stop = c.self.inside.stop }) (now ∙ same) ∙ c.self.view_is)

pub returns-clause-ok : goal.returns-clause-ok
returns-clause-ok c =
    let es = c.self.inside.files.entries in
    let now = one_left es (c.get_mut.follows.lender c.append.new.self).entries c.args.path.now (Some c.append.new.self) ((c.get_mut.follows.holds c.append.new.self).3 (search rules)).0 in
    let had : map.get (map.from_entries es) c.args.path.now ≡ Some c.in-Some.content.now = get_text es c.args.path.now ∙ search rules in
    let grown : c.append.new.self ≡ bytes_at (map.from_entries es) c.args.path.now ++ c.args.bytes.now = rw had (search rules) in
    leaves es (c.get_mut.follows.lender c.append.new.self).entries _ _ _ _ c.args.path.now (Some c.append.new.self) _ now c.self.view_is
    ∙ ap (λ b. leaving c.args.path.now (Some b) c.args.self.now) grown
    ∙ ap (λ (m : InMemory). leaving c.args.path.now (Some (bytes_at m.contents c.args.path.now ++ c.args.bytes.now)) c.args.self.now) c.self.view_is

pub unreachable-requires : goal.unreachable-requires
unreachable-requires c =
    let es = c.self.inside.files.entries in
    let had : map.get (map.from_entries es) c.args.path.now ≡ None = get_text es c.args.path.now ∙ search rules in
    let none : map.get c.args.self.now.contents c.args.path.now ≡ None = ap (λ (m : InMemory). map.get m.contents c.args.path.now) (sym c.self.view_is) ∙ had in
    let there : IsSome (map.get c.args.self.now.contents c.args.path.now) = c.requires in
    let no : is_some {T = Text} None ≡ true = rw none at there in
    absurd (cc)

use Rattle.std.proofs.Common.{◌≡◌, ◌∙◌, true, sym, Result, Ok, Err, IfOk}
use Rattle.desk_base.specs.Names.{Text}
use Rattle.desk_base.specs.declared.Memory.{Memory}
use Rattle.desk_patterns.specs.Selections.{selects}
use Rattle.desk_rules.specs.Rules.{Rules}
use Rattle.desk_paths.specs.Paths.{renamed_path, target}
use Rattle.desk_paths.specs.Kinds.{RenamedStays, TargetStays}
use Rattle.desk_paths.proofs.TargetLaws.{target_selected, target_other, selected_stays, other_stays}
use Rattle.desk_paths.proofs.places.CutPath.target.Goals as goal

found_along : (text other : Text) → other ≡ text → (r : Result Text Memory) → IfOk r (λ found. found ≡ text) → IfOk r (λ found. found ≡ other)
found_along text other e (Ok found) h = h ∙ sym e
found_along text other e (Err m) h = tt

on_found : (r : Result Text Memory) (P : Type 0) → P → IfOk r (λ found. P)
on_found (Ok found) P h = h
on_found (Err m) P h = tt

stays : (rules : Rules) (path : Text) → selects rules.selection path ≡ true → (r : Result Text Memory) → IfOk r (λ found. RenamedStays rules.renames path) → IfOk r (λ found. TargetStays rules path)
stays rules path e (Ok found) h = selected_stays rules path e h
stays rules path e (Err m) h = tt

pub returns-then-selected-clause-target : goal.returns-then-selected-clause-target
returns-then-selected-clause-target c =
    found_along (renamed_path c.args.rules.now.renames c.args.self.now) (target c.args.rules.now c.args.self.now)
    (target_selected c.args.rules.now c.args.self.now (sym c.requires ∙ c.if-selected.true)) c.renamed.result c.renamed.ensures.target

pub returns-then-selected-clause-stays : goal.returns-then-selected-clause-stays
returns-then-selected-clause-stays c =
    stays c.args.rules.now c.args.self.now (sym c.requires ∙ c.if-selected.true) c.renamed.result c.renamed.ensures.stays

pub returns-else-selected-clause-target : goal.returns-else-selected-clause-target
returns-else-selected-clause-target c =
    found_along c.self.inside.path.now (target c.args.rules.now c.args.self.now)
    (target_other c.args.rules.now c.args.self.now (sym c.requires ∙ c.if-selected.false) ∙ sym c.self.view_is) c.from_bytes.result c.from_bytes.ensures

pub returns-else-selected-clause-stays : goal.returns-else-selected-clause-stays
returns-else-selected-clause-stays c =
    on_found c.from_bytes.result (TargetStays c.args.rules.now c.args.self.now) (other_stays c.args.rules.now c.args.self.now (sym c.requires ∙ c.if-selected.false))

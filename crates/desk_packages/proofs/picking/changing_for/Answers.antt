use Rattle.std.proofs.Common.{sym, ◌∙◌, Option, Some, None, MatchOption}
use Rattle.desk_base.specs.Names.{segments}
use Rattle.desk_packages.specs.Keys.{byte_of, IsChanging, NoneChanging, IsNoneBeyond}
use Rattle.desk_packages.proofs.Sources.{separates}
use Rattle.desk_packages.proofs.Changed.{changing_exact, none_at_all, none_but}
use Rattle.desk_packages.proofs.picking.changing_for.Goals as goal
use Rattle.desk_packages.proofs.picking.changing_for.Goals.{in_default-via-in-Some+else-changes, in_default-via-in_default}

-- what follows where there is none
where_none : {R : Type 0} (o : Option R) (P A : Type 0) (Q : R → Type 0) → MatchOption o P Q → (P → A) → MatchOption o A Q
where_none None P A Q h f = f h
where_none (Some x) P A Q h f = h

pub returns-in-Some : goal.returns-in-Some
returns-in-Some c =
    changing_exact c.args.renames.now c.requires (byte_of c.args.separator) (separates c.args.separator) c.args.path.now c.in-Some.rename.now c.in-Some.ensures
    (sym c.changes.ensures ∙ c.if-changes.true)

pub returns-in_default : goal.returns-in_default
returns-in_default c =
    let s = byte_of c.args.separator in
    where_none c.changing_below.result (IsNoneBeyond c.args.renames.now s c.args.path.now 0) (NoneChanging c.args.renames.now (segments s c.args.path.now)) (λ r. IsChanging c.args.renames.now (segments s c.args.path.now) r.now)
    c.changing_below.ensures
    (elim c.in_default.branch [
      | in_default-via-in-Some+else-changes w ↦
          none_but c.args.renames.now c.requires s (separates c.args.separator) c.args.path.now w.in-Some.rename.now w.in-Some.ensures (sym w.changes.ensures ∙ w.if-changes.false)
      | in_default-via-in_default w ↦ none_at_all c.args.renames.now c.requires s (separates c.args.separator) c.args.path.now w.in_default.ensures
    ])

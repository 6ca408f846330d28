-- The target of a target is itself, with its class root and kind.
use Rattle.std.proofs.Common.{◌≡◌, ◌∙◌, Bool, true, false, cond, sym, ap, ◌⊎◌, inl, inr}
use Rattle.std.proofs.lemmas.Bool.{cases_Bool}
use Rattle.desk_base.specs.Names.{Text}
use Rattle.desk_patterns.specs.Selections.{selects}
use Rattle.desk_rules.specs.Rules.{Rules}
use Rattle.desk_rules.specs.RuleSets.{IsRuleSet}
use Rattle.desk_rules.proofs.Laws.{packages_stay, dotted_stay, dotted_keep_form}
use Rattle.desk_paths.specs.Paths.{renamed_path, target, root_of}
use Rattle.desk_paths.specs.Kinds.{RenamedStays, TargetStays, kind_of}
use Rattle.desk_paths.specs.Walks.{Stay}
use Rattle.desk_paths.proofs.Stays.{renamed_stays}

-- the target of a selected file
pub target_selected : (rules : Rules) (path : Text) → selects rules.selection path ≡ true → target rules path ≡ renamed_path rules.renames path
unfolding target
target_selected rules path e = ap (λ (b : Bool). cond b (renamed_path rules.renames path) path) e

-- the target of another file
pub target_other : (rules : Rules) (path : Text) → selects rules.selection path ≡ false → target rules path ≡ path
unfolding target
target_other rules path e = ap (λ (b : Bool). cond b (renamed_path rules.renames path) path) e

-- the target of the target of a selected file, which may be unselected there
again : (rules : Rules) (path : Text) → selects rules.selection path ≡ true → RenamedStays rules.renames path → target rules (target rules path) ≡ target rules path
again rules path e h =
    let is : target rules path ≡ renamed_path rules.renames path = target_selected rules path e in
    ap (target rules) is ∙ there (cases_Bool (selects rules.selection (renamed_path rules.renames path))) ∙ sym is
  where
    there : ((selects rules.selection (renamed_path rules.renames path) ≡ true) ⊎ (selects rules.selection (renamed_path rules.renames path) ≡ false)) → target rules (renamed_path rules.renames path) ≡ renamed_path rules.renames path
    there (inl yes_it) = target_selected rules (renamed_path rules.renames path) yes_it ∙ h.again
    there (inr no_it) = target_other rules (renamed_path rules.renames path) no_it

pub selected_stays : (rules : Rules) (path : Text) → selects rules.selection path ≡ true → RenamedStays rules.renames path → TargetStays rules path
selected_stays rules path e h = record {
  again = again rules path e h;
  same_root = ap root_of (target_selected rules path e) ∙ h.same_root;
  same_kind = ap kind_of (target_selected rules path e) ∙ h.same_kind;
}

pub other_stays : (rules : Rules) (path : Text) → selects rules.selection path ≡ false → TargetStays rules path
other_stays rules path e = record {
  again = ap (target rules) (target_other rules path e);
  same_root = ap root_of (target_other rules path e);
  same_kind = ap kind_of (target_other rules path e);
}

-- what paths need of the renames of a rule set
pub stay : (rules : Rules) → IsRuleSet rules → Stay rules.renames
stay rules is = record { formed = is.formed; packages = packages_stay rules is; dotted = dotted_stay rules is; form = dotted_keep_form rules is }

-- the target of each path
pub target_stays : (rules : Rules) → IsRuleSet rules → (path : Text) → TargetStays rules path
target_stays rules is path = elim (cases_Bool (selects rules.selection path)) [
  | inl selected ↦ selected_stays rules path selected (renamed_stays rules.renames (stay rules is) path)
  | inr other ↦ other_stays rules path other
]

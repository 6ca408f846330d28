-- Whether a bundle gets another name, by the update that is found for it.
use Rattle.std.proofs.Common.{◌≡◌, Bool, true, false, cond, List, Some, None, sym, ap, ◌∙◌}
use Rattle.std.specs.FinMap as finite
use Rattle.std.specs.List.{find}
use Rattle.std.specs.Str.{bytes_eq}
use Rattle.std.proofs.lemmas.Bool.{not-true, not-false}
use Rattle.std.proofs.lemmas.Slice.Eq.{bytes_eq-Decides}
use Rattle.desk_base.specs.Names.{Text}
use Rattle.desk_entries.specs.Exchanges.{BundleUpdate, renames_bundle}
use Rattle.desk_rules.specs.RuleSets.{changing_update, only_other_name}
use Rattle.desk_packages.proofs.Picks.{Found, find_Some}
use Rattle.desk_rules.proofs.TextMaps.{found_value}

module _ (es : List BundleUpdate) (name : Text) where
  pub no_update : None ≡ find (λ (e : BundleUpdate). bytes_eq e.0 name) es → changing_update (finite.from_entries es) name ≡ None
  no_update h = ap (only_other_name name) (found_value es name None h)

  at_name : (r : BundleUpdate) → Some r ≡ find (λ (e : BundleUpdate). bytes_eq e.0 name) es → r.0 ≡ name
  at_name r h =
      let f : Found (λ (e : BundleUpdate). bytes_eq e.0 name) es r = find_Some (λ (e : BundleUpdate). bytes_eq e.0 name) es r (sym h) in
      (bytes_eq-Decides r.0 name).0 f.passes

  pub some_update : (r : BundleUpdate) → Some r ≡ find (λ (e : BundleUpdate). bytes_eq e.0 name) es → renames_bundle r ≡ true → changing_update (finite.from_entries es) name ≡ Some r.1
  some_update r h moves =
      ap (only_other_name name) (found_value es name (Some r) h)
      ∙ ap (λ (b : Bool). cond b None (Some r.1)) (ap (λ (t : Text). bytes_eq t r.1.name) (sym (at_name r h)) ∙ not-true _ moves)

  pub same_update : (r : BundleUpdate) → Some r ≡ find (λ (e : BundleUpdate). bytes_eq e.0 name) es → renames_bundle r ≡ false → changing_update (finite.from_entries es) name ≡ None
  same_update r h stays =
      ap (only_other_name name) (found_value es name (Some r) h)
      ∙ ap (λ (b : Bool). cond b None (Some r.1)) (ap (λ (t : Text). bytes_eq t r.1.name) (sym (at_name r h)) ∙ not-false _ stays)

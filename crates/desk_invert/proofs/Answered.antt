-- What holds of renames of which there is a file of the inverse.
use Rattle.std.proofs.Common.{◌≡◌, List, [], ◌∷◌, Ok, refl, sym, ap, subst, ◌∙◌, inl}
use Rattle.std.specs.List.{filter}
use Rattle.desk_base.specs.Names.{Text}
use Rattle.desk_packages.specs.Renames.{Renaming, changes}
use Rattle.desk_packages.specs.Keys.{IsTable}
use Rattle.desk_packages.proofs.Picks.{In}
use Rattle.desk_packages.proofs.Lookup.{one_of, contained}
use Rattle.desk_rules.specs.Rules.{Rules}
use Rattle.desk_rules.specs.RuleSets.{IsRuleSet}
use Rattle.desk_rules.specs.RuleFiles.{rules_of_files}
use Rattle.desk_invert.specs.Inverse.{inverse, flipped}
use Rattle.desk_invert.specs.Files.{only_renames}
use Rattle.desk_invert.specs.Answers.{inverted}
use Rattle.desk_invert.specs.Laws.{inverse_rules, TakesPackagesBack}
use Rattle.desk_invert.proofs.Inverses.{IsInverse, from_filter}
use Rattle.desk_invert.proofs.Made.{inverse_made, inverse_again}
use Rattle.desk_invert.proofs.Settled.{rule_set}
use Rattle.desk_invert.proofs.Built.{file_builds}
use Rattle.desk_invert.proofs.Back.{packages_back}
use Rattle.desk_invert.proofs.Faults.{HasFile, has_file, undoes_them}

-- where one changes, the inverse has a rename
filled : (rs inv : List Renaming) → IsInverse rs inv → (filter changes rs ≡ [] → ⊥) → inv ≡ [] → ⊥
filled rs inv i some none = by (filter changes rs) refl
  where
    by : (xs : List Renaming) → filter changes rs ≡ xs → ⊥
    by [] q = some q
    by (x ∷ xs) q =
        let f = from_filter changes rs x (subst (λ (ys : List Renaming). In ys x) (sym q) (inl refl)) in
        subst (λ (ys : List Renaming). In ys (flipped x)) none (one_of inv (flipped x) (i.all x (contained rs x f.0) f.1))

module _ (rules : Rules) (is : IsRuleSet rules) (rs : List Renaming) (given : IsTable rs) (same : rs ≡ rules.renames) where
  table : IsTable rules.renames
  table = subst IsTable same given

  parts : (file : Text) → inverted rs ≡ Ok file → HasFile rules.renames file
  parts file h = has_file rules.renames file (sym (ap inverted same) ∙ h)

  made : (file : Text) → inverted rs ≡ Ok file → IsInverse rules.renames (inverse rules.renames)
  made file h = inverse_made rules.renames table (parts file h).apart

  pub is_settled : (file : Text) → inverted rs ≡ Ok file → IsRuleSet (inverse_rules rules)
  is_settled file h = rule_set rules (inverse rules.renames) is (made file h)

  pub builds : (file : Text) → inverted rs ≡ Ok file → rules_of_files (only_renames file) ≡ Ok (inverse_rules rules)
  builds file h =
      ap (λ (t : Text). rules_of_files (only_renames t)) (parts file h).file_is
      ∙ file_builds rules (inverse rules.renames) is (made file h) (filled rules.renames (inverse rules.renames) (made file h) (parts file h).some)

  pub takes_back : (file : Text) → inverted rs ≡ Ok file → TakesPackagesBack rules.renames (inverse rules.renames)
  takes_back file h = packages_back rules.renames (inverse rules.renames) (undoes_them rules.renames table (parts file h).apart)

  pub again : (file : Text) → inverted rs ≡ Ok file → inverse (inverse rules.renames) ≡ filter changes rules.renames
  again file h = inverse_again rules.renames table (parts file h).apart

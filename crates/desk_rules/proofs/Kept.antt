-- What a rule set keeps makes its rules well-formed and settled.
use Rattle.std.proofs.Common.{◌≡◌, Bool, List, None, subst, ap, ◌∙◌}
use Rattle.std.specs.FinMap as finite
use Rattle.desk_base.specs.Names.{Text}
use Rattle.desk_patterns.specs.Selections.{Choice}
use Rattle.desk_patterns.specs.PatternTexts.{PatternText}
use Rattle.desk_packages.specs.Renames.{Renaming}
use Rattle.desk_rules.specs.Rules.{Rules, Versions}
use Rattle.desk_chains.specs.Chains.{first_chain_in}
use Rattle.desk_entries.specs.Exchanges.{Exchange, BundleUpdate}
use Rattle.desk_rules.specs.Settled.{first_chain}
use Rattle.desk_packages.specs.Keys.{IsTable, RiseBy}
use Rattle.desk_rules.specs.RuleSets.{IsRuleSet, IsKept, AreWritten, HaveUtf8Targets, HaveUtf8Texts, HaveVersions, HaveUpdates, rules_of}
use Rattle.desk_rules.proofs.TextMaps.{entries_rising}

-- the first chain of the rules is that of the lists
pub chain_is : (renames : List Renaming) (versions : List (Text × Versions)) (bundles : List BundleUpdate) (direct : List Exchange) (selection : List Choice) (texts : List PatternText) → RiseBy (λ b. b.0) bundles → RiseBy (λ d. d.0) direct → first_chain (rules_of renames versions bundles direct selection texts) ≡ first_chain_in renames direct bundles
chain_is renames versions bundles direct selection texts b d =
    ap (λ (es : List Exchange). first_chain_in renames es (finite.entries (rules_of renames versions bundles direct selection texts).bundles)) (entries_rising direct d)
    ∙ ap (first_chain_in renames direct) (entries_rising bundles b)

pub settled_by : (renames : List Renaming) (versions : List (Text × Versions)) (bundles : List BundleUpdate) (direct : List Exchange) (selection : List Choice) (texts : List PatternText) → IsTable renames → RiseBy (λ b. b.0) bundles → RiseBy (λ d. d.0) direct → first_chain_in renames direct bundles ≡ None → HaveUtf8Targets renames → AreWritten renames → HaveUtf8Texts (finite.from_entries direct)
    → HaveVersions (finite.from_entries versions) → HaveUpdates (finite.from_entries bundles) → IsRuleSet (rules_of renames versions bundles direct selection texts)
settled_by renames versions bundles direct selection texts table b d none targets packages values vs us = record {
  formed = table.formed;
  settled = chain_is renames versions bundles direct selection texts b d ∙ none;
  utf8 = targets;
  packages = packages;
  direct_utf8 = values;
  versioned = vs;
  updated = us;
}

pub rule_set_by : {renames : List Renaming} {versions : List (Text × Versions)} {bundles : List BundleUpdate} {direct : List Exchange} {selection : List Choice} {texts : List PatternText} {firsts : List Text} {begun : List Bool} → IsKept renames versions bundles direct firsts begun → (rules : Rules) → rules_of renames versions bundles direct selection texts ≡ rules → IsRuleSet rules
rule_set_by {renames} {versions} {bundles} {direct} {selection} {texts} kept rules is =
    subst IsRuleSet is (settled_by renames versions bundles direct selection texts kept.table kept.bundles_rise kept.direct_rise kept.settled kept.utf8 kept.packages kept.direct_utf8 kept.versioned kept.updated)

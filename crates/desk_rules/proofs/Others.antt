-- Which other rule file has a key, by the lists that a rule set keeps.
use Rattle.std.proofs.Common.{◌≡◌, ◌==◌, ℕ, Bool, true, false, cond, List, length, Option, Some, None, refl, ap, ◌∙◌}
use Rattle.std.specs.FinMap as finite
use Rattle.desk_base.specs.Names.{Text}
use Rattle.desk_patterns.specs.Selections.{Choice}
use Rattle.desk_patterns.specs.PatternTexts.{PatternText}
use Rattle.desk_packages.specs.Renames.{Renaming}
use Rattle.desk_entries.specs.Exchanges.{Exchange, BundleUpdate}
use Rattle.desk_rules.specs.Files.{versions_name, bundles_name, direct_name, selection_name, text_name}
use Rattle.desk_rules.specs.Others.{filled_or, first_other}
use Rattle.desk_rules.specs.RuleSets.{rules_of, IsKept}
use Rattle.desk_rules.specs.Rules.{Versions}
use Rattle.desk_rules.proofs.TextMaps.{entries_rising}

-- the lists in place of the entries of their maps
pub other_is : (renames : List Renaming) (versions : List (Text × Versions)) (bundles : List BundleUpdate) (direct : List Exchange) (selection : List Choice) (texts : List PatternText) {firsts : List Text} {begun : List Bool} → IsKept renames versions bundles direct firsts begun
    → first_other (rules_of renames versions bundles direct selection texts) ≡ filled_or versions versions_name (filled_or bundles bundles_name (filled_or direct direct_name (filled_or selection selection_name (filled_or texts text_name None))))
other_is renames versions bundles direct selection texts kept =
    let rules = rules_of renames versions bundles direct selection texts in
    let behind = filled_or selection selection_name (filled_or texts text_name None) in
    ap (λ (vs : List (Text × Versions)). filled_or vs versions_name (filled_or (finite.entries rules.bundles) bundles_name (filled_or (finite.entries rules.direct) direct_name behind))) (entries_rising versions kept.versions_rise)
    ∙ ap (λ (bs : List BundleUpdate). filled_or versions versions_name (filled_or bs bundles_name (filled_or (finite.entries rules.direct) direct_name behind))) (entries_rising bundles kept.bundles_rise)
    ∙ ap (λ (ds : List Exchange). filled_or versions versions_name (filled_or bundles bundles_name (filled_or ds direct_name behind))) (entries_rising direct kept.direct_rise)

by_test : (none : Bool) (others : Option Text) (name : Text) (empty : Bool) → empty ≡ none → empty ≡ false → cond none others (Some name) ≡ Some name
by_test false others name empty is filled = refl
by_test true others name true is filled = absurd cc
by_test true others name false is filled = absurd cc

by_no_test : (none : Bool) (others : Option Text) (name : Text) (empty : Bool) → empty ≡ none → empty ≡ true → cond none others (Some name) ≡ others
by_no_test true others name empty is bare = refl
by_no_test false others name true is bare = absurd cc
by_no_test false others name false is bare = absurd cc

-- a file that has an entry is named
pub named_here : {A : Type 0} (entries : List A) (n : ℕ) (others : Option Text) (name : Text) (empty : Bool) → n ≡ length entries → empty ≡ (n == 0) → empty ≡ false → filled_or entries name others ≡ Some name
named_here entries n others name empty counts is filled = by_test (length entries == 0) others name empty (is ∙ ap (λ (k : ℕ). k == 0) counts) filled

-- and where it has none, one behind it
pub named_behind : {A : Type 0} (entries : List A) (n : ℕ) (others : Option Text) (name : Text) (empty : Bool) → n ≡ length entries → empty ≡ (n == 0) → empty ≡ true → filled_or entries name others ≡ others
named_behind entries n others name empty counts is bare = by_no_test (length entries == 0) others name empty (is ∙ ap (λ (k : ℕ). k == 0) counts) bare

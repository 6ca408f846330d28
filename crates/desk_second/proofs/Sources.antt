-- The text rules of rule files have sources.
use Rattle.std.proofs.Common.{◌≡◌, zero, suc, Bool, true, false, cond, List, [], ◌∷◌, refl, sym, ap, ◌∙◌, subst, Result, Ok, Err, Option, Some, None, arith}
use Rattle.std.specs.List.{AllByRecursion}
use Rattle.desk_base.specs.Names.{Text, is_empty}
use Rattle.desk_properties.specs.Properties.{Entry}
use Rattle.desk_entries.specs.declared.faults.EntryFault.{EntryFault}
use Rattle.desk_entries.specs.declared.faults.EntryFault.TheVariants.{Key}
use Rattle.desk_patterns.specs.TextRules.{TextRule, HaveSources}
use Rattle.desk_patterns.specs.PatternTexts.{PatternText}
use Rattle.desk_packages.specs.Renames.{Renaming}
use Rattle.desk_patterns.specs.Selections.{Choice}
use Rattle.desk_rules.specs.Files.{Files, versions_name, bundles_name, direct_name, selection_name, text_name}
use Rattle.desk_rules.specs.Reads.{◌>>=◌, entries_in, in_order, with_first, each, where_ok, all_in, renames_in, versions_entry, update_entry, direct_entry, selection_entry, unless_chain, settled}
use Rattle.desk_rules.specs.RuleFiles.{rules_of_files}
use Rattle.desk_rules.specs.Rules.{Rules, Versions}
use Rattle.desk_rules.specs.RuleSets.{rules_of}
use Rattle.desk_chains.specs.Chains.{Chain}
use Rattle.desk_entries.specs.Exchanges.{BundleUpdate, Exchange}
use Rattle.desk_rules.specs.Settled.{first_chain}
use Rattle.desk_rules.specs.TextFiles.{one_more, by_name, checked_texts, named_all, named_by, text_rule_entry, rule_texts, pattern_text, pattern_texts, texts_in}
use Rattle.desk_rules.specs.declared.RuleFault.{RuleFault}
use Rattle.desk_second.specs.Second.{TextsHaveSources, RulesOfFiles}

-- a value, and what comes of it
record Bound {A B : Type 0} (r : Result A RuleFault) (f : A → Result B RuleFault) (b : B) : Type 0 where
  value : A
  first : r ≡ Ok value
  second : f value ≡ Ok b

bound : {A B : Type 0} (r : Result A RuleFault) (f : A → Result B RuleFault) (b : B) → (r >>= f) ≡ Ok b → Bound r f b
bound (Ok a) f b e = record { value = a; first = refl; second = e }
bound (Err fault) f b e = absurd cc

-- ---- the rules of one file

none_sourced : HaveSources []
none_sourced place less = absurd (omega arith)

one_sourced : (rule : TextRule) (rules : List TextRule) → is_empty rule.0 ≡ false → HaveSources rules → HaveSources (rule ∷ rules)
one_sourced rule rules e h zero less = e
one_sourced rule rules e h (suc place) less = h place (omega arith)

rule_sourced : (key value : Text) (rule : TextRule) → text_rule_entry key value ≡ Ok rule → is_empty rule.0 ≡ false
rule_sourced key value rule e = elim (is_empty key) as (λ (b : Bool). is_empty key ≡ b → where_ok (cond b (Err Key) (Ok tt)) (key, value) ≡ Ok rule → is_empty rule.0 ≡ false) [
  | true ↦ λ is h. absurd cc
  | false ↦ λ is h. let same : (key, value) ≡ rule = cc in ap (λ (r : TextRule). is_empty r.0) (sym same) ∙ is
] refl e

with_sourced : (file key value : Text) (first : Result TextRule EntryFault) (rest : Result (List TextRule) RuleFault) (rules : List TextRule) → text_rule_entry key value ≡ first
    → ((more : List TextRule) → rest ≡ Ok more → HaveSources more) → with_first file key first rest ≡ Ok rules → HaveSources rules
with_sourced file key value (Err fault) rest rules is h e = absurd cc
with_sourced file key value (Ok rule) (Err fault) rules is h e = absurd cc
with_sourced file key value (Ok rule) (Ok more) rules is h e =
    let same : rule ∷ more ≡ rules = cc in
    subst HaveSources same (one_sourced rule more (rule_sourced key value rule is) (h more refl))

each_sourced : (file : Text) (es : List Entry) (rules : List TextRule) → each file text_rule_entry es ≡ Ok rules → HaveSources rules
each_sourced file [] rules e = let none : [] ≡ rules = cc in subst HaveSources none none_sourced
each_sourced file (x ∷ es) rules e = with_sourced file x.0 x.1 (text_rule_entry x.0 x.1) (each file text_rule_entry es) rules refl (each_sourced file es) e

-- ---- the rules of all files

pattern_sourced : (files : Files) (x : Entry) (p : PatternText) → pattern_text files x ≡ Ok p → HaveSources p.1
pattern_sourced files x p e =
    let n = bound (named_by files x.0 x.1) (λ (name : Text). rule_texts files name >>= (λ (rules : List TextRule). Ok (x.0, rules))) p e in
    let r = bound (rule_texts files n.value) (λ (rules : List TextRule). Ok (x.0, rules)) p n.second in
    let s = bound (entries_in files n.value) (λ (entries : List Entry). each n.value text_rule_entry (in_order entries)) r.value r.first in
    let is : Ok (x.0, r.value) ≡ Ok p = r.second in
    let same : (x.0, r.value) ≡ p = cc in
    subst (λ (q : PatternText). HaveSources q.1) same (each_sourced n.value (in_order s.value) r.value s.second)

one_more_sourced : (files : Files) (x : Entry) (first : Result PatternText RuleFault) (rest : Result (List PatternText) RuleFault) (ps : List PatternText) → pattern_text files x ≡ first
    → ((more : List PatternText) → rest ≡ Ok more → AllByRecursion (λ (entry : PatternText). HaveSources entry.1) more) → one_more first rest ≡ Ok ps → AllByRecursion (λ (entry : PatternText). HaveSources entry.1) ps
one_more_sourced files x (Err fault) rest ps is h e = absurd cc
one_more_sourced files x (Ok p) (Err fault) ps is h e = absurd cc
one_more_sourced files x (Ok p) (Ok more) ps is h e =
    let same : p ∷ more ≡ ps = cc in
    subst (AllByRecursion (λ (entry : PatternText). HaveSources entry.1)) same (pattern_sourced files x p is, h more refl)

all_sourced : (files : Files) (es : List Entry) (ps : List PatternText) → pattern_texts files es ≡ Ok ps → AllByRecursion (λ (entry : PatternText). HaveSources entry.1) ps
all_sourced files [] ps e = let none : [] ≡ ps = cc in subst (AllByRecursion (λ (entry : PatternText). HaveSources entry.1)) none tt
all_sourced files (x ∷ es) ps e = one_more_sourced files x (pattern_text files x) (pattern_texts files es) ps refl (all_sourced files es) e

-- what follows the entries of the patterns, and the names of their files
abbrev behind_names : Files → List Entry → List Text → Result (List PatternText) RuleFault
behind_names files entries names = checked_texts files (by_name names) >>= (λ checked. pattern_texts files entries)

abbrev behind_entries : Files → List Entry → Result (List PatternText) RuleFault
behind_entries files entries = named_all files (in_order entries) >>= behind_names files entries

texts_sourced : (files : Files) (ps : List PatternText) → texts_in files ≡ Ok ps → AllByRecursion (λ (entry : PatternText). HaveSources entry.1) ps
texts_sourced files ps e =
    let entries = bound (entries_in files text_name) (behind_entries files) ps e in
    let names = bound (named_all files (in_order entries.value)) (behind_names files entries.value) ps entries.second in
    let checked = bound (checked_texts files (by_name names.value)) (λ checked. pattern_texts files entries.value) ps names.second in
    all_sourced files entries.value ps checked.second

-- settled rules are the rules themselves
settled_texts : (rules new : Rules) → unless_chain rules (first_chain rules) ≡ Ok new → rules ≡ new
settled_texts rules new e = elim (first_chain rules) as (λ (o : Option Chain). unless_chain rules o ≡ Ok new → rules ≡ new) [
  | None ↦ λ h. cc
  | Some chain ↦ λ h. absurd cc
] e

-- what follows each file of rules
abbrev behind_selection : Files → List Renaming → List (Text × Versions) → List BundleUpdate → List Exchange → List Choice → Result Rules RuleFault
behind_selection files renames versions bundles direct selection = texts_in files >>= (λ (texts : List PatternText). settled (rules_of renames versions bundles direct selection texts))

abbrev behind_direct : Files → List Renaming → List (Text × Versions) → List BundleUpdate → List Exchange → Result Rules RuleFault
behind_direct files renames versions bundles direct = all_in files selection_name selection_entry >>= behind_selection files renames versions bundles direct

abbrev behind_bundles : Files → List Renaming → List (Text × Versions) → List BundleUpdate → Result Rules RuleFault
behind_bundles files renames versions bundles = all_in files direct_name direct_entry >>= behind_direct files renames versions bundles

abbrev behind_versions : Files → List Renaming → List (Text × Versions) → Result Rules RuleFault
behind_versions files renames versions = all_in files bundles_name update_entry >>= behind_bundles files renames versions

abbrev behind_renames : Files → List Renaming → Result Rules RuleFault
behind_renames files renames = all_in files versions_name versions_entry >>= behind_versions files renames

pub sourced : (files : Files) (rules : Rules) → rules_of_files files ≡ Ok rules → TextsHaveSources rules
sourced files rules e =
    let renames = bound (renames_in files) (behind_renames files) rules e in
    let versions = bound (all_in files versions_name versions_entry) (behind_versions files renames.value) rules renames.second in
    let bundles = bound (all_in files bundles_name update_entry) (behind_bundles files renames.value versions.value) rules versions.second in
    let direct = bound (all_in files direct_name direct_entry) (behind_direct files renames.value versions.value bundles.value) rules bundles.second in
    let selection = bound (all_in files selection_name selection_entry) (behind_selection files renames.value versions.value bundles.value direct.value) rules direct.second in
    let new : List PatternText → Rules = rules_of renames.value versions.value bundles.value direct.value selection.value in
    let texts = bound (texts_in files) (λ (texts : List PatternText). settled (rules_of renames.value versions.value bundles.value direct.value selection.value texts)) rules selection.second in
    subst TextsHaveSources (settled_texts (new texts.value) rules texts.second) (texts_sourced files texts.value texts.first)

pub are_rules : RulesOfFiles
are_rules files rules e is = record { settled = is; sources = sourced files rules e }

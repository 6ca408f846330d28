-- The written file builds as the only rule file.
use Rattle.std.proofs.Common.{◌≡◌, ◌<◌, ℕ, true, false, List, [], ◌∷◌, map, length, get_or, Option, Some, None, Result, Ok, refl, ap, ◌∙◌, arith}
use Rattle.std.specs.FinMap as finite
use Rattle.std.specs.FinMap.{get-from_entries, find}
use Rattle.std.specs.Cmp.Lexicographic.{slice_cmp}
use Rattle.std.specs.Ordering.{nat_cmp}
use Rattle.std.specs.List.{list_all}
use Rattle.std.proofs.lemmas.Cmp.{nat_list_cmp_total}
use Rattle.desk_base.specs.Names.{Text}
use Rattle.desk_properties.specs.Properties.{Entry}
use Rattle.desk_entries.specs.declared.faults.EntryFault.{EntryFault}
use Rattle.desk_packages.specs.Renames.{Renaming, key_of, is_rename}
use Rattle.desk_packages.specs.Keys.{RiseBy}
use Rattle.desk_rules.specs.Rules.{Rules}
use Rattle.desk_rules.specs.RuleSets.{rules_of, AreWritten, IsRuleSet}
use Rattle.desk_rules.specs.Files.{Files, renames_name, versions_name, bundles_name, direct_name, selection_name, text_name}
use Rattle.desk_rules.specs.RuleFiles.{rules_of_files, ◌>>=◌, entries_or, entries_of, in_order, each, renames_of, renames_in, all_in, unless_chain, settled, versions_entry, update_entry, direct_entry, selection_entry, rename_entry}
use Rattle.desk_rules.specs.TextFiles.{texts_in, named_all, checked_texts, pattern_texts, by_name}
use Rattle.desk_rules.specs.declared.RuleFault.{RuleFault}
use Rattle.desk_patterns.specs.PatternTexts.{PatternText}
use Rattle.desk_rules.proofs.TextMaps.{entries_rising}
use Rattle.std.proofs.lemmas.List.{length-map, get_or-map}
use Rattle.desk_properties.specs.declared.PropFault.{PropFault}
use Rattle.desk_rules.specs.Rules.{Versions}
use Rattle.desk_entries.specs.Exchanges.{Exchange, BundleUpdate}
use Rattle.desk_patterns.specs.Selections.{Choice}
use Rattle.desk_invert.proofs.Utf8File.{file_utf8}
use Rattle.desk_invert.specs.Files.{file_of, only_renames}
use Rattle.desk_invert.specs.Laws.{renames_alone}
use Rattle.desk_invert.proofs.Inverses.{IsInverse}
use Rattle.desk_invert.proofs.Settled.{no_entries, are_written, settled as chainless}
use Rattle.desk_invert.proofs.Written.{entry_for, file_entries, each_read}

-- the keys of entries of renames rise as those of the renames do
entries_rise : (rs : List Renaming) → RiseBy key_of rs → RiseBy (λ (e : Entry). e.0) (map entry_for rs)
entries_rise rs rise i j d lt within =
    let none : Renaming = record { source = []; target = []; below = false } in
    let size : length (map entry_for rs) ≡ length rs = length-map rs entry_for in
    let at : (k : ℕ) → k < length rs → (get_or (map entry_for rs) k d).0 ≡ key_of (get_or rs k none) = λ k inside. ap (λ (e : Entry). e.0) (get_or-map entry_for rs k none d inside) in
    rw (at i (omega arith), at j (omega arith)) (rise i j none lt (omega arith))

module _ (file : Text) where
  has : finite.get (only_renames file) renames_name ≡ Some file
  has = get-from_entries nat_list_cmp_total ((renames_name, file) ∷ []) renames_name

  lacks : (name : Text) → find (slice_cmp nat_cmp) name ((renames_name, file) ∷ []) ≡ None → finite.get (only_renames file) name ≡ None
  lacks name e = get-from_entries nat_list_cmp_total ((renames_name, file) ∷ []) name ∙ e

  -- a missing file has no rules
  nothing_in : {X : Type 0} (name : Text) (read : Text → Text → Result X EntryFault) → finite.get (only_renames file) name ≡ None → all_in (only_renames file) name read ≡ Ok []
  nothing_in name read e =
      ap (λ (o : Option Text). entries_of name o >>= (λ entries. each name read (in_order entries))) e
      ∙ ap (each name read) no_entries

  no_names : in_order [] ≡ []
  no_names = no_entries

  no_texts : texts_in (only_renames file) ≡ Ok []
  no_texts =
      ap (λ (o : Option Text). entries_of text_name o >>= (λ entries. named_all (only_renames file) (in_order entries) >>= (λ names. checked_texts (only_renames file) (by_name names) >>= (λ checked. pattern_texts (only_renames file) entries)))) (lacks text_name refl)
      ∙ ap (λ (es : List Entry). named_all (only_renames file) es >>= (λ names. checked_texts (only_renames file) (by_name names) >>= (λ checked. pattern_texts (only_renames file) []))) no_names
      ∙ ap (λ (es : List Entry). checked_texts (only_renames file) (map (λ (e : Entry). e.0) es) >>= (λ checked. pattern_texts (only_renames file) [])) no_names

-- what is read of the entries of renames in byte order of their keys
renames_read : (rs : List Renaming) → (rs ≡ [] → ⊥) → list_all is_rename rs ≡ true → RiseBy key_of rs → AreWritten rs → renames_of (map entry_for rs) ≡ Ok rs
renames_read [] some formed rise stored = absurd (some refl)
renames_read (r ∷ rs) some formed rise stored =
    ap (each renames_name rename_entry) (entries_rising (map entry_for (r ∷ rs)) (entries_rise (r ∷ rs) rise))
    ∙ each_read (r ∷ rs) formed stored

-- the rules of six files
abbrev six : Result (List Renaming) RuleFault → Result (List (Text × Versions)) RuleFault → Result (List BundleUpdate) RuleFault → Result (List Exchange) RuleFault → Result (List Choice) RuleFault → Result (List PatternText) RuleFault → Result Rules RuleFault
six renames versions bundles direct selection texts = renames >>= (λ r. versions >>= (λ v. bundles >>= (λ b. direct >>= (λ d. selection >>= (λ s. texts >>= (λ t. settled (rules_of r v b d s t)))))))

pub file_builds : (rules : Rules) (inv : List Renaming) → IsRuleSet rules → IsInverse rules.renames inv → (inv ≡ [] → ⊥) → rules_of_files (only_renames (file_of inv)) ≡ Ok (renames_alone inv)
file_builds rules inv is i some =
    let told : AreWritten inv = are_written rules inv is i in
    let file : Text = file_of inv in
    let files : Files = only_renames file in
    let renames : renames_in files ≡ Ok inv =
    ap (λ (o : Option Text). entries_of renames_name o >>= renames_of) (has file)
    ∙ ap (λ (p : Result (List Entry) PropFault). entries_or renames_name p >>= renames_of) (file_entries inv i.table.formed (entries_rise inv i.table.rising) (file_utf8 inv told))
    ∙ renames_read inv some i.table.formed i.table.rising told in
    ap (λ (r : Result (List Renaming) RuleFault). six r (all_in files versions_name versions_entry) (all_in files bundles_name update_entry) (all_in files direct_name direct_entry) (all_in files selection_name selection_entry) (texts_in files)) renames
    ∙ ap (λ (v : Result (List (Text × Versions)) RuleFault). six (Ok inv) v (all_in files bundles_name update_entry) (all_in files direct_name direct_entry) (all_in files selection_name selection_entry) (texts_in files)) (nothing_in file versions_name versions_entry (lacks file versions_name refl))
    ∙ ap (λ (b : Result (List BundleUpdate) RuleFault). six (Ok inv) (Ok []) b (all_in files direct_name direct_entry) (all_in files selection_name selection_entry) (texts_in files)) (nothing_in file bundles_name update_entry (lacks file bundles_name refl))
    ∙ ap (λ (d : Result (List Exchange) RuleFault). six (Ok inv) (Ok []) (Ok []) d (all_in files selection_name selection_entry) (texts_in files)) (nothing_in file direct_name direct_entry (lacks file direct_name refl))
    ∙ ap (λ (s : Result (List Choice) RuleFault). six (Ok inv) (Ok []) (Ok []) (Ok []) s (texts_in files)) (nothing_in file selection_name selection_entry (lacks file selection_name refl))
    ∙ ap (λ (t : Result (List PatternText) RuleFault). six (Ok inv) (Ok []) (Ok []) (Ok []) (Ok []) t) (no_texts file)
    ∙ ap (unless_chain (renames_alone inv)) (chainless rules inv is i)

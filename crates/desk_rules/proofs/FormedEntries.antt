-- Versions and bundle updates that were read have their form.
use Rattle.std.proofs.Common.{◌≡◌, Bool, true, false, cond, not, ◌&&◌, List, Some, None, Result, Ok, Err, refl, sym, ap, subst, ◌∙◌}
use Rattle.std.specs.List.{list_any, before_first, after_first}
use Rattle.std.specs.FinMap as finite
use Rattle.std.specs.FinMap.{get-from_entries}
use Rattle.std.proofs.lemmas.Bool.{and_parts}
use Rattle.std.proofs.lemmas.Cmp.{nat_list_cmp_total}
use Rattle.desk_base.specs.Names.{Text, is_dotted}
use Rattle.desk_lines.specs.Blanks.{trimmed_end}
use Rattle.desk_entries.specs.Forms.{is_semicolon, is_symbolic_name, is_version}
use Rattle.desk_entries.specs.Entries.{versions_of, versions_in, versions_between, update_of, update_in, update_with, plain_update}
use Rattle.desk_entries.specs.declared.faults.EntryFault.{EntryFault}
use Rattle.desk_entries.specs.declared.faults.EntryFault.TheVariants.{Key, Value}
use Rattle.desk_rules.specs.Files.{Files, versions_name, bundles_name}
use Rattle.desk_rules.specs.Rules.{Versions, Update}
use Rattle.desk_entries.specs.Exchanges.{BundleUpdate}
use Rattle.desk_rules.specs.RuleSets.{AreVersions, HaveVersions, IsUpdate, HaveUpdates}
use Rattle.desk_rules.specs.RuleFiles.{entries_in, all_in, keyed, versions_entry, update_entry}
use Rattle.desk_rules.proofs.TextMaps.{find_in}
use Rattle.desk_rules.proofs.Utf8Rules.{all_at, entries_all}

-- what was read with its key was read
keyed_is : {X : Type 0} (key : Text) (o : Result X EntryFault) (e : Text × X) → keyed key o ≡ Ok e → o ≡ Ok e.1
keyed_is key (Ok x) e h = let same : (key, x) ≡ e = cc in ap (λ (p : Text × _). Ok p.1) same
keyed_is key (Err fault) e h = absurd cc

-- ---- versions

between_formed : (imported exported : Text) (fine : Bool) → (is_version imported && is_version exported) ≡ fine → (v : Versions) → cond fine (Ok (record { imported = imported; exported = exported })) (Err Value) ≡ Ok v → AreVersions v
between_formed imported exported false q v h = absurd cc
between_formed imported exported true q v h =
    let same : record { imported = imported; exported = exported } ≡ v = cc in
    let both = and_parts _ _ q in
    subst AreVersions same (record { imported = both.0; exported = both.1 })

in_formed : (value : Text) (two : Bool) (v : Versions) → cond two (versions_between (before_first is_semicolon value) (after_first is_semicolon value)) (versions_between value value) ≡ Ok v → AreVersions v
in_formed value true v h = between_formed (before_first is_semicolon value) (after_first is_semicolon value) _ refl v h
in_formed value false v h = between_formed value value _ refl v h

versions_of_formed : (odd : Bool) (value : Text) (v : Versions) → cond odd (Err Key) (versions_in value) ≡ Ok v → AreVersions v
versions_of_formed true value v h = absurd cc
versions_of_formed false value v h = in_formed value (list_any is_semicolon value) v h

version_entry_formed : (key value : Text) (e : Text × Versions) → versions_entry key value ≡ Ok e → AreVersions e.1
version_entry_formed key value e h = versions_of_formed (not (is_dotted key)) (trimmed_end value) e.1 (keyed_is key (versions_of key value) e h)

-- versions that were read are versions
pub versions_formed : (files : Files) (vs : List (Text × Versions)) → all_in files versions_name versions_entry ≡ Ok vs → HaveVersions (finite.from_entries vs)
versions_formed files vs h text value got =
    all_at (λ (e : Text × Versions). AreVersions e.1) vs (text, value)
    (entries_all (λ (e : Text × Versions). AreVersions e.1) versions_name versions_entry version_entry_formed (entries_in files versions_name) vs h)
    (find_in vs text value (sym (get-from_entries nat_list_cmp_total vs text) ∙ got))

-- ---- updates

plain_formed : (name : Text) (fine : Bool) → is_symbolic_name name ≡ fine → (u : Update) → cond fine (Ok (record { name = name; version = None })) (Err Value) ≡ Ok u → IsUpdate u
plain_formed name false q u h = absurd cc
plain_formed name true q u h =
    let same : record { name = name; version = None } ≡ u = cc in
    subst IsUpdate same (record { named = q; versioned = tt })

with_formed : (name version : Text) (fine : Bool) → (is_symbolic_name name && is_version version) ≡ fine → (u : Update) → cond fine (Ok (record { name = name; version = Some version })) (Err Value) ≡ Ok u → IsUpdate u
with_formed name version false q u h = absurd cc
with_formed name version true q u h =
    let same : record { name = name; version = Some version } ≡ u = cc in
    let both = and_parts _ _ q in
    subst IsUpdate same (record { named = both.0; versioned = both.1 })

update_in_formed : (value : Text) (two : Bool) (u : Update) → cond two (update_with (before_first is_semicolon value) (after_first is_semicolon value)) (plain_update value) ≡ Ok u → IsUpdate u
update_in_formed value true u h = with_formed (before_first is_semicolon value) (after_first is_semicolon value) _ refl u h
update_in_formed value false u h = plain_formed value _ refl u h

update_of_formed : (odd : Bool) (value : Text) (u : Update) → cond odd (Err Key) (update_in value) ≡ Ok u → IsUpdate u
update_of_formed true value u h = absurd cc
update_of_formed false value u h = update_in_formed value (list_any is_semicolon value) u h

update_entry_formed : (key value : Text) (e : BundleUpdate) → update_entry key value ≡ Ok e → IsUpdate e.1
update_entry_formed key value e h = update_of_formed (not (is_symbolic_name key)) (trimmed_end value) e.1 (keyed_is key (update_of key value) e h)

-- new names of bundles that were read are symbolic names, and their versions versions
pub updates_formed : (files : Files) (us : List BundleUpdate) → all_in files bundles_name update_entry ≡ Ok us → HaveUpdates (finite.from_entries us)
updates_formed files us h text value got =
    all_at (λ (e : BundleUpdate). IsUpdate e.1) us (text, value)
    (entries_all (λ (e : BundleUpdate). IsUpdate e.1) bundles_name update_entry update_entry_formed (entries_in files bundles_name) us h)
    (find_in us text value (sym (get-from_entries nat_list_cmp_total us text) ∙ got))

-- What is read of an entry of the renames.
use Rattle.std.proofs.Common.{◌≡◌, ◌-◌, Bool, true, false, cond, not, ◌&&◌, List, [], ◌∷◌, ◌++◌, length, take, Result, Ok, Err, refl, sym, ap, ◌∙◌, inl, inr}
use Rattle.std.specs.Str.{is_utf8}
use Rattle.std.specs.List.{list_all}
use Rattle.std.proofs.lemmas.Bool.{and_from, and_parts, cases_Bool}
use Rattle.std.proofs.lemmas.Bool.Decides.{Decides-eqb}
use Rattle.std.proofs.lemmas.List.{append-nil}
use Rattle.std.proofs.lemmas.Slice.Eq.{ends_is}
use Rattle.desk_base.specs.Names.{Text, segments, written, dot, is_dotted}
use Rattle.desk_properties.specs.Properties.{Entry}
use Rattle.desk_lines.specs.Blanks.{trimmed_end}
use Rattle.desk_entries.specs.Forms.{is_below, reach_of, source_text, is_stored, is_written_package}
use Rattle.desk_entries.specs.Entries.{rename_of}
use Rattle.desk_entries.specs.declared.faults.EntryFault.{EntryFault}
use Rattle.desk_entries.specs.declared.faults.EntryFault.TheVariants.{Key, Value}
use Rattle.desk_entries.specs.declared.renames.Rename.{Rename}
use Rattle.desk_packages.specs.declared.Reach.TheVariants.{Exact, Below}
use Rattle.desk_packages.specs.Renames.{Renaming, key_of, is_rename}
use Rattle.desk_packages.specs.Keys.{renaming, wanted_tail, goes_below}
use Rattle.desk_rules.specs.RuleFiles.{each, with_first, rename_entry, renaming_from, renames_of, in_order}
use Rattle.desk_rules.specs.Files.{renames_name}
use Rattle.desk_rules.specs.declared.RuleFault.{RuleFault}
use Rattle.desk_packages.proofs.Cuts.{written-segments}

-- what passes a test, or is at fault
record Passed {A : Type 0} (a : Bool) (x y : A) : Type 0 where
  first : a ≡ true
  same : x ≡ y

passed : {A : Type 0} (a : Bool) (fault : EntryFault) (x y : A) → cond (not a) (Err fault) (Ok x) ≡ Ok y → Passed a x y
passed true fault x y h = let same : x ≡ y = cc in record { first = refl; same = same }
passed false fault x y h = absurd cc

-- what a rename that was read says
pub record Read (key value : Text) (r : Rename) : Type 0 where
  pub source_written : is_written_package (source_text key) ≡ true
  pub target_written : is_written_package (trimmed_end value) ≡ true
  pub source : is_dotted (source_text key) ≡ true
  pub target : is_dotted (trimmed_end value) ≡ true
  pub stored : is_stored (trimmed_end value) ≡ true
  pub is : record { source = segments dot (source_text key); target = segments dot (trimmed_end value); reach = reach_of key } ≡ r

pub read_parts : (key value : Text) (r : Rename) → rename_of key value ≡ Ok r → Read key value r
read_parts key value r h =
    let R : Rename = record { source = segments dot (source_text key); target = segments dot (trimmed_end value); reach = reach_of key } in
    elim (is_written_package (source_text key)) as (λ (a : Bool). is_written_package (source_text key) ≡ a → cond (not a) (Err Key) (cond (not (is_written_package (trimmed_end value))) (Err Value) (Ok R)) ≡ Ok r → Read key value r) [
      | false ↦ λ p k. absurd cc
      | true ↦ λ p k.
          let fine = passed (is_written_package (trimmed_end value)) Value R r k in
          let from = and_parts (is_dotted (source_text key) && is_stored (source_text key)) (is_utf8 (source_text key)) p in
          let to = and_parts (is_dotted (trimmed_end value) && is_stored (trimmed_end value)) (is_utf8 (trimmed_end value)) fine.first in
          let into = and_parts (is_dotted (trimmed_end value)) (is_stored (trimmed_end value)) to.0 in
          record {
            source_written = p;
            target_written = fine.first;
            source = (and_parts (is_dotted (source_text key)) (is_stored (source_text key)) from.0).0;
            target = into.0;
            stored = into.1;
            is = fine.same;
          }
    ] refl h

pub entry_formed : (key value : Text) (r : Rename) → rename_of key value ≡ Ok r → is_rename (renaming r.source r.target (goes_below r.reach)) ≡ true
entry_formed key value r h =
    let read = read_parts key value r h in
    ap (λ (x : Rename). is_rename (renaming x.source x.target (goes_below x.reach))) (sym read.is) ∙ and_from _ _ read.source read.target

-- what a reach says of the packages below
reach_told : (below : Bool) → goes_below (cond below Below Exact) ≡ below
reach_told true = refl
reach_told false = refl

-- a key is its package, and what stands behind it
key_whole : (key : Text) → source_text key ++ wanted_tail (is_below key) ≡ key
key_whole key = elim (cases_Bool (is_below key)) [
  | inl e ↦ ap (λ (b : Bool). cond b (take (length key - 2) key) key ++ wanted_tail b) e ∙ sym ((ends_is Decides-eqb key (46 ∷ 42 ∷ []) (is_below key) refl).0 e)
  | inr e ↦ ap (λ (b : Bool). cond b (take (length key - 2) key) key ++ wanted_tail b) e ∙ append-nil key
]

pub entry_key : (key value : Text) (r : Rename) → rename_of key value ≡ Ok r → key_of (renaming r.source r.target (goes_below r.reach)) ≡ key
entry_key key value r h =
    let read = read_parts key value r h in
    ap (λ (x : Rename). key_of (renaming x.source x.target (goes_below x.reach))) (sym read.is)
    ∙ ap (λ (b : Bool). written dot (segments dot (source_text key)) ++ wanted_tail b) (reach_told (is_below key))
    ∙ ap (λ (t : Text). t ++ wanted_tail (is_below key)) (written-segments dot (source_text key)) ∙ key_whole key

renaming_formed : (key value : Text) (o : Result Rename EntryFault) (r : Renaming) → rename_of key value ≡ o → renaming_from o ≡ Ok r → is_rename r ≡ true
renaming_formed key value (Ok x) r q h =
    let same : renaming x.source x.target (goes_below x.reach) ≡ r = cc in
    ap is_rename (sym same) ∙ entry_formed key value x q
renaming_formed key value (Err fault) r q h = absurd cc

-- renames that were read are renames of packages
pub renames_formed : (es : List Entry) (rs : List Renaming) → each renames_name rename_entry es ≡ Ok rs → list_all is_rename rs ≡ true
renames_formed [] rs h = let same : [] ≡ rs = cc in ap (list_all is_rename) (sym same)
renames_formed (e ∷ es) rs h =
    elim (rename_entry e.0 e.1) as (λ (o : Result Renaming EntryFault). rename_entry e.0 e.1 ≡ o → with_first renames_name e.0 o (each renames_name rename_entry es) ≡ Ok rs → list_all is_rename rs ≡ true) [
      | Err fault ↦ λ q k. absurd cc
      | Ok x ↦ λ q k. rest_formed (λ xs read. renames_formed es xs read) (each renames_name rename_entry es) refl x (renaming_formed e.0 e.1 (rename_of e.0 e.1) x refl q) k
    ] refl h
  where
    rest_formed : ((xs : List Renaming) → each renames_name rename_entry es ≡ Ok xs → list_all is_rename xs ≡ true) → (o : Result (List Renaming) RuleFault) → each renames_name rename_entry es ≡ o → (x : Renaming) → is_rename x ≡ true → with_first renames_name e.0 (Ok x) o ≡ Ok rs → list_all is_rename rs ≡ true
    rest_formed all (Err fault) q x fine k = absurd cc
    rest_formed all (Ok xs) q x fine k =
        let same : x ∷ xs ≡ rs = cc in
        ap (list_all is_rename) (sym same) ∙ and_from _ _ fine (all xs q)

pub renames_some : (es : List Entry) → (length es ≡ 0 → ⊥) → renames_of es ≡ each renames_name rename_entry (in_order es)
renames_some [] some = absurd (some refl)
renames_some (e ∷ es) some = refl

-- New packages and direct texts that were read are modified UTF-8.
use Rattle.std.proofs.Common.{◌≡◌, Bool, true, false, cond, not, ◌||◌, List, [], ◌∷◌, Option, Some, None, Result, Ok, Err, refl, sym, ap, subst, ◌∙◌, inl, inr}
use Rattle.std.specs.Prelude.{is_none}
use Rattle.std.specs.List.{AllByRecursion}
use Rattle.std.specs.FinMap as finite
use Rattle.std.specs.FinMap.{get-from_entries}
use Rattle.std.proofs.lemmas.Bool.{and_parts}
use Rattle.std.proofs.lemmas.Cmp.{nat_list_cmp_total}
use Rattle.desk_base.specs.Names.{Text, written, dot, is_empty}
use Rattle.desk_base.specs.Utf8.{bad_form}
use Rattle.desk_properties.specs.Properties.{Entry}
use Rattle.desk_lines.specs.Blanks.{trimmed_end}
use Rattle.desk_entries.specs.Forms.{source_text, is_plain, is_stored, is_written_package}
use Rattle.desk_entries.specs.Entries.{rename_of}
use Rattle.desk_entries.specs.declared.faults.EntryFault.{EntryFault}
use Rattle.desk_entries.specs.declared.faults.EntryFault.TheVariants.{Key, Value}
use Rattle.desk_entries.specs.declared.renames.Rename.{Rename}
use Rattle.desk_rules.specs.Files.{Files, renames_name, direct_name}
use Rattle.desk_packages.specs.Renames.{Renaming}
use Rattle.desk_entries.specs.Exchanges.{Exchange}
use Rattle.desk_packages.specs.Keys.{renaming, goes_below}
use Rattle.desk_rules.specs.RuleSets.{AreWritten, HaveUtf8Targets, HaveUtf8Texts}
use Rattle.desk_rules.specs.RuleFiles.{◌>>=◌, entries_in, in_order, each, with_first, all_in, renames_in, renames_of, rename_entry, renaming_from, direct_entry, where_ok}
use Rattle.desk_rules.specs.declared.RuleFault.{RuleFault}
use Rattle.desk_packages.proofs.Picks.{In}
use Rattle.desk_rules.proofs.TextMaps.{find_in}
use Rattle.desk_packages.proofs.Cuts.{written-segments}
use Rattle.desk_rules.proofs.RenameEntries.{read_parts}

none_is : {A : Type 0} (o : Option A) → is_none o ≡ true → o ≡ None
none_is None h = refl
none_is (Some x) h = absurd cc

stored_is : (t : Text) → is_stored t ≡ true → bad_form t ≡ None
stored_is t h = none_is (bad_form t) (and_parts _ _ h).1

-- what holds of each is had at any one of them
pub all_at : {A : Type 0} (P : A → Type 0) (xs : List A) (x : A) → AllByRecursion P xs → In xs x → P x
all_at P [] x h is = absurd is
all_at P (y ∷ ys) x h (inl same) = subst P same h.0
all_at P (y ∷ ys) x h (inr later) = all_at P ys x h.1 later

module _ {X : Type 0} (P : X → Type 0) (file : Text) (read : Text → Text → Result X EntryFault) (fine : (key value : Text) (x : X) → read key value ≡ Ok x → P x) where
  one_all : (xs : List X) (key : Text) (o : Result X EntryFault) (rest : Result (List X) RuleFault) → ((x : X) → o ≡ Ok x → P x) → ((ys : List X) → rest ≡ Ok ys → AllByRecursion P ys) → with_first file key o rest ≡ Ok xs → AllByRecursion P xs
  one_all xs key (Err fault) rest first others h = absurd cc
  one_all xs key (Ok x) (Err fault) first others h = absurd cc
  one_all xs key (Ok x) (Ok ys) first others h = let same : x ∷ ys ≡ xs = cc in subst (AllByRecursion P) same (first x refl, others ys refl)

  -- what holds of each entry that is read holds of all that were read
  each_all : (es : List Entry) (xs : List X) → each file read es ≡ Ok xs → AllByRecursion P xs
  each_all [] xs h = let same : [] ≡ xs = cc in subst (AllByRecursion P) same tt
  each_all (e ∷ es) xs h = one_all xs e.0 (read e.0 e.1) (each file read es) (λ x k. fine e.0 e.1 x k) (λ ys k. each_all es ys k) h

  -- what holds of each entry of a file that is read holds of all that were read
  pub entries_all : (r : Result (List Entry) RuleFault) (xs : List X) → (r >>= (λ entries. each file read (in_order entries))) ≡ Ok xs → AllByRecursion P xs
  entries_all (Ok es) xs h = each_all (in_order es) xs h
  entries_all (Err fault) xs h = absurd cc

-- ---- renames

entry_utf8 : (key value : Text) (r : Rename) → rename_of key value ≡ Ok r → bad_form (written dot r.target) ≡ None
entry_utf8 key value r h =
    let read = read_parts key value r h in
    ap (λ (x : Rename). bad_form (written dot x.target)) (sym read.is) ∙ ap bad_form (written-segments dot (trimmed_end value)) ∙ stored_is (trimmed_end value) read.stored

renaming_utf8 : (key value : Text) (o : Result Rename EntryFault) (r : Renaming) → rename_of key value ≡ o → renaming_from o ≡ Ok r → bad_form (written dot r.target) ≡ None
renaming_utf8 key value (Ok x) r q h =
    let same : renaming x.source x.target (goes_below x.reach) ≡ r = cc in
    ap (λ (s : Renaming). bad_form (written dot s.target)) (sym same) ∙ entry_utf8 key value x q
renaming_utf8 key value (Err fault) r q h = absurd cc

renames_all : (r : Result (List Entry) RuleFault) (rs : List Renaming) → (r >>= renames_of) ≡ Ok rs → HaveUtf8Targets rs
renames_all (Ok []) rs h = absurd cc
renames_all (Ok (e ∷ es)) rs h =
    each_all (λ (r : Renaming). bad_form (written dot r.target) ≡ None) renames_name rename_entry (λ key value r k. renaming_utf8 key value (rename_of key value) r refl k) (in_order (e ∷ es)) rs h
renames_all (Err fault) rs h = absurd cc

-- the targets of renames that were read are modified UTF-8
pub renames_utf8 : (files : Files) (rs : List Renaming) → renames_in files ≡ Ok rs → HaveUtf8Targets rs
renames_utf8 files rs h = renames_all (entries_in files renames_name) rs h

-- both packages of renames that were read are written as a rule file has them
abbrev Both : Renaming → Type 0
Both r = (is_written_package (written dot r.source) ≡ true) × (is_written_package (written dot r.target) ≡ true)

entry_written : (key value : Text) (r : Rename) → rename_of key value ≡ Ok r → Both (renaming r.source r.target (goes_below r.reach))
entry_written key value r h =
    let read = read_parts key value r h in (
      ap (λ (x : Rename). is_written_package (written dot x.source)) (sym read.is) ∙ ap is_written_package (written-segments dot (source_text key)) ∙ read.source_written,
      ap (λ (x : Rename). is_written_package (written dot x.target)) (sym read.is) ∙ ap is_written_package (written-segments dot (trimmed_end value)) ∙ read.target_written,
    )

renaming_written : (key value : Text) (o : Result Rename EntryFault) (r : Renaming) → rename_of key value ≡ o → renaming_from o ≡ Ok r → Both r
renaming_written key value (Ok x) r q h =
    let same : renaming x.source x.target (goes_below x.reach) ≡ r = cc in
    subst Both same (entry_written key value x q)
renaming_written key value (Err fault) r q h = absurd cc

all_written : (r : Result (List Entry) RuleFault) (rs : List Renaming) → (r >>= renames_of) ≡ Ok rs → AreWritten rs
all_written (Ok []) rs h = absurd cc
all_written (Ok (e ∷ es)) rs h = each_all Both renames_name rename_entry (λ key value r k. renaming_written key value (rename_of key value) r refl k) (in_order (e ∷ es)) rs h
all_written (Err fault) rs h = absurd cc

pub renames_written : (files : Files) (rs : List Renaming) → renames_in files ≡ Ok rs → AreWritten rs
renames_written files rs h = all_written (entries_in files renames_name) rs h

-- ---- direct rules

record Stored (stored : Bool) (value : Text) (x : Exchange) : Type 0 where
  passes : stored ≡ true
  same : x.1 ≡ value

stored_by : (odd plain stored : Bool) (key value : Text) (x : Exchange) → where_ok (cond odd (Err Key) (cond (not plain || not stored) (Err Value) (Ok tt))) (key, value) ≡ Ok x → Stored stored value x
stored_by true plain stored key value x h = absurd cc
stored_by false false stored key value x h = absurd cc
stored_by false true false key value x h = absurd cc
stored_by false true true key value x h = let same : (key, value) ≡ x = cc in record { passes = refl; same = ap (λ (e : Exchange). e.1) (sym same) }

direct_stored : (key value : Text) (x : Exchange) → direct_entry key value ≡ Ok x → bad_form x.1 ≡ None
direct_stored key value x h =
    let fine = stored_by (is_empty key || not (is_plain key)) (is_plain value) (is_stored value) key value x h in
    ap bad_form fine.same ∙ stored_is value fine.passes

-- the new texts of direct rules that were read are modified UTF-8
pub direct_utf8 : (files : Files) (ds : List Exchange) → all_in files direct_name direct_entry ≡ Ok ds → HaveUtf8Texts (finite.from_entries ds)
direct_utf8 files ds h text value got =
    all_at (λ (d : Exchange). bad_form d.1 ≡ None) ds (text, value)
    (entries_all (λ (d : Exchange). bad_form d.1 ≡ None) direct_name direct_entry direct_stored (entries_in files direct_name) ds h)
    (find_in ds text value (sym (get-from_entries nat_list_cmp_total ds text) ∙ got))

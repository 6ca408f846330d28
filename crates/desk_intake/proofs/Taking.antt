-- Rule files that are taken in, one after another.
use Rattle.std.proofs.Common.{◌≡◌, ◌≢◌, inl, inr, ℕ, zero, suc, ◌+◌, ◌<◌, ◌≤◌, true, false, List, [], ◌∷◌, length, Option, Some, None, refl, sym, ap, ◌∙◌, subst, drop, get_or, map, arith, IfSome, drop-cons}
use Rattle.std.specs.Prelude.{if◌then◌else◌, nat_lt}
use Rattle.std.specs.Cmp.Lexicographic.{slice_cmp}
use Rattle.std.specs.FinMap as fin
use Rattle.std.specs.FinMap.{get-empty}
use Rattle.std.specs.List.{AllByRecursion}
use Rattle.std.specs.List.Sorted.{IsStrictlySortedBy}
use Rattle.std.specs.Ordering.{nat_cmp, is_eq}
use Rattle.std.specs.declared.cmp.Ordering.TheVariants.{Less}
use Rattle.std.proofs.lemmas.List.{length-map, drop_all}
use Rattle.std.proofs.lemmas.Map.Text.{is_eq-slice_cmp}
use Rattle.std.proofs.lemmas.Slice.Eq.{bytes_eq-Decides}
use Rattle.std.proofs.lemmas.Bool.{le-ltb}
use Rattle.desk_base.specs.Names.{Text}
use Rattle.desk_base.specs.TextMaps.{get-insert-other, get-insert-same}
use Rattle.desk_folders.specs.Contents.{Contents, File, IsListing, file_at, files_below, paths_below}
use Rattle.desk_base.specs.Counts.{Rose-earlier}
use Rattle.desk_base.proofs.Results.{at_some}
use Rattle.desk_report.specs.declared.status.Status.{Status}
use Rattle.desk_report.specs.declared.status.LimitKind.TheVariants.{RuleFiles}
use Rattle.desk_report.specs.declared.status.Status.TheVariants.{Limit}
use Rattle.desk_rules.specs.Files.{Files}
use Rattle.desk_intake.specs.declared.halts.Halt.{Halt}
use Rattle.desk_intake.specs.declared.halts.Halt.TheVariants as halt
use Rattle.desk_intake.specs.Limits.{most_rule_files, rule_size_answer}
use Rattle.desk_intake.specs.Rulings.{adding_files, named_files}
use Rattle.desk_intake.specs.RuleFolders.{Takes, HasReadRules, HasTakenAll, Free, bytes_or_none, file_named}
use Rattle.desk_intake.specs.Apart.{AllApart, Misses}
use Rattle.desk_intake.specs.Halts.{HaltsTakingOne, HaltsTaking}
use Rattle.desk_readings.proofs.Fronts.{if_some}
use Rattle.desk_intake.proofs.Sizes.{rule_fits}

-- names in order differ
less_differs : (x y : Text) → slice_cmp nat_cmp x y ≡ Less → x ≢ y
less_differs x y e same =
    let eq : is_eq (slice_cmp nat_cmp x y) ≡ true = is_eq-slice_cmp x y ∙ (bytes_eq-Decides x y).1 same in
    let not_eq : is_eq (slice_cmp nat_cmp x y) ≡ false = ap is_eq e in
    let h : true ≡ false = sym eq ∙ not_eq in cc

sorted_misses : (x : Text) (xs : List Text) → AllByRecursion (λ y. slice_cmp nat_cmp x y ≡ Less) xs → Misses x xs
sorted_misses x [] h = tt
sorted_misses x (y ∷ ys) h = (less_differs x y h.0, sorted_misses x ys h.1)

pub sorted_apart : (xs : List Text) → IsStrictlySortedBy (slice_cmp nat_cmp) xs → AllApart xs
unfolding IsStrictlySortedBy
sorted_apart [] h = tt
sorted_apart (x ∷ xs) h = (sorted_misses x xs h.0, sorted_apart xs h.1)

-- no file has a name at first
pub none_free : (files : Files) (names : List Text) → files ≡ fin.empty → Free files names
none_free files [] e = tt
none_free files (name ∷ names) e = (ap (λ (m : Files). fin.get m name) e ∙ get-empty _ name, none_free files names e)

-- and the names behind one that is taken stay free
still_free : (old new : Files) (name : Text) (names : List Text) → ((q : Text) → q ≢ name → fin.get new q ≡ fin.get old q) → Misses name names → Free old names → Free new names
still_free old new name [] others m f = tt
still_free old new name (q ∷ names) others m f = (others q (λ e. m.0 (sym e)) ∙ f.0, still_free old new name names others m.1 f.1)

apart_from : (names : List Text) (i : ℕ) → AllApart names → AllApart (drop i names)
apart_from names zero h = h
apart_from [] (suc i) h = tt
apart_from (name ∷ names) (suc i) h = apart_from names i h.1

-- what is left, at one name
pub left_at : {X : Type 0} (xs : List X) (i : ℕ) (x : X) → i < length xs → x ≡ get_or xs i x → drop i xs ≡ x ∷ drop (i + 1) xs
left_at xs i x lt is = let next : suc i ≡ i + 1 = omega arith in drop-cons xs i x lt ∙ ap (λ y. y ∷ drop (suc i) xs) (sym is) ∙ ap (λ n. x ∷ drop n xs) next

pub name_free : (files : Files) (names : List Text) (i : ℕ) (name : Text) → i < length names → name ≡ get_or names i name → Free files (drop i names) → fin.get files name ≡ None
name_free files names i name lt is f = (subst (Free files) (left_at names i name lt is) f).0

pub free_more : (old new : Files) (names : List Text) (i : ℕ) (name : Text) → i < length names → name ≡ get_or names i name → AllApart names → ((q : Text) → q ≢ name → fin.get new q ≡ fin.get old q)
    → Free old (drop i names) → Free new (drop (i + 1) names)
free_more old new names i name lt is apart others f =
    let split = left_at names i name lt is in
    still_free old new name (drop (i + 1) names) others (subst AllApart split (apart_from names i apart)).0 (subst (Free old) split f).1

-- one more file is taken in
pub files_more : (root : Text) (m : Contents) (names : List Text) (i : ℕ) (name : Text) (old new : Files) (all : Files) → i < length names → name ≡ get_or names i name → Takes (file_at root m name) old new
    → adding_files old (map (file_at root m) (drop i names)) ≡ all → adding_files new (map (file_at root m) (drop (i + 1) names)) ≡ all
files_more root m names i name old new all lt is t e =
    ap (λ f. adding_files f (map (file_at root m) (drop (i + 1) names))) t.files
    ∙ sym (ap (λ ns. adding_files old (map (file_at root m) ns)) (left_at names i name lt is)) ∙ e

pub small_more : (root : Text) (m : Contents) (names : List Text) (i : ℕ) (name : Text) (old new : Files) (all : Option Status) → i < length names → name ≡ get_or names i name → Takes (file_at root m name) old new
    → rule_size_answer (map (file_at root m) (drop i names)) ≡ all → rule_size_answer (map (file_at root m) (drop (i + 1) names)) ≡ all
small_more root m names i name old new all lt is t e =
    sym (rule_fits (file_at root m name) (map (file_at root m) (drop (i + 1) names)) t.small)
    ∙ sym (ap (λ ns. rule_size_answer (map (file_at root m) ns)) (left_at names i name lt is)) ∙ e

-- where one of them halts
pub halts_taking : (root : Text) (names : List Text) (i : ℕ) (name : Text) (told now : Option Contents) (f f1 f' : ℕ) (h : Halt) → f ≤ f1 → now ≡ told → i < length names → name ≡ get_or names i name
    → ((m : Contents) → told ≡ Some m → rule_size_answer (map (file_at root m) (drop i names)) ≡ rule_size_answer (files_below root m))
    → HaltsTakingOne root name now f1 f' h → HaltsTaking root told f f' h
halts_taking root names i name told now f f1 f' halt.Memory le same lt is before g = tt
halts_taking root names i name told now f f1 f' halt.Folders le same lt is before g = Rose-earlier f f1 f' le g
halts_taking root names i name told now f f1 f' halt.Ledger le same lt is before g = absurd g
halts_taking root names i name told now f f1 f' (halt.Answer status) le same lt is before g = (
  g.0,
  if_some _ told (λ m t. sym (before m t) ∙ ap (λ ns. rule_size_answer (map (file_at root m) ns)) (left_at names i name lt is)
      ∙ at_some (λ m. (more : List File) → rule_size_answer (file_at root m name ∷ more) ≡ Some status) now m (same ∙ t) g.1 (map (file_at root m) (drop (i + 1) names))),
)

-- a file that others are added to keeps its bytes, where none of them has its name
kept_adding : (files : Files) (name : Text) (more : List File) → Misses name (map (λ (f : File). f.path) more) → fin.get (adding_files files more) name ≡ fin.get files name
kept_adding files name [] m = refl
kept_adding files name (file ∷ more) m = kept_adding (fin.insert files file.path file.bytes) name more m.1 ∙ get-insert-other files file.path file.bytes name m.0

-- files that were added by their names are found by them
found_by : (files : Files) (more : List File) → AllApart (map (λ (f : File). f.path) more) → map (file_named (adding_files files more)) (map (λ (f : File). f.path) more) ≡ more
found_by files [] apart = refl
found_by files (file ∷ more) apart =
    ap (λ (o : Option Text). record { path = file.path; bytes = bytes_or_none o } ∷ map (file_named (adding_files (fin.insert files file.path file.bytes) more)) (map (λ (f : File). f.path) more))
    (kept_adding (fin.insert files file.path file.bytes) file.path more apart.0 ∙ get-insert-same files file.path file.bytes)
    ∙ ap (λ (fs : List File). file ∷ fs) (found_by (fin.insert files file.path file.bytes) more apart.1)

paths_of : (root : Text) (m : Contents) (names : List Text) → map (λ (f : File). f.path) (map (file_at root m) names) ≡ names
paths_of root m [] = refl
paths_of root m (name ∷ names) = ap (λ (ns : List Text). name ∷ ns) (paths_of root m names)

each_found : (root : Text) (m : Contents) (names : List Text) (files : Files) → IsStrictlySortedBy (slice_cmp nat_cmp) names → names ≡ paths_below root m → files ≡ named_files (files_below root m)
    → map (file_named files) names ≡ files_below root m
each_found root m names files rising are named =
    let paths = paths_of root m (paths_below root m) ∙ sym are in
    ap (λ (fs : Files). map (file_named fs) names) named ∙ ap (map (file_named (named_files (files_below root m)))) (sym paths)
    ∙ found_by fin.empty (files_below root m) (subst AllApart (sym paths) (sorted_apart names rising))

listed_few : (root : Text) (m : Contents) (paths : List Text) → IsListing most_rule_files (paths_below root m) paths → length paths ≤ most_rule_files → (paths ≡ paths_below root m) × (length (paths_below root m) ≤ most_rule_files)
listed_few root m paths (inl all) few = (all.1, all.0)
listed_few root m paths (inr many) few = absurd (let k = many.1 in omega arith)

-- once all of a folder are read
pub all_read : (root : Text) (told : Option Contents) (names : List Text) (files : Files) → IfSome told (λ m. IsListing most_rule_files (paths_below root m) names) → length names ≤ most_rule_files
    → IsStrictlySortedBy (slice_cmp nat_cmp) names → IfSome told (λ m. HasTakenAll root m files) → IfSome told (λ m. HasReadRules root m (record { names = names; files = files }))
all_read root told names files listed few rising all = if_some _ told (λ m t.
    let have = at_some (λ m. HasTakenAll root m files) told m t all in
    let list = listed_few root m names (at_some (λ m. IsListing most_rule_files (paths_below root m) names) told m t listed) few in
    let count : nat_lt most_rule_files (length (files_below root m)) ≡ false = le-ltb most_rule_files _ (subst (λ n. n ≤ most_rule_files) (sym (length-map (paths_below root m) (file_at root m))) list.1) in
    record {
      clear = ap (λ b. if b then Some (Limit RuleFiles root) else rule_size_answer (files_below root m)) count ∙ have.small;
      named = have.named;
      each = each_found root m names files rising list.0 have.named;
    })

-- before the first is taken in
pub files_first : (root : Text) (told : Option Contents) (names : List Text) (files : Files) → files ≡ fin.empty → IfSome told (λ m. names ≡ paths_below root m)
    → (m : Contents) → told ≡ Some m → adding_files files (map (file_at root m) names) ≡ named_files (files_below root m)
files_first root told names files e listed m t =
    ap (λ f. adding_files f (map (file_at root m) names)) e ∙ ap (λ ns. named_files (map (file_at root m) ns)) (at_some (λ m. names ≡ paths_below root m) told m t listed)

pub small_first : (root : Text) (told : Option Contents) (names : List Text) → IfSome told (λ m. names ≡ paths_below root m)
    → (m : Contents) → told ≡ Some m → rule_size_answer (map (file_at root m) names) ≡ rule_size_answer (files_below root m)
small_first root told names listed m t = ap (λ ns. rule_size_answer (map (file_at root m) ns)) (at_some (λ m. names ≡ paths_below root m) told m t listed)

-- once all are taken in
pub all_taken : (root : Text) (told : Option Contents) (names : List Text) (i : ℕ) (files : Files) → length names ≤ i
    → ((m : Contents) → told ≡ Some m → adding_files files (map (file_at root m) (drop i names)) ≡ named_files (files_below root m))
    → ((m : Contents) → told ≡ Some m → rule_size_answer (map (file_at root m) (drop i names)) ≡ rule_size_answer (files_below root m))
    → IfSome told (λ m. HasTakenAll root m files)
all_taken root told names i files end named small = if_some _ told (λ m t.
    let none = drop_all i names end in
    record {
      small = sym (small m t) ∙ ap (λ ns. rule_size_answer (map (file_at root m) ns)) none;
      named = sym (ap (λ ns. adding_files files (map (file_at root m) ns)) none) ∙ named m t;
    })

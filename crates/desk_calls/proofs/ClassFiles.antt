-- The classes of an application, path by path.
use Rattle.std.proofs.Common.{◌≡◌, ◌≤◌, ◌<◌, ℕ, suc, ◌+◌, Bool, true, false, List, [], ◌∷◌, ◌++◌, length, map, map-id, take, drop, get_or, Option, Some, None, refl, sym, ap, ◌∙◌, subst, arith, length-append}
use Rattle.std.specs.Prelude.{IfSome, ◌&&◌, filter, nat_lt, if◌then◌else◌, Ok, Err}
use Rattle.std.proofs.lemmas.List.{map-append, length-map}
use Rattle.std.proofs.lemmas.List.Elements.{filter-append}
use Rattle.desk_base.specs.Counts.{Rose-earlier}
use Rattle.desk_base.specs.Limits.{file_size}
use Rattle.desk_base.specs.Names.{Text, Package}
use Rattle.desk_base.proofs.Results.{at_some}
use Rattle.desk_folders.specs.Contents.{Contents, File, file_at, files_below, paths_below}
use Rattle.desk_intake.specs.Halts.{HaltsAt}
use Rattle.desk_intake.specs.Limits.{itself, paths_answer}
use Rattle.desk_intake.specs.Standing.{first_of}
use Rattle.desk_intake.specs.declared.halts.Halt.{Halt}
use Rattle.desk_intake.specs.declared.halts.Halt.TheVariants as halt
use Rattle.desk_readings.proofs.Fronts.{if_some, split_at}
use Rattle.desk_report.specs.declared.status.LimitKind.TheVariants.{FileSize}
use Rattle.desk_report.specs.declared.status.Status.{Status}
use Rattle.desk_report.specs.declared.status.Status.TheVariants.{Limit}
use Rattle.desk_sites.specs.declared.class.ClassSites.{ClassSites}
use Rattle.desk_calls.specs.Answers.{calls_answer, found_among, found_in, unless_limit}
use Rattle.desk_calls.specs.Files.{classes_of, sites_in}
use Rattle.desk_calls.specs.Listings.{class_size_answer, is_class_file}
use Rattle.desk_calls.specs.Reading.{HaltsAnswering, ReadsOne}
use Rattle.desk_calls.specs.Told.{calls_of}
use Rattle.desk_calls.specs.declared.batches.ClassFile.{ClassFile}
use Rattle.desk_calls.specs.declared.telling.Calls.{Calls}

-- of these paths the class files were read, and none has too many bytes
pub record HasFound (scope : Package) (from : Text) (m : Contents) (paths : List Text) (found : List ClassSites) : Type 0 where
  pub are : found ≡ found_among scope (map (file_at from m) paths)
  pub fit : class_size_answer (map (file_at from m) paths) ≡ None

-- ---- path by path

pub found_first : (scope : Package) (from : Text) (m : Contents) (found : List ClassSites) (batch : List ClassFile) → found ≡ [] → batch ≡ [] → HasFound scope from m [] (found ++ map (sites_in scope) batch)
found_first scope from m found batch none empty = record {
  are = ap (λ (f : List ClassSites). f ++ map (sites_in scope) batch) none ∙ ap (map (sites_in scope)) empty;
  fit = refl;
}

pub none_found : (scope : Package) (found : List ClassSites) (batch : List ClassFile) → found ≡ [] → batch ≡ [] → length (found ++ map (sites_in scope) batch) ≤ 0
none_found scope found batch none empty =
    let size : length (found ++ map (sites_in scope) batch) ≡ 0 = ap (λ (f : List ClassSites). length (f ++ map (sites_in scope) batch)) none ∙ ap (λ (b : List ClassFile). length (map (sites_in scope) b)) empty in
    omega (arith, size)

among_behind : (scope : Package) (xs ys : List File) → found_among scope (xs ++ ys) ≡ found_among scope xs ++ found_among scope ys
among_behind scope xs ys = ap (map (found_in scope)) (filter-append is_class_file xs ys) ∙ map-append (found_in scope) (filter is_class_file xs) (filter is_class_file ys)

size_step : (large : Bool) (path : Text) (front all rest : Option Status) → (front ≡ None → all ≡ rest) → (if large then Some (Limit FileSize path) else front) ≡ None → (if large then Some (Limit FileSize path) else all) ≡ rest
size_step true path front all rest h e = absurd cc
size_step false path front all rest h e = h e

size_behind : (xs ys : List File) → class_size_answer xs ≡ None → class_size_answer (xs ++ ys) ≡ class_size_answer ys
size_behind [] ys e = refl
size_behind (x ∷ xs) ys e = size_step (is_class_file x && nat_lt file_size (length x.bytes)) x.path (class_size_answer xs) (class_size_answer (xs ++ ys)) (class_size_answer ys) (size_behind xs ys) e

-- one path more
pub found_more : (scope : Package) (from : Text) (m : Contents) (paths : List Text) (path : Text) (found new : List ClassSites) (read : Option ClassFile) → HasFound scope from m paths found → ReadsOne from m path read
    → new ≡ found ++ map (sites_in scope) (classes_of read) → HasFound scope from m (paths ++ path ∷ []) new
found_more scope from m paths path found new read h one grown = record {
  are = grown ∙ ap (λ (f : List ClassSites). f ++ map (sites_in scope) (classes_of read)) h.are
      ∙ ap (λ (f : List ClassSites). found_among scope (map (file_at from m) paths) ++ f) (one.are scope)
      ∙ sym (among_behind scope (map (file_at from m) paths) (file_at from m path ∷ []))
      ∙ ap (found_among scope) (sym (map-append (file_at from m) paths (path ∷ [])));
  fit = ap class_size_answer (map-append (file_at from m) paths (path ∷ [])) ∙ size_behind (map (file_at from m) paths) (file_at from m path ∷ []) h.fit ∙ one.fits;
}

few_read : (read : Option ClassFile) → length (classes_of read) ≤ 1
few_read None = omega arith
few_read (Some file) = omega arith

pub count_more : (scope : Package) (found new : List ClassSites) (read : Option ClassFile) (n : ℕ) → length found ≤ n → new ≡ found ++ map (sites_in scope) (classes_of read) → length new ≤ n + 1
count_more scope found new read n le grown =
    let few = few_read read in
    let size : length new ≡ length found + length (classes_of read) = ap (λ (f : List ClassSites). length f) grown ∙ length-append found (map (sites_in scope) (classes_of read))
    ∙ ap (λ k. length found + k) (length-map (classes_of read) (sites_in scope)) in
    omega (arith, few, size, le)

pub split_now : (paths gone : List Text) (path : Text) → map (λ x. x) gone ≡ take (length gone) paths → length gone < length paths → path ≡ get_or paths (length gone) path → paths ≡ gone ++ path ∷ drop (suc (length gone)) paths
split_now paths gone path so_far lt is = split_at paths (length gone) path lt is ∙ ap (λ (xs : List Text). xs ++ path ∷ drop (suc (length gone)) paths) (sym so_far ∙ map-id gone)

-- the paths that are gone over are those that are listed
pub listed_items : (told : Option Contents) (from : Text) (paths items : List Text) → items ≡ paths → IfSome told (λ m. paths ≡ paths_below from m) → IfSome told (λ m. items ≡ paths_below from m)
listed_items told from paths items e h = let P : List Text → Type 0 = λ ps. IfSome told (λ m. ps ≡ paths_below from m) in subst P (sym e) h

-- ---- where it halts

size_first : (x : File) (xs : List File) (status : Status) → class_size_answer (x ∷ []) ≡ Some status → class_size_answer (x ∷ xs) ≡ Some status
size_first x xs status e = by (is_class_file x && nat_lt file_size (length x.bytes)) e where
  by : (large : Bool) → (if large then Some (Limit FileSize x.path) else None) ≡ Some status → (if large then Some (Limit FileSize x.path) else class_size_answer xs) ≡ Some status
  by true e = e
  by false e = absurd cc

-- what stands against a class file among those below the root stands against all
size_stands : (from : Text) (m : Contents) (all gone rest : List Text) (path : Text) (status : Status) → all ≡ paths_below from m → all ≡ gone ++ path ∷ rest → class_size_answer (map (file_at from m) gone) ≡ None
    → class_size_answer (file_at from m path ∷ []) ≡ Some status → class_size_answer (files_below from m) ≡ Some status
size_stands from m all gone rest path status listed split fit e =
    ap (λ (ps : List Text). class_size_answer (map (file_at from m) ps)) (sym listed ∙ split)
    ∙ ap class_size_answer (map-append (file_at from m) gone (path ∷ rest))
    ∙ size_behind (map (file_at from m) gone) (file_at from m path ∷ map (file_at from m) rest) fit
    ∙ size_first (file_at from m path) (map (file_at from m) rest) status e

limit_stands : (scope : Package) (from : Text) (m : Contents) (status : Status) → paths_answer from itself (paths_below from m) ≡ None → class_size_answer (files_below from m) ≡ Some status → calls_answer scope from m ≡ Err status
limit_stands scope from m status clear e =
    let calls : Calls = calls_of (found_among scope (files_below from m)) in
    ap (λ o. unless_limit (first_of o (class_size_answer (files_below from m))) calls) clear ∙ ap (λ o. unless_limit o calls) e

pub halts_reading : (scope : Package) (from : Text) (told now : Option Contents) (all gone rest : List Text) (path : Text) (f f1 f' : ℕ) (h : Halt) → now ≡ told → f ≤ f1 → IfSome told (λ m. all ≡ paths_below from m)
    → IfSome told (λ m. paths_answer from itself (paths_below from m) ≡ None) → all ≡ gone ++ path ∷ rest → ((m : Contents) → told ≡ Some m → class_size_answer (map (file_at from m) gone) ≡ None)
    → HaltsAt (λ m. class_size_answer (file_at from m path ∷ [])) now f1 f' h → HaltsAnswering (calls_answer scope from) told f f' h
halts_reading scope from told now all gone rest path f f1 f' halt.Memory same le listed clear split fit g = tt
halts_reading scope from told now all gone rest path f f1 f' halt.Folders same le listed clear split fit g = Rose-earlier f f1 f' le g
halts_reading scope from told now all gone rest path f f1 f' halt.Ledger same le listed clear split fit g = absurd g
halts_reading scope from told now all gone rest path f f1 f' (halt.Answer status) same le listed clear split fit g = (
  g.0,
  if_some (λ m. calls_answer scope from m ≡ Err status) told (λ m e.
      limit_stands scope from m status (at_some (λ m. paths_answer from itself (paths_below from m) ≡ None) told m e clear)
      (size_stands from m all gone rest path status (at_some (λ m. all ≡ paths_below from m) told m e listed) split (fit m e)
      (at_some (λ m. class_size_answer (file_at from m path ∷ []) ≡ Some status) now m (same ∙ e) g.1))),
)

pub halts_listing : (scope : Package) (from : Text) (told : Option Contents) (f f' : ℕ) (h : Halt) → HaltsAt (λ m. paths_answer from itself (paths_below from m)) told f f' h → HaltsAnswering (calls_answer scope from) told f f' h
halts_listing scope from told f f' halt.Memory g = tt
halts_listing scope from told f f' halt.Folders g = g
halts_listing scope from told f f' halt.Ledger g = absurd g
halts_listing scope from told f f' (halt.Answer status) g = (
  g.0,
  if_some (λ m. calls_answer scope from m ≡ Err status) told (λ m e.
      ap (λ o. unless_limit (first_of o (class_size_answer (files_below from m))) (calls_of (found_among scope (files_below from m)))) (at_some (λ m. paths_answer from itself (paths_below from m) ≡ Some status) told m e g.1)),
)

-- ---- once all are read

pub all_answered : (scope : Package) (from : Text) (told : Option Contents) (all gone : List Text) (found : List ClassSites) (calls : Calls) → IfSome told (λ m. all ≡ paths_below from m)
    → IfSome told (λ m. paths_answer from itself (paths_below from m) ≡ None) → map (λ x. x) gone ≡ all → ((m : Contents) → told ≡ Some m → HasFound scope from m gone found) → calls ≡ calls_of found
    → IfSome told (λ m. calls_answer scope from m ≡ Ok calls)
all_answered scope from told all gone found calls listed clear end have is = if_some (λ m. calls_answer scope from m ≡ Ok calls) told (λ m e.
    let h = have m e in
    let same : gone ≡ paths_below from m = sym (map-id gone) ∙ end ∙ at_some (λ m. all ≡ paths_below from m) told m e listed in
    let told_calls : Calls = calls_of (found_among scope (files_below from m)) in
    ap (λ o. unless_limit (first_of o (class_size_answer (files_below from m))) told_calls) (at_some (λ m. paths_answer from itself (paths_below from m) ≡ None) told m e clear)
    ∙ ap (λ o. unless_limit o told_calls) (sym (ap (λ (ps : List Text). class_size_answer (map (file_at from m) ps)) same) ∙ h.fit)
    ∙ ap Ok (sym (is ∙ ap calls_of (h.are ∙ ap (λ (ps : List Text). found_among scope (map (file_at from m) ps)) same))))

-- How many defined names a class holds.
use Rattle.std.proofs.Common.{◌≡◌, ℕ, ◌+◌, ◌<◌, ◌≢◌, Bool, true, false, cond, List, [], ◌∷◌, ◌++◌, length, take, get_or, Ok, refl, sym, ap, ◌∙◌, count_by, if◌then◌else◌, arith}
use Rattle.std.specs.List.{filter, list_any, IsDistinct}
use Rattle.std.specs.Str.{bytes_eq}
use Rattle.std.specs.Ordering.{nat_cmp, eq_by_cmp}
use Rattle.std.specs.Cmp.Lexicographic.{slice_cmp}
use Rattle.std.proofs.lemmas.Bool.{false_from_ne_true, both_ways}
use Rattle.std.proofs.lemmas.Cmp.{nat_list_eq_equiv}
use Rattle.std.proofs.lemmas.List.Kept.{AllPairs-filter}
use Rattle.std.proofs.lemmas.List.Sums.{sum_by-cons, length-filter, count_by_more_yes, count_by_more_no}
use Rattle.std.proofs.lemmas.Map.Keys.{IsDistinct-push, IsDistinct-from_sorted}
use Rattle.std.proofs.lemmas.Map.Made.{length-from_same_keys, AllPairs-from_IsDistinct, IsDistinct-from_AllPairs}
use Rattle.std.proofs.lemmas.Map.Text.{is_eq-slice_cmp}
use Rattle.std.proofs.lemmas.Slice.Eq.{bytes_eq-Decides}
use Rattle.desk_base.proofs.Bools.{same_answer}
use Rattle.desk_base.specs.Names.{Text}
use Rattle.desk_format.specs.Classes.{Class, read_class}
use Rattle.desk_class.specs.Held.{is_held, found_all, each_once, ascending, held_names}
use Rattle.desk_class.proofs.Ascending.{ascending_sorted}
use Rattle.desk_class.proofs.Named.{held_is}
use Rattle.desk_class.proofs.Once.{to_held, in_once, from_once}
use Rattle.desk_graph.specs.Application.{defined_names, link_count}
use Rattle.desk_graph.specs.Graphs.{is_held_in, places_held, links_of}
use Rattle.desk_graph.specs.Scans.{scan_of}
use Rattle.desk_graph.specs.declared.scanned.Scanned.{Scanned}
use Rattle.desk_graph.proofs.Building.{from_filter, to_filter, same_count}
use Rattle.desk_graph.proofs.Orders.{tested, from_tested}
use Rattle.desk_graph.proofs.Sets.{distinct_by}

-- whether a text is one of these
abbrev one_of : List Text → Text → Bool
one_of ts t = list_any (bytes_eq t) ts

-- ---- one more name

module _ (test : Text → Bool) (held : List Text) (i : ℕ) (name : Text) (h : i < length held) (at : name ≡ get_or held i []) (n n' : ℕ) (before : n ≡ count_by test (take i held)) where
  pub counted : test name ≡ true → n' ≡ n + 1 → n' ≡ count_by test (take (i + 1) held)
  counted passes same = same ∙ ap (λ (k : ℕ). k + 1) before ∙ sym (count_by_more_yes test held i [] h (ap test (sym at) ∙ passes))

  pub passed_over : test name ≡ false → n' ≡ n → n' ≡ count_by test (take (i + 1) held)
  passed_over fails same = same ∙ before ∙ sym (count_by_more_no test held i [] h (ap test (sym at) ∙ fails))

-- ---- texts that stand once each

found_apart : (s ts : List Text) → IsDistinct bytes_eq s → IsDistinct bytes_eq (found_all s ts)
found_apart s [] apart = apart
found_apart s (t ∷ ts) apart = found_apart (if is_held s t then s else s ++ t ∷ []) ts (by (is_held s t) refl)
  where
    by : (b : Bool) → is_held s t ≡ b → IsDistinct bytes_eq (if b then s else s ++ t ∷ [])
    by true e = apart
    by false e = IsDistinct-push nat_list_eq_equiv s t apart (false_from_ne_true (one_of s t) (λ k. both_ways (is_held s t) e (to_held s t (from_tested s t k))))

none_apart : IsDistinct bytes_eq []
unfolding IsDistinct
none_apart = tt

once_apart : (ts : List Text) → IsDistinct bytes_eq (each_once ts)
once_apart ts = found_apart [] ts none_apart

ascending_apart : (ts : List Text) → IsDistinct bytes_eq (ascending ts)
ascending_apart ts = distinct_by (eq_by_cmp (slice_cmp nat_cmp)) bytes_eq is_eq-slice_cmp (ascending ts) (IsDistinct-from_sorted (slice_cmp nat_cmp) (ascending ts) (ascending_sorted ts))

kept_apart : (p : Text → Bool) (xs : List Text) → IsDistinct bytes_eq xs → IsDistinct bytes_eq (filter p xs)
kept_apart p xs apart = IsDistinct-from_AllPairs bytes_eq-Decides (filter p xs) (AllPairs-filter (λ (x y : Text). x ≢ y) p xs (AllPairs-from_IsDistinct bytes_eq-Decides xs apart))

-- ---- counted from either side

-- the texts of one list that another has
both_in : (xs ys : List Text) (q : Text) → one_of (filter (one_of ys) xs) q ≡ true → one_of (filter (one_of xs) ys) q ≡ true
both_in xs ys q e =
    let p = from_filter (one_of ys) xs q (from_tested (filter (one_of ys) xs) q e) in
    tested (filter (one_of xs) ys) q (to_filter (one_of xs) ys q (tested xs q p.1) (from_tested ys q p.0))

-- of two lists without repetition, each has as many texts of the other
either_side : (xs ys : List Text) → IsDistinct bytes_eq xs → IsDistinct bytes_eq ys → count_by (one_of ys) xs ≡ count_by (one_of xs) ys
either_side xs ys a b =
    sym (length-filter (one_of ys) xs)
    ∙ length-from_same_keys nat_list_eq_equiv (filter (one_of ys) xs) (filter (one_of xs) ys) (kept_apart (one_of ys) xs a) (kept_apart (one_of xs) ys b)
    (λ q. same_answer (one_of (filter (one_of ys) xs) q) (one_of (filter (one_of xs) ys) q) (both_in xs ys q) (both_in ys xs q))
    ∙ length-filter (one_of xs) ys

-- as many places as names that pass
places_counted : (held : Text → Bool) (k : ℕ) (ds : List Text) → count_by held ds ≡ length (places_held held k ds)
places_counted held k [] = refl
places_counted held k (d ∷ ds) =
    let later : count_by held ds ≡ length (places_held held (k + 1) ds) = places_counted held (k + 1) ds in
    let here : cond (held d) 1 0 + count_by held ds ≡ length (cond (held d) (k ∷ places_held held (k + 1) ds) (places_held held (k + 1) ds)) =
    elim (held d) as (λ (b : Bool). cond b 1 0 + count_by held ds ≡ length (cond b (k ∷ places_held held (k + 1) ds) (places_held held (k + 1) ds))) [
      | true ↦ omega (arith, later)
      | false ↦ omega (arith, later)
    ] in
    sum_by-cons (λ x. cond (held x) 1 0) d ds ∙ here

-- Of a class that was scanned, so many defined names are counted as its bytes have links.
pub links_counted : (ss : List Scanned) (bytes path : Text) (selected : Bool) (c : Class) → read_class bytes ≡ Ok c → link_count (ascending (defined_names ss)) (scan_of path selected c) ≡ length (links_of (ascending (defined_names ss)) bytes)
links_counted ss bytes path selected c reads =
    let names = held_names c in
    let defined = ascending (defined_names ss) in
    either_side (each_once names) defined (once_apart names) (ascending_apart (defined_names ss))
    ∙ same_count (one_of (each_once names)) (one_of names) defined (λ t. same_answer (one_of (each_once names) t) (one_of names t)
    (λ e. tested names t (from_once names t (from_tested (each_once names) t e))) (λ e. tested (each_once names) t (in_once names t (from_tested names t e))))
    ∙ ap (λ (ns : List Text). count_by (one_of ns) defined) (sym (held_is bytes c reads))
    ∙ places_counted (is_held_in bytes) 0 defined

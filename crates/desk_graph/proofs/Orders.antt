-- Names of an application in byte order.
use Rattle.std.proofs.Common.{◌≡◌, inl, inr, ℕ, zero, suc, ◌+◌, ◌<◌, true, List, [], ◌∷◌, length, drop, get_or, sym, ap, ◌∙◌, arith, add-one}
use Rattle.std.specs.List.{AllByRecursion, list_any}
use Rattle.std.specs.Str.{bytes_eq}
use Rattle.std.proofs.lemmas.Bool.{or_left, or_right, or_cases}
use Rattle.std.proofs.lemmas.Slice.Eq.{bytes_eq-Decides}
use Rattle.std.specs.List.Sorted.{IsStrictlySortedBy}
use Rattle.std.specs.declared.cmp.Ordering.{Ordering}
use Rattle.std.specs.declared.cmp.Ordering.TheVariants.{Less}
use Rattle.std.specs.Ordering.{nat_cmp}
use Rattle.std.specs.Cmp.Lexicographic.{slice_cmp}
use Rattle.std.proofs.Math.Seq.{drop-cons}
use Rattle.desk_base.specs.Names.{Text}
use Rattle.desk_packages.specs.Keys.{RiseBy}
use Rattle.desk_packages.proofs.Picks.{In}
use Rattle.desk_class.specs.Held.{put_all}
use Rattle.desk_class.proofs.Ascending.{in_back, put_append}
use Rattle.desk_graph.specs.Application.{defined_names, names_in, names}
use Rattle.desk_graph.specs.Tables.{as_is}
use Rattle.desk_graph.specs.declared.scanned.Scanned.{Scanned}

abbrev cmp : Text → Text → Ordering
cmp = slice_cmp nat_cmp

all_at : (P : Text → Type 0) (xs : List Text) (j : ℕ) (d : Text) → AllByRecursion P xs → j < length xs → P (get_or xs j d)
all_at P [] j d all h = absurd (omega arith)
all_at P (x ∷ xs) zero d all h = all.0
all_at P (x ∷ xs) (suc j) d all h = all_at P xs j d all.1 (omega arith)

pub rises : (xs : List Text) → IsStrictlySortedBy (slice_cmp nat_cmp) xs → RiseBy as_is xs
unfolding IsStrictlySortedBy
rises [] s i j d lt h = absurd (omega arith)
rises (x ∷ xs) s i zero d lt h = absurd (omega arith)
rises (x ∷ xs) s zero (suc j) d lt h = all_at (λ z. cmp x z ≡ Less) xs j d s.0 (omega arith)
rises (x ∷ xs) s (suc i) (suc j) d lt h = rises xs s.1 i j d (omega arith) (omega arith)

-- ---- a class in turn

-- the names of one more class
pub names_step : (classes : List Scanned) (i : ℕ) (item : Scanned) (ks ks' r : List Text) → i < length classes → item ≡ get_or classes i item → ks' ≡ put_all ks (names_in item) → put_all ks (names (drop i classes)) ≡ r
    → put_all ks' (names (drop (i + 1) classes)) ≡ r
names_step classes i item ks ks' r h is put before =
    let cut : drop i classes ≡ item ∷ drop (suc i) classes = drop-cons classes i item h ∙ ap (λ (s : Scanned). s ∷ drop (suc i) classes) (sym is) in
    ap (λ (n : ℕ). put_all ks' (names (drop n classes))) (add-one i)
    ∙ ap (λ (xs : List Text). put_all xs (names (drop (suc i) classes))) put
    ∙ sym (put_append ks (names_in item) (names (drop (suc i) classes)))
    ∙ ap (λ (xs : List Scanned). put_all ks (names xs)) (sym cut)
    ∙ before

-- ---- defined names are names

pub defined_named : (ss : List Scanned) (q : Text) → In (defined_names ss) q → In (names ss) q
defined_named [] q h = h
defined_named (s ∷ ss) q (inl e) = inl e
defined_named (s ∷ ss) q (inr h) = in_back (names_in s) (names ss) q (defined_named ss q h)

-- ---- a test of being one of these

pub tested : (ts : List Text) (t : Text) → In ts t → list_any (bytes_eq t) ts ≡ true
tested [] t h = absurd h
tested (x ∷ ts) t (inl same) = or_left _ _ ((bytes_eq-Decides t x).1 (sym same))
tested (x ∷ ts) t (inr h) = or_right _ _ (tested ts t h)

pub from_tested : (ts : List Text) (t : Text) → list_any (bytes_eq t) ts ≡ true → In ts t
from_tested [] t h = absurd cc
from_tested (x ∷ ts) t h = elim (or_cases _ _ h) [ inl e ↦ inl (sym ((bytes_eq-Decides t x).0 e)) | inr e ↦ inr (from_tested ts t e) ]

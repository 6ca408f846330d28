-- Members of which no two have one mark.
use Rattle.std.proofs.Common.{◌≡◌, ◌≢◌, ℕ, ◌+◌, ◌<◌, ◌≤◌, Bool, true, false, ◌&&◌, ◌||◌, List, [], ◌∷◌, ◌++◌, length, map, get_or, None, nat_eq, bytes_eq, refl, sym, ap, ap₂, subst, ◌∙◌, append_assoc, arith}
use Rattle.std.specs.List.{AllByRecursion, IsDistinct, list_any}
use Rattle.std.specs.List.Sorted.{IsPermutation, IsSorted, IsStrictlyIncreasing}
use Rattle.std.specs.Ordering.{nat_cmp, eq_by_cmp}
use Rattle.std.proofs.lemmas.Bool.{and_parts, false_from_ne_true}
use Rattle.std.proofs.lemmas.Bool.Decides.{nat_tests}
use Rattle.std.proofs.lemmas.List.Sorted.{IsNonDecreasingBy-from_sort, IsPermutation-sym}
use Rattle.std.proofs.lemmas.Map.Keys.{IsDistinct-head, IsDistinct-tail, IsDistinct-from_sorted, IsDistinct-IsPermutation, sorted_from_strictly_increasing}
use Rattle.std.proofs.lemmas.Slice.Eq.{bytes_eq-Decides}
use Rattle.desk_base.specs.Names.{Text}
use Rattle.desk_base.proofs.Orderings.{is_eq-nat_cmp}
use Rattle.desk_format.specs.declared.members.Member.{Member}
use Rattle.desk_format.specs.Members.{Named, same_kind, are_twins, twins_behind, first_twins}
use Rattle.desk_class.specs.Marks.{named_mark}
use Rattle.desk_class.proofs.Pairs.{none_here}

-- whether two numbers are one
abbrev same : ℕ → ℕ → Bool
same = eq_by_cmp nat_cmp

same_flips : (x y : ℕ) → same x y ≡ same y x
same_flips x y =
    let flips : nat_eq x y ≡ nat_eq y x = grind (arith, nat_tests) in
    is_eq-nat_cmp x y ∙ flips ∙ sym (is_eq-nat_cmp y x)

same_is : (x y : ℕ) → x ≡ y → same x y ≡ true
same_is x y e =
    let is : nat_eq x y ≡ true = grind (arith, nat_tests) in
    is_eq-nat_cmp x y ∙ is

-- twins have one mark
twin_marks : (named : Member → Named) (a b : Member) → are_twins named a b ≡ true → named_mark (named a) ≡ named_mark (named b)
twin_marks named a b h =
    let both = and_parts (bytes_eq (named a).name (named b).name) (bytes_eq (named a).descriptor (named b).descriptor)
    (and_parts (same_kind a.method b.method) (bytes_eq (named a).name (named b).name && bytes_eq (named a).descriptor (named b).descriptor) h).1 in
    ap₂ (λ (name descriptor : Text). named_mark (record { name = name; descriptor = descriptor }))
    ((bytes_eq-Decides (named a).name (named b).name).0 both.0) ((bytes_eq-Decides (named a).descriptor (named b).descriptor).0 both.1)

all_at : (P : ℕ → Type 0) (f : Member → ℕ) (before rest : List Member) (m : Member) → AllByRecursion P (map f (before ++ m ∷ rest)) → P (f m)
all_at P f [] rest m h = h.0
all_at P f (b ∷ before) rest m h = all_at P f before rest m h.1

-- no member is the twin of one that has another mark
apart_here : (named : Member → Named) (before rest : List Member) (m : Member) → IsDistinct same (map (λ x. named_mark (named x)) (before ++ m ∷ rest)) → list_any (λ b. are_twins named b m) before ≡ false
apart_here named [] rest m h = refl
apart_here named (b ∷ before) rest m h =
    let mark : Member → ℕ = λ x. named_mark (named x) in
    let other : same (mark b) (mark m) ≡ false = all_at (λ y. same (mark b) y ≡ false) mark before rest m (IsDistinct-head same (mark b) (map mark (before ++ m ∷ rest)) h) in
    let no : are_twins named b m ≡ false = false_from_ne_true (are_twins named b m) (λ twins. differ (same (mark b) (mark m)) (same_is (mark b) (mark m) (twin_marks named b m twins)) other) in
    ap (λ (x : Bool). x || list_any (λ y. are_twins named y m) before) no ∙ apart_here named before rest m (IsDistinct-tail same (mark b) (map mark (before ++ m ∷ rest)) h)
  where
    differ : (x : Bool) → x ≡ true → x ≡ false → ⊥
    differ x e h = cc

none_behind : (named : Member → Named) (before rest : List Member) → IsDistinct same (map (λ x. named_mark (named x)) (before ++ rest)) → twins_behind named before rest ≡ None
none_behind named before [] h = refl
none_behind named before (m ∷ rest) h =
    sym (none_here named before rest m (twins_behind named before (m ∷ rest)) (apart_here named before rest m h) refl)
    ∙ none_behind named (before ++ m ∷ []) rest (subst (λ (ms : List Member). IsDistinct same (map (λ x. named_mark (named x)) ms)) (sym (append_assoc before (m ∷ []) rest)) h)

-- one member has no twin
pub few_apart : (named : Member → Named) (ms : List Member) → length ms < 2 → first_twins named ms ≡ None
few_apart named [] h = refl
few_apart named (m ∷ []) h = refl
few_apart named (m ∷ (n ∷ ms)) h = absurd (omega arith)

-- Members have no twins where no two neighbours are equal among their marks in order.
pub no_twins : (named : Member → Named) (ms : List Member) (marks sorted : List ℕ) → marks ≡ map (λ x. named_mark (named x)) ms → IsPermutation marks sorted → IsSorted nat_cmp sorted
    → ((k : ℕ) → k + 1 < length sorted → get_or sorted k 0 ≢ get_or sorted (k + 1) 0) → first_twins named ms ≡ None
no_twins named ms marks sorted is moved up apart =
    let rising : IsStrictlyIncreasing sorted = λ k within.
    let le : get_or sorted k 0 ≤ get_or sorted (k + 1) 0 = IsNonDecreasingBy-from_sort (λ (x : ℕ). x) sorted up k (k + 1) 0 (omega arith) within in
    let ne : get_or sorted k 0 ≢ get_or sorted (k + 1) 0 = apart k within in
    omega arith in
    none_behind named [] ms
    (subst (IsDistinct same) is (IsDistinct-IsPermutation same same_flips sorted marks (IsPermutation-sym marks sorted moved) (IsDistinct-from_sorted nat_cmp sorted (sorted_from_strictly_increasing sorted rising))))

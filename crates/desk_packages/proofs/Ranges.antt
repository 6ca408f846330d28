-- The items whose keys begin with a text stand side by side where the keys rise.
use Rattle.std.proofs.Common.{◌≡◌, ◌<◌, ◌≤◌, ◌+◌, ◌-◌, ℕ, zero, suc, Bool, true, false, cond, List, [], ◌∷◌, length, take, drop, get_or, refl, sym, ap, ◌∙◌, ◌==◌, ◌&&◌, inl, inr, arith}
use Rattle.std.specs.declared.cmp.Ordering.{Ordering}
use Rattle.std.specs.declared.cmp.Ordering.TheVariants.{Less, Equal, Greater}
use Rattle.std.specs.Ordering.{nat_cmp, is_lt, ordering_then}
use Rattle.std.specs.Cmp.{nat_cmp_is}
use Rattle.std.specs.Cmp.Lexicographic.{slice_cmp}
use Rattle.std.specs.List.{filter, starts_with}
use Rattle.std.specs.Str.{bytes_eq}
use Rattle.std.proofs.lemmas.Bool.{both_ways, cases_lt, cases_order, cases_Bool, eqb-true, eq-eqb}
use Rattle.std.proofs.lemmas.List.{get_or_default, get_or-drop, length-drop}
use Rattle.std.proofs.lemmas.Cmp.{nat_list_cmp_total, nat_cmp_total, tied_itself}
use Rattle.std.proofs.lemmas.Slice.Eq.{bytes_eq-Decides}
use Rattle.desk_base.specs.Names.{Text}
use Rattle.desk_base.proofs.Orderings.{less_is, then_is}
use Rattle.desk_packages.specs.Keys.{RiseBy, IsNowhere, IsPlaceOf, IsCutAt, IsLeading}

pub tied : (x c : ℕ) → c ≡ x → nat_cmp x c ≡ Equal
tied x c same = rw same (tied_itself nat_cmp_total x)

-- what begins with a text doesn't stand before it
pub before_none : (key start : Text) → is_lt (slice_cmp nat_cmp key start) ≡ true → starts_with ◌==◌ key start ≡ false
before_none [] [] less = absurd cc
before_none (x ∷ xs) [] less = absurd cc
before_none [] (c ∷ cs) less = refl
before_none (x ∷ xs) (c ∷ cs) less = elim (cases_Bool (c == x)) [
  | inr apart ↦ ap (λ (b : Bool). b && starts_with ◌==◌ xs cs) apart
  | inl same ↦
      let later : is_lt (slice_cmp nat_cmp xs cs) ≡ true = sym (ap is_lt (then_is (nat_cmp x c) (slice_cmp nat_cmp xs cs) (tied x c (eqb-true c x same)))) ∙ less in
      ap (λ (b : Bool). b && starts_with ◌==◌ xs cs) same ∙ before_none xs cs later
]

-- behind a text that doesn't stand before a start and doesn't begin with it, nothing begins with it
behind_none : (start key other : Text) → is_lt (slice_cmp nat_cmp key start) ≡ false → starts_with ◌==◌ key start ≡ false → slice_cmp nat_cmp key other ≡ Less → starts_with ◌==◌ other start ≡ false
behind_none [] key other from apart more = absurd cc
behind_none (c ∷ cs) [] other from apart more = absurd cc
behind_none (c ∷ cs) (x ∷ xs) [] from apart more = refl
behind_none (c ∷ cs) (x ∷ xs) (y ∷ ys) from apart more = elim (cases_Bool (c == y)) [
  | inr other ↦ ap (λ (b : Bool). b && starts_with ◌==◌ ys cs) other
  | inl here ↦
      let same : c ≡ y = eqb-true c y here in
      elim (cases_order x c) [
        | inl tie ↦
            let later : is_lt (slice_cmp nat_cmp xs cs) ≡ false = sym (ap is_lt (then_is (nat_cmp x c) (slice_cmp nat_cmp xs cs) (tied x c (sym tie)))) ∙ from in
            let rest : starts_with ◌==◌ xs cs ≡ false = sym (ap (λ (b : Bool). b && starts_with ◌==◌ xs cs) (eq-eqb c x (sym tie))) ∙ apart in
            let less : slice_cmp nat_cmp xs ys ≡ Less = sym (then_is (nat_cmp x y) (slice_cmp nat_cmp xs ys) (tied x y (sym same ∙ sym tie))) ∙ more in
            ap (λ (b : Bool). b && starts_with ◌==◌ ys cs) here ∙ behind_none cs xs ys later rest less
        | inr two ↦ elim two [
          | inl lt ↦
              let first : nat_cmp x c ≡ Less = sym (nat_cmp_is x c Less lt) in
              absurd (both_ways _ from (ap (λ (o : Ordering). is_lt (ordering_then o (slice_cmp nat_cmp xs cs))) first))
          | inr gt ↦
              let first : nat_cmp x y ≡ Greater = ap (nat_cmp x) (sym same) ∙ sym (nat_cmp_is x c Greater gt) in
              let greater : Greater ≡ Less = sym (ap (λ (o : Ordering). ordering_then o (slice_cmp nat_cmp xs ys)) first) ∙ more in
              absurd (cc greater)
        ]
      ]
]

-- the items from i on, n of them, are those that pass
pub filtered : {A : Type 0} (test : A → Bool) (xs : List A) (i n : ℕ) → i + n ≤ length xs
    → ((k : ℕ) (d : A) → k < i → test (get_or xs k d) ≡ false)
    → ((k : ℕ) (d : A) → i ≤ k → k < i + n → test (get_or xs k d) ≡ true)
    → ((k : ℕ) (d : A) → i + n ≤ k → k < length xs → test (get_or xs k d) ≡ false)
    → take n (drop i xs) ≡ filter test xs
filtered test [] zero zero within before here behind = refl
filtered test [] zero (suc n) within before here behind = absurd (omega arith)
filtered test [] (suc i) n within before here behind = absurd (omega arith)
filtered test (x ∷ xs) zero zero within before here behind =
    filtered test xs zero zero (omega arith) (λ k d lt. absurd (omega arith)) (λ k d le lt. absurd (omega arith)) (λ k d le lt. behind (suc k) d (omega arith) (omega arith))
    ∙ sym (ap (λ (b : Bool). cond b (x ∷ filter test xs) (filter test xs)) (behind 0 x (omega arith) (omega arith)))
filtered test (x ∷ xs) zero (suc n) within before here behind =
    ap (λ (ys : List _). x ∷ ys) (filtered test xs zero n (omega arith) (λ k d lt. absurd (omega arith)) (λ k d le lt. here (suc k) d (omega arith) (omega arith)) (λ k d le lt. behind (suc k) d (omega arith) (omega arith)))
    ∙ sym (ap (λ (b : Bool). cond b (x ∷ filter test xs) (filter test xs)) (here 0 x (omega arith) (omega arith)))
filtered test (x ∷ xs) (suc i) n within before here behind =
    filtered test xs i n (omega arith) (λ k d lt. before (suc k) d (omega arith)) (λ k d le lt. here (suc k) d (omega arith) (omega arith)) (λ k d le lt. behind (suc k) d (omega arith) (omega arith))
    ∙ sym (ap (λ (b : Bool). cond b (x ∷ filter test xs) (filter test xs)) (before 0 x (omega arith)))

module _ {A : Type 0} (f : A → Text) (xs : List A) (rise : RiseBy f xs) (text : Text) where
  -- what stands before a text that stands before another stands before that too
  pub before_still : (i : ℕ) (d : A) → i < length xs → is_lt (slice_cmp nat_cmp (f (get_or xs i d)) text) ≡ true → (k : ℕ) (e : A) → k < i + 1 → is_lt (slice_cmp nat_cmp (f (get_or xs k e)) text) ≡ true
  before_still i d within less k e below = elim (cases_lt k i) [
    | inl lt ↦ ap is_lt (nat_list_cmp_total.trans _ (f (get_or xs i e)) text (rise k i e lt within) (less_is _ (rw (get_or_default xs i d e within) at less)))
    | inr ge ↦ let same : k ≡ i = omega arith in rw (same, get_or_default xs i e d within) less
  ]

  pub behind_still : (i : ℕ) (d : A) → i < length xs → is_lt (slice_cmp nat_cmp (f (get_or xs i d)) text) ≡ false → (k : ℕ) (e : A) → i ≤ k → k < length xs → is_lt (slice_cmp nat_cmp (f (get_or xs k e)) text) ≡ false
  behind_still i d inside not_less k e above within = elim (cases_lt i k) [
    | inl lt ↦ elim (cases_Bool (is_lt (slice_cmp nat_cmp (f (get_or xs k e)) text))) [
      | inr known ↦ known
      | inl less ↦ absurd (both_ways _ not_less (before_still k e within less i d (omega arith)))
    ]
    | inr ge ↦ let same : k ≡ i = omega arith in rw (same, get_or_default xs i e d inside) not_less
  ]

  -- from the cut on, as many as begin with the text, are those that do
  pub range_is : (i n : ℕ) → IsCutAt f xs text i i → IsLeading f (drop i xs) text n → take n (drop i xs) ≡ filter (λ (x : A). starts_with ◌==◌ (f x) text) xs
  range_is i n cut leading =
      let size : length (drop i xs) ≡ length xs - i = length-drop i xs in
      let room : n ≤ length (drop i xs) = leading.within in
      let inside : i ≤ length xs = cut.within in
      filtered (λ (x : A). starts_with ◌==◌ (f x) text) xs i n (omega arith)
      (λ k d lt. before_none (f (get_or xs k d)) text (cut.before k d lt))
      (λ k d le lt. rest_at n leading k d le lt)
      (λ k d le lt. elim (cases_lt (i + n) k) [
        | inl past ↦ behind_none text (f (get_or xs (i + n) d)) (f (get_or xs k d)) (cut.behind (i + n) d (omega arith) (omega arith)) (next_at n leading d (omega arith)) (rise (i + n) k d past lt)
        | inr same ↦ let here : k ≡ i + n = omega arith in rw here (next_at n leading d (omega arith))
      ])
    where
      rest_at : (n : ℕ) → IsLeading f (drop i xs) text n → (k : ℕ) (d : A) → i ≤ k → k < i + n → starts_with ◌==◌ (f (get_or xs k d)) text ≡ true
      rest_at n leading k d le lt =
          let at : get_or (drop i xs) (k - i) d ≡ get_or xs (i + (k - i)) d = get_or-drop i xs (k - i) d in
          let place : i + (k - i) ≡ k = omega arith in
          rw (at, place) at (leading.all (k - i) d (omega arith))

      next_at : (n : ℕ) → IsLeading f (drop i xs) text n → (d : A) → i + n < length xs → starts_with ◌==◌ (f (get_or xs (i + n) d)) text ≡ false
      next_at n leading d lt = rw (get_or-drop i xs n d) at (leading.next d (omega (arith, length-drop i xs)))

-- texts of which one stands before the other are two
apart_less : (a b : Text) → slice_cmp nat_cmp a b ≡ Less → a ≡ b → ⊥
apart_less a b less same =
    let tied_b : slice_cmp nat_cmp b b ≡ Equal = tied_itself nat_list_cmp_total b in
    let less_itself : slice_cmp nat_cmp b b ≡ Less = ap (λ (t : Text). slice_cmp nat_cmp t b) (sym same) ∙ less in
    absurd (cc (tied_b, less_itself))

other_key : (a b : Text) → (a ≡ b → ⊥) → bytes_eq a b ≡ false
other_key a b apart = elim (cases_Bool (bytes_eq a b)) [
  | inl same ↦ absurd (apart ((bytes_eq-Decides a b).0 same))
  | inr known ↦ known
]

module _ {A : Type 0} (f : A → Text) (xs : List A) (key : Text) where
  -- where nothing has a key, none of the items is left
  pub none_at : IsNowhere f xs key → [] ≡ filter (λ (x : A). bytes_eq (f x) key) xs
  none_at none = filtered (λ (x : A). bytes_eq (f x) key) xs 0 0 (omega arith)
      (λ k d lt. absurd (omega arith))
      (λ k d le lt. absurd (omega arith))
      (λ k d le lt. other_key (f (get_or xs k d)) key (none k d lt))

  -- the item at a key's place is all that has the key
  pub one_at : RiseBy f xs → (k : ℕ) → IsPlaceOf f xs key k → take 1 (drop k xs) ≡ filter (λ (x : A). bytes_eq (f x) key) xs
  one_at rise k at =
      let within : k < length xs = at.0 in
      filtered (λ (x : A). bytes_eq (f x) key) xs k 1 (omega arith)
      (λ j d lt. other_key (f (get_or xs j d)) key (λ same. apart_less (f (get_or xs j d)) (f (get_or xs k d)) (rise j k d lt within) (same ∙ sym (at.1 d))))
      (λ j d le lt. let here : j ≡ k = omega arith in rw here ((bytes_eq-Decides (f (get_or xs k d)) key).1 (at.1 d)))
      (λ j d le lt. other_key (f (get_or xs j d)) key (λ same. apart_less (f (get_or xs k d)) (f (get_or xs j d)) (rise k j d (omega arith) lt) (at.1 d ∙ sym same)))

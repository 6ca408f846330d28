-- What a binary search finds among items whose keys rise.
use Rattle.std.proofs.Common.{◌≡◌, ◌<◌, ◌≤◌, ◌+◌, ℕ, zero, suc, Bool, true, List, [], ◌∷◌, length, get_or, Option, Some, None, refl, sym, ap, subst, ◌∙◌, inl, inr, arith}
use Rattle.std.specs.declared.cmp.Ordering.{Ordering}
use Rattle.std.specs.declared.cmp.Ordering.TheVariants.{Less, Equal, Greater}
use Rattle.std.specs.Ordering.{nat_cmp, ordering_reverse}
use Rattle.std.specs.List.{find}
use Rattle.std.specs.Str.{bytes_eq}
use Rattle.std.proofs.lemmas.List.{get_or_default}
use Rattle.std.proofs.lemmas.Slice.Eq.{bytes_eq-Decides}
use Rattle.std.specs.Cmp.Lexicographic.{slice_cmp}
use Rattle.std.specs.FinMap.{slice_cmp-IsAntisymmetric, nat_cmp-IsAntisymmetric}
use Rattle.std.proofs.lemmas.Bool.{cases_lt, cases_order, both_ways}
use Rattle.std.proofs.lemmas.Cmp.{nat_list_cmp_total, tied_itself}
use Rattle.desk_base.specs.Names.{Text}
use Rattle.desk_packages.specs.Keys.{RiseBy, IsNowhere, IsPlaceOf}
use Rattle.desk_packages.proofs.Picks.{In, Found, find_Some, find_None}

-- one of a list stands at a place, and what stands at a place is one of the list
pub in_at : {A : Type 0} → (xs : List A) (x : A) → In xs x → (i : ℕ) × (i < length xs) × ((d : A) → get_or xs i d ≡ x)
in_at [] x is = absurd is
in_at (y ∷ ys) x (inl same) = (0, omega arith, λ d. same)
in_at (y ∷ ys) x (inr later) = let at = in_at ys x later in (suc at.0, omega (arith, at.1), at.2)

pub at_in : {A : Type 0} → (xs : List A) (i : ℕ) (d : A) → i < length xs → In xs (get_or xs i d)
at_in [] i d h = absurd (omega arith)
at_in (y ∷ ys) zero d h = inl refl
at_in (y ∷ ys) (suc i) d h = inr (at_in ys i d (omega arith))

-- the only element that passes is found
pub find_only : {A : Type 0} (test : A → Bool) (xs : List A) (x : A) → In xs x → test x ≡ true → ((y : A) → In xs y → test y ≡ true → y ≡ x) → find test xs ≡ Some x
find_only {A = A} test xs x is pass only =
    elim (find test xs) as (λ (o : Option A). find test xs ≡ o → o ≡ Some x) [
      | None ↦ λ e. absurd (both_ways _ (find_None test xs x e is) pass)
      | Some y ↦ λ e. let f : Found test xs y = find_Some test xs y e in ap (λ (w : A). Some w) (only y f.there f.passes)
    ] refl

pub find_nothing : {A : Type 0} (test : A → Bool) (xs : List A) → ((y : A) → In xs y → test y ≡ true → ⊥) → find test xs ≡ None
find_nothing {A = A} test xs none =
    elim (find test xs) as (λ (o : Option A). find test xs ≡ o → o ≡ None) [
      | None ↦ λ e. refl
      | Some y ↦ λ e. let f : Found test xs y = find_Some test xs y e in absurd (none y f.there f.passes)
    ] refl

module _ {A : Type 0} (f : A → Text) (xs : List A) where
  key_apart : RiseBy f xs → (x y : A) (i j : ℕ) → i < j → j < length xs → get_or xs i x ≡ x → get_or xs j x ≡ y → f x ≡ f y → ⊥
  key_apart rise x y i j lt below at_x at_y e =
      let less : slice_cmp nat_cmp (f (get_or xs i x)) (f (get_or xs j x)) ≡ Less = rise i j x lt below in
      let here : slice_cmp nat_cmp (f x) (f y) ≡ Less = rw (at_x, at_y) at less in
      let tied : slice_cmp nat_cmp (f y) (f y) ≡ Equal = tied_itself nat_list_cmp_total (f y) in
      let less_itself : slice_cmp nat_cmp (f y) (f y) ≡ Less = ap (λ (t : Text). slice_cmp nat_cmp t (f y)) (sym e) ∙ here in
      absurd (cc (tied, less_itself))

  -- a key stands once
  pub one_key : RiseBy f xs → (x y : A) → In xs x → In xs y → f x ≡ f y → x ≡ y
  one_key rise x y is js e =
      let a = in_at xs x is in
      let b = in_at xs y js in
      elim (cases_order a.0 b.0) [
        | inl same ↦ sym (a.2 x) ∙ ap (λ (i : ℕ). get_or xs i x) same ∙ b.2 x
        | inr apart ↦ elim apart [
          | inl lt ↦ absurd (key_apart rise x y a.0 b.0 lt b.1 (a.2 x) (b.2 x) e)
          | inr gt ↦ absurd (key_apart rise y x b.0 a.0 gt a.1 (b.2 y) (a.2 y) (sym e))
        ]
      ]

-- what a search has ruled out: all before low, and all from high on
pub record Narrowed {A : Type 0} (f : A → Text) (xs : List A) (key : Text) (low high : ℕ) : Type 0 where
  pub order : low ≤ high
  pub within : high ≤ length xs
  pub lower : (k : ℕ) (d : A) → k < low → slice_cmp nat_cmp (f (get_or xs k d)) key ≡ Less
  pub higher : (k : ℕ) (d : A) → high ≤ k → k < length xs → slice_cmp nat_cmp (f (get_or xs k d)) key ≡ Greater

module _ {A : Type 0} (f : A → Text) (xs : List A) (rise : RiseBy f xs) (key : Text) where
  -- what is below a lower text is lower, and what is above a higher one is higher
  pub lower_still : (i : ℕ) (d : A) → i < length xs → slice_cmp nat_cmp (f (get_or xs i d)) key ≡ Less → (k : ℕ) (e : A) → k < i + 1 → slice_cmp nat_cmp (f (get_or xs k e)) key ≡ Less
  lower_still i d within less k e below = elim (cases_lt k i) [
    | inl lt ↦ nat_list_cmp_total.trans _ (f (get_or xs i e)) key (rise k i e lt within) (rw (get_or_default xs i d e within) at less)
    | inr ge ↦ let same : k ≡ i = omega arith in rw (same, get_or_default xs i e d within) less
  ]

  pub higher_still : (i : ℕ) (d : A) → slice_cmp nat_cmp (f (get_or xs i d)) key ≡ Greater → (k : ℕ) (e : A) → i ≤ k → k < length xs → slice_cmp nat_cmp (f (get_or xs k e)) key ≡ Greater
  higher_still i d more k e above within =
      let up : slice_cmp nat_cmp key (f (get_or xs i d)) ≡ Less = nat_list_cmp_total.antisymm key (f (get_or xs i d)) ∙ ap ordering_reverse more in
      elim (cases_lt i k) [
        | inl lt ↦ nat_list_cmp_total.antisymm (f (get_or xs k e)) key ∙ ap ordering_reverse (nat_list_cmp_total.trans key (f (get_or xs i e)) (f (get_or xs k e)) (rw (get_or_default xs i d e (omega arith)) at up) (rise i k e lt within))
        | inr ge ↦ let same : k ≡ i = omega arith in rw (same, get_or_default xs i e d (omega arith)) more
      ]

  -- where all is ruled out, no item has the key
  pub ruled_out : (low high : ℕ) → Narrowed f xs key low high → high ≤ low → find (λ x. bytes_eq (f x) key) xs ≡ None
  ruled_out low high narrowed done = find_nothing (λ x. bytes_eq (f x) key) xs (λ y is test.
      let at = in_at xs y is in
      let same : f (get_or xs at.0 y) ≡ key = ap f (at.2 y) ∙ (bytes_eq-Decides (f y) key).0 test in
      let tied : slice_cmp nat_cmp (f (get_or xs at.0 y)) key ≡ Equal = ap (λ (t : Text). slice_cmp nat_cmp t key) same ∙ tied_itself nat_list_cmp_total key in
      elim (cases_lt at.0 low) [
        | inl lt ↦ let less = narrowed.lower at.0 y lt in absurd (cc (tied, less))
        | inr ge ↦ let more = narrowed.higher at.0 y (omega arith) at.1 in absurd (cc (tied, more))
      ])

  -- the item at the key's place is found
  pub item_at : (k : ℕ) (x : A) → IsPlaceOf f xs key k → x ≡ get_or xs k x → find (λ x. bytes_eq (f x) key) xs ≡ Some x
  item_at k x at is =
      let same : f x ≡ key = ap f is ∙ at.1 x in
      let there : In xs x = subst (λ (y : A). In xs y) (sym is) (at_in xs k x at.0) in
      find_only (λ x. bytes_eq (f x) key) xs x there ((bytes_eq-Decides (f x) key).1 same)
      (λ y js test. one_key f xs rise y x js there ((bytes_eq-Decides (f y) key).0 test ∙ sym same))

module _ {A : Type 0} (f : A → Text) (xs : List A) (key : Text) where
  -- where all is ruled out, nothing has the key
  pub nowhere : (low high : ℕ) → Narrowed f xs key low high → high ≤ low → IsNowhere f xs key
  nowhere low high narrowed done k d within same =
      let tied : slice_cmp nat_cmp (f (get_or xs k d)) key ≡ Equal = ap (λ (t : Text). slice_cmp nat_cmp t key) same ∙ tied_itself nat_list_cmp_total key in
      elim (cases_lt k low) [
        | inl lt ↦ let less = narrowed.lower k d lt in absurd (cc (tied, less))
        | inr ge ↦ let more = narrowed.higher k d (omega arith) within in absurd (cc (tied, more))
      ]

  -- what compares equal has the key
  pub place_found : (i : ℕ) (x : A) → i < length xs → slice_cmp nat_cmp (f (get_or xs i x)) key ≡ Equal → IsPlaceOf f xs key i
  place_found i x within tied =
      (within, λ d. ap f (get_or_default xs i d x within) ∙ slice_cmp-IsAntisymmetric nat_cmp-IsAntisymmetric (f (get_or xs i x)) key tied)

  -- where nothing has the key, nothing is found by it
  pub none_found : IsNowhere f xs key → find (λ x. bytes_eq (f x) key) xs ≡ None
  none_found none = find_nothing (λ x. bytes_eq (f x) key) xs (λ y is test.
      let at = in_at xs y is in
      none at.0 y at.1 (ap f (at.2 y) ∙ (bytes_eq-Decides (f y) key).0 test))

-- what a comparison with the key of an item that was read says of its place
pub at_place : {A : Type 0} (f : A → Text) (xs : List A) (key k : Text) (i : ℕ) (x : A) (o : Ordering) → x ≡ get_or xs i x → k ≡ f x → o ≡ slice_cmp nat_cmp k key → slice_cmp nat_cmp (f (get_or xs i x)) key ≡ o
at_place f xs key k i x o is same e = ap (λ (t : Text). slice_cmp nat_cmp t key) (ap f (sym is) ∙ sym same) ∙ sym e

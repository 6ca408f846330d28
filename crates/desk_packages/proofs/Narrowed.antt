-- Which of the renames whose keys begin alike are alike up to the next place.
use Rattle.std.proofs.Common.{◌≡◌, ◌<◌, ◌≤◌, ◌+◌, ◌-◌, ℕ, zero, suc, Bool, true, false, ◌&&◌, ◌==◌, List, [], ◌∷◌, ◌++◌, length, length-take, take, drop, get_or, refl, sym, ap, subst, ◌∙◌, inl, inr, arith}
use Rattle.std.specs.declared.cmp.Ordering.{Ordering}
use Rattle.std.specs.declared.cmp.Ordering.TheVariants.{Less, Greater}
use Rattle.std.specs.Ordering.{nat_cmp, is_lt, ordering_then}
use Rattle.std.specs.Cmp.{nat_cmp_is}
use Rattle.std.specs.Cmp.Lexicographic.{slice_cmp}
use Rattle.std.specs.List.{filter, list_all, starts_with}
use Rattle.std.proofs.lemmas.Bool.{and_parts, and_from, cases_order, cases_Bool, eqb-true, eq-eqb, ne_eqb, lt-ltb, le-ltb, ltb-true, ltb-false}
use Rattle.std.proofs.lemmas.List.{get_or-drop, get_or-take, length-drop, take_all}
use Rattle.desk_base.specs.Names.{Text}
use Rattle.desk_base.proofs.Orderings.{then_is}
use Rattle.desk_packages.specs.Renames.{Renaming, key_of, is_rename}
use Rattle.desk_packages.specs.Keys.{RiseBy, IsTable, IsCutAt, AllBegin, goes_on_below}
use Rattle.desk_packages.proofs.Ranges.{tied, before_none, filtered}

-- where a key that begins so stands against that beginning and one more byte
pub below_is : (start key : Text) (limit : ℕ) → starts_with ◌==◌ key start ≡ true → is_lt (slice_cmp nat_cmp key (start ++ limit ∷ [])) ≡ goes_on_below limit (drop (length start) key)
below_is [] [] limit h = refl
below_is [] (x ∷ xs) limit h = elim (cases_order x limit) [
  | inl same ↦
      ap is_lt (then_is (nat_cmp x limit) (slice_cmp nat_cmp xs []) (tied x limit (sym same))) ∙ never xs ∙ sym (le-ltb x limit (omega arith))
  | inr two ↦ elim two [
    | inl lt ↦
        let less : nat_cmp x limit ≡ Less = sym (nat_cmp_is x limit Less lt) in
        ap (λ (o : Ordering). is_lt (ordering_then o (slice_cmp nat_cmp xs []))) less ∙ sym (lt-ltb x limit lt)
    | inr gt ↦
        let more : nat_cmp x limit ≡ Greater = sym (nat_cmp_is x limit Greater gt) in
        ap (λ (o : Ordering). is_lt (ordering_then o (slice_cmp nat_cmp xs []))) more ∙ sym (le-ltb x limit (omega arith))
  ]
]
  where
    never : (xs : Text) → is_lt (slice_cmp nat_cmp xs []) ≡ false
    never [] = refl
    never (x ∷ xs) = refl
below_is (c ∷ cs) [] limit h = absurd cc
below_is (c ∷ cs) (x ∷ xs) limit h =
    let parts = and_parts (c == x) (starts_with ◌==◌ xs cs) h in
    ap is_lt (then_is (nat_cmp x c) (slice_cmp nat_cmp xs (cs ++ limit ∷ [])) (tied x c (eqb-true c x parts.0))) ∙ below_is cs xs limit parts.1

-- what a look at the key of an item says of its place
pub stands_below : {A : Type 0} (f : A → Text) (xs : List A) (start : Text) (limit : ℕ) (i : ℕ) (x : A) (key : Text) (place : ℕ) → x ≡ get_or xs i x → key ≡ f x → i < length xs → length start ≡ place → AllBegin f xs start (length xs) → (b : Bool) → b ≡ goes_on_below limit (drop place key) → is_lt (slice_cmp nat_cmp (f (get_or xs i x)) (start ++ limit ∷ [])) ≡ b
stands_below f xs start limit i x key place is same within here all b e =
    below_is start (f (get_or xs i x)) limit (all i x within)
    ∙ ap (goes_on_below limit) (ap (λ (n : ℕ). drop n (f (get_or xs i x))) here ∙ ap (drop place) (ap f (sym is) ∙ sym same))
    ∙ sym e

-- a key that begins so and goes on with a byte begins with both
pub begins_more : (start key : Text) (byte : ℕ) → starts_with ◌==◌ key start ≡ true → goes_on_below byte (drop (length start) key) ≡ false → goes_on_below (byte + 1) (drop (length start) key) ≡ true → starts_with ◌==◌ key (start ++ byte ∷ []) ≡ true
begins_more [] [] byte h low high = absurd cc
begins_more [] (x ∷ xs) byte h low high =
    let least : byte ≤ x = ltb-false x byte low in
    let most : x < byte + 1 = ltb-true x (byte + 1) high in
    and_from _ _ (eq-eqb byte x (omega arith)) refl
begins_more (c ∷ cs) [] byte h low high = absurd cc
begins_more (c ∷ cs) (x ∷ xs) byte h low high =
    let parts = and_parts (c == x) (starts_with ◌==◌ xs cs) h in
    and_from _ _ parts.0 (begins_more cs xs byte parts.1 low high)

-- one that goes on with a later byte doesn't
pub begins_other : (start key : Text) (byte : ℕ) → goes_on_below (byte + 1) (drop (length start) key) ≡ false → starts_with ◌==◌ key (start ++ byte ∷ []) ≡ false
begins_other [] [] byte more = absurd cc
begins_other [] (x ∷ xs) byte more =
    let least : byte + 1 ≤ x = ltb-false x (byte + 1) more in
    ap (λ (b : Bool). b && true) (ne_eqb byte x (λ e. absurd (omega arith)))
begins_other (c ∷ cs) [] byte more = refl
begins_other (c ∷ cs) (x ∷ xs) byte more = elim (cases_Bool (c == x)) [
  | inl same ↦ ap (λ (b : Bool). b && starts_with ◌==◌ xs (cs ++ byte ∷ [])) same ∙ begins_other cs xs byte more
  | inr other ↦ ap (λ (b : Bool). b && starts_with ◌==◌ xs (cs ++ byte ∷ [])) other
]

-- ---- parts of a list that rises

pub rise_drop : {A : Type 0} (f : A → Text) (xs : List A) (n : ℕ) → RiseBy f xs → RiseBy f (drop n xs)
rise_drop f xs n rise i j d lt within =
    subst (λ (x : _). slice_cmp nat_cmp (f x) (f (get_or (drop n xs) j d)) ≡ Less) (sym (get_or-drop n xs i d))
    (subst (λ (x : _). slice_cmp nat_cmp (f (get_or xs (n + i) d)) (f x) ≡ Less) (sym (get_or-drop n xs j d))
    (rise (n + i) (n + j) d (omega arith) (omega (arith, length-drop n xs))))

pub rise_take : {A : Type 0} (f : A → Text) (xs : List A) (n : ℕ) → RiseBy f xs → RiseBy f (take n xs)
rise_take f xs n rise i j d lt within =
    let inner : j < n = omega (arith, length-take n xs) in
    let outer : i < n = omega arith in
    subst (λ (x : _). slice_cmp nat_cmp (f x) (f (get_or (take n xs) j d)) ≡ Less) (sym (get_or-take n xs i d outer))
    (subst (λ (x : _). slice_cmp nat_cmp (f (get_or xs i d)) (f x) ≡ Less) (sym (get_or-take n xs j d inner))
    (rise i j d lt (omega (arith, length-take n xs))))

pub begin_drop : {A : Type 0} (f : A → Text) (xs : List A) (start : Text) (n : ℕ) → AllBegin f xs start (length xs) → AllBegin f (drop n xs) start (length (drop n xs))
begin_drop f xs start n all k d within =
    subst (λ (x : _). starts_with ◌==◌ (f x) start ≡ true) (sym (get_or-drop n xs k d)) (all (n + k) d (omega (arith, length-drop n xs)))

pub all_drop : {A : Type 0} (test : A → Bool) (xs : List A) (n : ℕ) → list_all test xs ≡ true → list_all test (drop n xs) ≡ true
all_drop test xs zero all = all
all_drop test [] (suc n) all = refl
all_drop test (x ∷ xs) (suc n) all = all_drop test xs n (and_parts _ _ all).1

pub all_take : {A : Type 0} (test : A → Bool) (xs : List A) (n : ℕ) → list_all test xs ≡ true → list_all test (take n xs) ≡ true
all_take test xs zero all = refl
all_take test [] (suc n) all = refl
all_take test (x ∷ xs) (suc n) all = and_from _ _ (and_parts _ _ all).0 (all_take test xs n (and_parts _ _ all).1)

pub table_drop : (rs : List Renaming) (n : ℕ) → IsTable rs → IsTable (drop n rs)
table_drop rs n table = record { formed = all_drop is_rename rs n table.formed; rising = rise_drop key_of rs n table.rising }

pub table_take : (rs : List Renaming) (n : ℕ) → IsTable rs → IsTable (take n rs)
table_take rs n table = record { formed = all_take is_rename rs n table.formed; rising = rise_take key_of rs n table.rising }

-- ---- the range of a byte

module _ {A : Type 0} (f : A → Text) (xs : List A) (start : Text) (byte : ℕ) (all : AllBegin f xs start (length xs)) where
  -- from the cut at a byte on, as many as stand before the next byte, are those that go on with it
  pub narrowed_is : (i n : ℕ) → IsCutAt f xs (start ++ byte ∷ []) i i → IsCutAt f (drop i xs) (start ++ (byte + 1) ∷ []) n n → take n (drop i xs) ≡ filter (λ (x : A). starts_with ◌==◌ (f x) (start ++ byte ∷ [])) xs
  narrowed_is i n cut next =
      let inside : i ≤ length xs = cut.within in
      let room : n ≤ length (drop i xs) = next.within in
      filtered (λ (x : A). starts_with ◌==◌ (f x) (start ++ byte ∷ [])) xs i n (omega (arith, length-drop i xs))
      (λ k d lt. before_none (f (get_or xs k d)) (start ++ byte ∷ []) (cut.before k d lt))
      (λ k d le lt.
      let within : k < length xs = omega (arith, length-drop i xs) in
      begins_more start (f (get_or xs k d)) byte (all k d within)
      (sym (below_is start (f (get_or xs k d)) byte (all k d within)) ∙ cut.behind k d le within)
      (sym (below_is start (f (get_or xs k d)) (byte + 1) (all k d within)) ∙ moved k d le (next.before (k - i) d (omega arith))))
      (λ k d le lt.
      begins_other start (f (get_or xs k d)) byte
      (sym (below_is start (f (get_or xs k d)) (byte + 1) (all k d lt)) ∙ moved k d (omega arith) (next.behind (k - i) d (omega arith) (omega (arith, length-drop i xs)))))
    where
      moved : {b : Bool} (k : ℕ) (d : A) → i ≤ k → is_lt (slice_cmp nat_cmp (f (get_or (drop i xs) (k - i) d)) (start ++ (byte + 1) ∷ [])) ≡ b → is_lt (slice_cmp nat_cmp (f (get_or xs k d)) (start ++ (byte + 1) ∷ [])) ≡ b
      moved k d le h =
          let at : get_or (drop i xs) (k - i) d ≡ get_or xs (i + (k - i)) d = get_or-drop i xs (k - i) d in
          let place : i + (k - i) ≡ k = omega arith in
          rw (at, place) at h

-- where the list is cut at its end, that is all of the rest
pub narrowed_rest : {A : Type 0} (f : A → Text) (xs : List A) (start : Text) (byte i n : ℕ) → AllBegin f xs start (length xs) → IsCutAt f xs (start ++ byte ∷ []) i i
    → (AllBegin f (take (length xs - i) (drop i xs)) start (length (take (length xs - i) (drop i xs))) → IsCutAt f (take (length xs - i) (drop i xs)) (start ++ (byte + 1) ∷ []) n n)
    → take n (take (length xs - i) (drop i xs)) ≡ filter (λ (x : A). starts_with ◌==◌ (f x) (start ++ byte ∷ [])) xs
narrowed_rest {A} f xs start byte i n all cut next =
    let rest : take (length xs - i) (drop i xs) ≡ drop i xs = take_all (length xs - i) (drop i xs) (omega (arith, length-drop i xs)) in
    ap (take n) rest
    ∙ narrowed_is f xs start byte all i n cut
    (subst (λ (ys : List A). IsCutAt f ys (start ++ (byte + 1) ∷ []) n n) rest
    (next (subst (λ (ys : List A). AllBegin f ys start (length ys)) (sym rest) (begin_drop f xs start i all))))

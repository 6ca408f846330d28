-- Of sorted renames, one for each key, and one for each key that several have.
use Rattle.std.proofs.Common.{◌≡◌, ◌⊎◌, ◌<◌, ◌+◌, ◌-◌, ℕ, Bool, true, false, List, [], ◌∷◌, ◌++◌, length, get_or, take, Option, Some, None, refl, sym, ap, ap₂, subst, ◌∙◌, inl, inr, arith, length-append}
use Rattle.std.specs.Prelude.{slice_get}
use Rattle.std.specs.List.{Contains}
use Rattle.std.specs.List.Sorted.{IsSortedByKey}
use Rattle.std.specs.declared.cmp.Ordering.{Ordering}
use Rattle.std.specs.declared.cmp.Ordering.TheVariants.{Less, Equal, Greater}
use Rattle.std.specs.Ordering.{nat_cmp, is_lt, is_eq, ordering_reverse}
use Rattle.std.specs.Cmp.Lexicographic.{slice_cmp}
use Rattle.std.specs.Str.{bytes_eq}
use Rattle.std.proofs.lemmas.Bool.{both_ways, cases_lt}
use Rattle.std.proofs.lemmas.Cmp.{nat_list_cmp_total, tied_itself}
use Rattle.std.proofs.lemmas.Map.Text.{is_eq-slice_cmp}
use Rattle.std.proofs.lemmas.Slice.Eq.{bytes_eq-Decides}
use Rattle.std.proofs.lemmas.Option.{slice_get-get_or, slice_get_past}
use Rattle.std.proofs.lemmas.List.{get_or_append_left, get_or-take, take_more, length-take-le, get_or_default}
use Rattle.std.proofs.Math.Seq.{get_or-append_seam}
use Rattle.std.proofs.lemmas.List.MinMax.{ranks_by}
use Rattle.std.proofs.lemmas.List.Sorted.{sorted_far}
use Rattle.desk_base.specs.Names.{Text}
use Rattle.desk_packages.specs.Renames.{Renaming, key_of}
use Rattle.desk_packages.specs.Keys.{RiseBy}
use Rattle.desk_packages.proofs.Picks.{In}
use Rattle.desk_packages.proofs.Lookup.{one_of, contained}
use Rattle.desk_packages.proofs.Searched.{in_at, at_in}
use Rattle.desk_invert.specs.Exchanged.{HasKey, IsParted, ends_with_key, has_key}

-- what stands in a list with one more at its end
pub in_push : {A : Type 0} (xs : List A) (x y : A) → In (xs ++ x ∷ []) y → In xs y ⊎ (x ≡ y)
in_push [] x y (inl same) = inr same
in_push [] x y (inr none) = absurd none
in_push (z ∷ xs) x y (inl same) = inl (inl same)
in_push (z ∷ xs) x y (inr later) = elim (in_push xs x y later) [ inl is ↦ inl (inr is) | inr same ↦ inr same ]

in_before : {A : Type 0} (xs : List A) (x y : A) → In xs y → In (xs ++ x ∷ []) y
in_before [] x y is = absurd is
in_before (z ∷ xs) x y (inl same) = inl same
in_before (z ∷ xs) x y (inr later) = inr (in_before xs x y later)

in_last : {A : Type 0} (xs : List A) (x : A) → In (xs ++ x ∷ []) x
in_last [] x = inl refl
in_last (z ∷ xs) x = inr (in_last xs x)

-- a key that isn't above another, and isn't the other, is below it
less_of : (a b : Text) → is_lt (slice_cmp nat_cmp b a) ≡ false → bytes_eq a b ≡ false → slice_cmp nat_cmp a b ≡ Less
less_of a b not_less apart =
    elim (slice_cmp nat_cmp a b) as (λ (o : Ordering). slice_cmp nat_cmp a b ≡ o → slice_cmp nat_cmp a b ≡ Less) [
      | Less ↦ λ e. e
      | Equal ↦ λ e. absurd (both_ways (bytes_eq a b) apart (sym (is_eq-slice_cmp a b) ∙ ap is_eq e))
      | Greater ↦ λ e. absurd (both_ways (is_lt (slice_cmp nat_cmp b a)) not_less (ap is_lt (nat_list_cmp_total.antisymm b a ∙ ap ordering_reverse e)))
    ] refl

abbrev NoneAbove : List Renaming → Renaming → Type 0
NoneAbove us x = (u : Renaming) → In us u → is_lt (slice_cmp nat_cmp (key_of x) (key_of u)) ≡ false

abbrev AllLess : List Renaming → Renaming → Type 0
AllLess us x = (u : Renaming) → In us u → slice_cmp nat_cmp (key_of u) (key_of x) ≡ Less

-- one more whose key is above all others
rises_push : (us : List Renaming) (x : Renaming) → RiseBy key_of us → AllLess us x → RiseBy key_of (us ++ x ∷ [])
rises_push us x rise less i j d lt within =
    let size : length (us ++ x ∷ []) ≡ length us + length (x ∷ []) = length-append us (x ∷ []) in
    let first : get_or (us ++ x ∷ []) i d ≡ get_or us i d = get_or_append_left us (x ∷ []) d i (omega arith) in
    elim (cases_lt j (length us)) [
      | inl inside ↦
          let second : get_or (us ++ x ∷ []) j d ≡ get_or us j d = get_or_append_left us (x ∷ []) d j inside in
          rw (first, second) (rise i j d lt inside)
      | inr end ↦
          let place : j ≡ length us = omega arith in
          let second : get_or (us ++ x ∷ []) j d ≡ x = ap (λ (k : ℕ). get_or (us ++ x ∷ []) k d) place ∙ get_or-append_seam us x [] d in
          rw (first, second) (less (get_or us i d) (at_in us i d (omega arith)))
    ]

module _ (us : List Renaming) (x : Renaming) (rise : RiseBy key_of us) (above : NoneAbove us x) where
  -- where the last has another key, all keys are below
  last_other : (l : Renaming) → slice_get us (length us - 1) ≡ Some l → ends_with_key us (key_of x) ≡ false → bytes_eq (key_of l) (key_of x) ≡ false
  last_other l e h = sym (ap (λ (o : Option Renaming). has_key o (key_of x)) e) ∙ h

  all_less : ends_with_key us (key_of x) ≡ false → AllLess us x
  all_less h u is =
      let at = in_at us u is in
      let here : In us (get_or us (length us - 1) u) = at_in us (length us - 1) u (omega (arith, at.1)) in
      let below : slice_cmp nat_cmp (key_of (get_or us (length us - 1) u)) (key_of x) ≡ Less =
      less_of (key_of (get_or us (length us - 1) u)) (key_of x) (above (get_or us (length us - 1) u) here)
      (last_other (get_or us (length us - 1) u) (slice_get-get_or us (length us - 1) u (omega (arith, at.1))) h) in
      elim (cases_lt at.0 (length us - 1)) [
        | inl before ↦
            let step : slice_cmp nat_cmp (key_of (get_or us at.0 u)) (key_of (get_or us (length us - 1) u)) ≡ Less = rise at.0 (length us - 1) u before (omega (arith, at.1)) in
            nat_list_cmp_total.trans (key_of u) (key_of (get_or us (length us - 1) u)) (key_of x) (rw (at.2 u) at step) below
        | inr ends ↦
            let same : at.0 ≡ length us - 1 = omega (arith, at.1) in
            let is_last : get_or us (length us - 1) u ≡ u = ap (λ (k : ℕ). get_or us k u) (sym same) ∙ at.2 u in
            rw is_last at below
      ]

-- the last has the key
last_key : (us : List Renaming) (key : Text) → ends_with_key us key ≡ true → HasKey us key
last_key us key h = by (slice_get us (length us - 1)) refl h
  where
    by : (o : Option Renaming) → slice_get us (length us - 1) ≡ o → has_key o key ≡ true → HasKey us key
    by None e k = absurd cc
    by (Some l) e k = elim (cases_lt (length us - 1) (length us)) [
      | inl within ↦
          let same : Some l ≡ Some (get_or us (length us - 1) l) = sym e ∙ slice_get-get_or us (length us - 1) l within in
          let at : l ≡ get_or us (length us - 1) l = cc same in
          record { one = l; there = (length us - 1, within, sym at); key_is = (bytes_eq-Decides (key_of l) key).0 k }
      | inr past ↦ let none : Some l ≡ None = sym e ∙ slice_get_past us (length us - 1) past in absurd (cc none)
    ]

-- a key that all others are below is new
new_key : (us : List Renaming) (x : Renaming) → AllLess us x → HasKey us (key_of x) → ⊥
new_key us x less has =
    let below : slice_cmp nat_cmp (key_of has.one) (key_of x) ≡ Less = less has.one (one_of us has.one has.there) in
    let tied : slice_cmp nat_cmp (key_of has.one) (key_of x) ≡ Equal = ap (λ (t : Text). slice_cmp nat_cmp t (key_of x)) has.key_is ∙ tied_itself nat_list_cmp_total (key_of x) in
    absurd (cc (below, tied))

has_before : (us : List Renaming) (x : Renaming) (key : Text) → HasKey us key → HasKey (us ++ x ∷ []) key
has_before us x key h = record { one = h.one; there = contained (us ++ x ∷ []) h.one (in_before us x h.one (one_of us h.one h.there)); key_is = h.key_is }

has_last : (us : List Renaming) (x : Renaming) → HasKey (us ++ x ∷ []) (key_of x)
has_last us x = record { one = x; there = contained (us ++ x ∷ []) x (in_last us x); key_is = refl }

has_same : (us : List Renaming) (a b : Text) → a ≡ b → HasKey us a → HasKey us b
has_same us a b e h = record { one = h.one; there = h.there; key_is = h.key_is ∙ e }

pub none_parted : IsParted [] [] []
none_parted = record {
  once_rises = λ i j d lt within. absurd (omega arith);
  repeated_rises = λ i j d lt within. absurd (omega arith);
  once_from = λ t h. h;
  repeated_from = λ t h. h;
  each = λ t h. absurd (one_of [] t h);
  several = λ t u h k apart e. absurd (one_of [] t h);
}

-- one more rename, whose key isn't below those before it
module _ (done once repeated : List Renaming) (x : Renaming) (p : IsParted done once repeated) (above : NoneAbove done x) where
  once_below : NoneAbove once x
  once_below u is = above u (one_of done u (p.once_from u (contained once u is)))

  repeated_below : NoneAbove repeated x
  repeated_below u is = above u (one_of done u (p.repeated_from u (contained repeated u is)))

  from_push : (us : List Renaming) → ((t : Renaming) → Contains us t → Contains done t) → (t : Renaming) → Contains us t → Contains (done ++ x ∷ []) t
  from_push us from t there = contained (done ++ x ∷ []) t (in_before done x t (one_of done t (from t there)))

  from_last : (us : List Renaming) → ((t : Renaming) → Contains us t → Contains done t) → (t : Renaming) → Contains (us ++ x ∷ []) t → Contains (done ++ x ∷ []) t
  from_last us from t there = elim (in_push us x t (one_of (us ++ x ∷ []) t there)) [
    | inl old ↦ from_push us from t (contained us t old)
    | inr new ↦ subst (Contains (done ++ x ∷ [])) new (contained (done ++ x ∷ []) x (in_last done x))
  ]

  -- what each one before, and the new one, has
  each_push : (us : List Renaming) → ((t : Renaming) → Contains done t → HasKey us (key_of t)) → HasKey us (key_of x) → (t : Renaming) → Contains (done ++ x ∷ []) t → HasKey us (key_of t)
  each_push us old new t there = elim (in_push done x t (one_of (done ++ x ∷ []) t there)) [
    | inl is ↦ old t (contained done t is)
    | inr same ↦ has_same us (key_of x) (key_of t) (ap key_of same) new
  ]

  -- two of one key, of which the new one may be one
  several_push : (us : List Renaming) → ((t u : Renaming) → Contains done t → Contains done u → (t ≡ u → ⊥) → key_of t ≡ key_of u → HasKey us (key_of t)) → ((t : Renaming) → Contains done t → key_of t ≡ key_of x → HasKey us (key_of x)) → (t u : Renaming) → Contains (done ++ x ∷ []) t → Contains (done ++ x ∷ []) u → (t ≡ u → ⊥) → key_of t ≡ key_of u → HasKey us (key_of t)
  several_push us old new t u ht hu apart e = elim (in_push done x t (one_of (done ++ x ∷ []) t ht)) [
    | inl a ↦ elim (in_push done x u (one_of (done ++ x ∷ []) u hu)) [
      | inl b ↦ old t u (contained done t a) (contained done u b) apart e
      | inr same ↦
          let keys : key_of t ≡ key_of x = e ∙ ap key_of (sym same) in
          has_same us (key_of x) (key_of t) (sym keys) (new t (contained done t a) keys)
    ]
    | inr same ↦ elim (in_push done x u (one_of (done ++ x ∷ []) u hu)) [
      | inl b ↦
          let keys : key_of u ≡ key_of x = sym e ∙ ap key_of (sym same) in
          has_same us (key_of x) (key_of t) (ap key_of same) (new u (contained done u b) keys)
      | inr also ↦ absurd (apart (sym same ∙ also))
    ]
  ]

  first_of_key : ends_with_key once (key_of x) ≡ false → IsParted (done ++ x ∷ []) (once ++ x ∷ []) repeated
  first_of_key h =
      let less : AllLess once x = all_less once x p.once_rises once_below h in
      record {
        once_rises = rises_push once x p.once_rises less;
        repeated_rises = p.repeated_rises;
        once_from = from_last once p.once_from;
        repeated_from = from_push repeated p.repeated_from;
        each = each_push (once ++ x ∷ []) (λ t there. has_before once x (key_of t) (p.each t there)) (has_last once x);
        several = several_push repeated p.several (λ t there e. absurd (new_key once x less (has_same once (key_of t) (key_of x) e (p.each t there))));
      }

  second_of_key : ends_with_key once (key_of x) ≡ true → ends_with_key repeated (key_of x) ≡ false → IsParted (done ++ x ∷ []) once (repeated ++ x ∷ [])
  second_of_key h k = record {
    once_rises = p.once_rises;
    repeated_rises = rises_push repeated x p.repeated_rises (all_less repeated x p.repeated_rises repeated_below k);
    once_from = from_push once p.once_from;
    repeated_from = from_last repeated p.repeated_from;
    each = each_push once p.each (last_key once (key_of x) h);
    several = several_push (repeated ++ x ∷ []) (λ t u ht hu apart e. has_before repeated x (key_of t) (p.several t u ht hu apart e)) (λ t there e. has_last repeated x);
  }

  later_of_key : ends_with_key once (key_of x) ≡ true → ends_with_key repeated (key_of x) ≡ true → IsParted (done ++ x ∷ []) once repeated
  later_of_key h k = record {
    once_rises = p.once_rises;
    repeated_rises = p.repeated_rises;
    once_from = from_push once p.once_from;
    repeated_from = from_push repeated p.repeated_from;
    each = each_push once p.each (last_key once (key_of x) h);
    several = several_push repeated p.several (λ t there e. last_key repeated (key_of x) k);
  }

-- a prefix of sorted renames and the next one
prefix_below : (xs : List Renaming) (n : ℕ) (x : Renaming) → IsSortedByKey key_of (slice_cmp nat_cmp) xs → n < length xs → x ≡ get_or xs n x → NoneAbove (take n xs) x
prefix_below xs n x sorted within is u there =
    let at = in_at (take n xs) u there in
    let size : length (take n xs) ≡ n = length-take-le n xs (omega arith) in
    let before : at.0 < n = omega (arith, at.1, size) in
    let place : get_or xs at.0 u ≡ u = sym (get_or-take n xs at.0 u before) ∙ at.2 u in
    let new : get_or xs n u ≡ x = get_or_default xs n u x within ∙ sym is in
    let far : is_lt (slice_cmp nat_cmp (key_of (get_or xs n u)) (key_of (get_or xs at.0 u))) ≡ false =
    sorted_far (λ (a b : Renaming). is_lt (slice_cmp nat_cmp (key_of a) (key_of b))) (ranks_by nat_list_cmp_total key_of) xs sorted at.0 n u (omega arith) within in
    rw (new, place) at far

prefix_more : (xs : List Renaming) (n : ℕ) (x : Renaming) → n < length xs → x ≡ get_or xs n x → take (n + 1) xs ≡ take n xs ++ x ∷ []
prefix_more xs n x within is = take_more xs n x within ∙ ap (λ (y : Renaming). take n xs ++ y ∷ []) (sym is)

-- what a test of the last key was asked
pub asked : (us seen : List Renaming) (key read : Text) (b c : Bool) → seen ≡ us → read ≡ key → b ≡ ends_with_key seen read → b ≡ c → ends_with_key us key ≡ c
asked us seen key read b c e f told is = sym (ap₂ ends_with_key e f) ∙ sym told ∙ is

-- the next of sorted renames, behind those that were yielded
module _ (xs yielded once repeated : List Renaming) (x : Renaming) (sorted : IsSortedByKey key_of (slice_cmp nat_cmp) xs) (turn : (length yielded < length xs) × (x ≡ get_or xs (length yielded) x)) (p : IsParted (take (length yielded) xs) once repeated) where
  above : NoneAbove (take (length yielded) xs) x
  above = prefix_below xs (length yielded) x sorted turn.0 turn.1

  next : take (length yielded) xs ++ x ∷ [] ≡ take (length (yielded ++ x ∷ [])) xs
  next = sym (prefix_more xs (length yielded) x turn.0 turn.1) ∙ ap (λ (n : ℕ). take n xs) (sym (length-append yielded (x ∷ [])))

  pub next_first : (now : List Renaming) → now ≡ once ++ x ∷ [] → ends_with_key once (key_of x) ≡ false → IsParted (take (length (yielded ++ x ∷ [])) xs) now repeated
  next_first now is h =
      subst (λ (us : List Renaming). IsParted (take (length (yielded ++ x ∷ [])) xs) us repeated) (sym is)
      (subst (λ (done : List Renaming). IsParted done (once ++ x ∷ []) repeated) next (first_of_key (take (length yielded) xs) once repeated x p above h))

  pub next_second : (now : List Renaming) → now ≡ repeated ++ x ∷ [] → ends_with_key once (key_of x) ≡ true → ends_with_key repeated (key_of x) ≡ false → IsParted (take (length (yielded ++ x ∷ [])) xs) once now
  next_second now is h k =
      subst (λ (us : List Renaming). IsParted (take (length (yielded ++ x ∷ [])) xs) once us) (sym is)
      (subst (λ (done : List Renaming). IsParted done once (repeated ++ x ∷ [])) next (second_of_key (take (length yielded) xs) once repeated x p above h k))

  pub next_later : ends_with_key once (key_of x) ≡ true → ends_with_key repeated (key_of x) ≡ true → IsParted (take (length (yielded ++ x ∷ [])) xs) once repeated
  next_later h k = subst (λ (done : List Renaming). IsParted done once repeated) next (later_of_key (take (length yielded) xs) once repeated x p above h k)

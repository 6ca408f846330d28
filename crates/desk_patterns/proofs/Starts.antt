-- Texts that start others, and their byte order.
use Rattle.std.proofs.Common.{◌≡◌, ◌<◌, ◌≤◌, ℕ, suc, Bool, true, false, cond, ◌==◌, ◌&&◌, [], ◌∷◌, length, drop, get_or, refl, sym, ap, ◌∙◌, inl, inr, arith}
use Rattle.std.specs.declared.cmp.Ordering.{Ordering}
use Rattle.std.specs.declared.cmp.Ordering.TheVariants.{Less, Equal, Greater}
use Rattle.std.specs.Ordering.{nat_cmp, is_gt, ordering_then}
use Rattle.std.specs.Cmp.{nat_cmp_is}
use Rattle.std.specs.Cmp.Lexicographic.{slice_cmp}
use Rattle.std.proofs.lemmas.Bool.{both_ways, cases_order, eqb-true, and_parts, and_from, eq-eqb}
use Rattle.std.proofs.lemmas.Cmp.{nat_cmp_total, tied_itself}
use Rattle.std.proofs.lemmas.List.{drop_all}
use Rattle.desk_base.specs.Names.{Text, is_empty}
use Rattle.desk_base.proofs.Orderings.{then_is}
use Rattle.desk_patterns.specs.Tables.{starts, is_behind, shared, first_byte}

pub tied : (x c : ℕ) → x ≡ c → nat_cmp x c ≡ Equal
tied x c same = rw same (tied_itself nat_cmp_total c)

pub starts_self : (t : Text) → starts t t ≡ true
starts_self [] = refl
starts_self (b ∷ t) = and_from _ _ (eq-eqb b b refl) (starts_self t)

-- what starts the start of a text starts the text
pub starts_through : (s t u : Text) → starts t s ≡ true → starts u t ≡ true → starts u s ≡ true
starts_through [] t u h k = refl
starts_through (b ∷ s) [] u h k = absurd cc
starts_through (b ∷ s) (c ∷ t) [] h k = absurd cc
starts_through (b ∷ s) (c ∷ t) (d ∷ u) h k =
    and_from _ _ (eq-eqb b d (eqb-true b c (and_parts _ _ h).0 ∙ eqb-true c d (and_parts _ _ k).0)) (starts_through s t u (and_parts _ _ h).1 (and_parts _ _ k).1)

-- of two starts of a text, the one that stands before the other is shorter
pub start_shorter : (a b text : Text) → starts text a ≡ true → starts text b ≡ true → slice_cmp nat_cmp a b ≡ Less → length a < length b
start_shorter [] [] text h k less = absurd cc
start_shorter [] (y ∷ b) text h k less = omega arith
start_shorter (x ∷ a) [] text h k less = absurd cc
start_shorter (x ∷ a) (y ∷ b) [] h k less = absurd cc
start_shorter (x ∷ a) (y ∷ b) (c ∷ text) h k less =
    let same : x ≡ y = eqb-true x c (and_parts _ _ h).0 ∙ sym (eqb-true y c (and_parts _ _ k).0) in
    let later : slice_cmp nat_cmp a b ≡ Less = sym (then_is (nat_cmp x y) (slice_cmp nat_cmp a b) (tied x y same)) ∙ less in
    omega (arith, start_shorter a b text (and_parts _ _ h).1 (and_parts _ _ k).1 later)

-- the start of a text doesn't stand behind it
pub start_not_behind : (s text : Text) → starts text s ≡ true → is_behind text s ≡ false
start_not_behind [] [] h = refl
start_not_behind [] (c ∷ text) h = refl
start_not_behind (x ∷ s) [] h = absurd cc
start_not_behind (x ∷ s) (c ∷ text) h =
    ap is_gt (then_is (nat_cmp x c) (slice_cmp nat_cmp s text) (tied x c (eqb-true x c (and_parts _ _ h).0))) ∙ start_not_behind s text (and_parts _ _ h).1

-- what stands behind a start of a text, but not behind the text, begins with that start
pub start_between : (s u text : Text) → starts text s ≡ true → is_behind text u ≡ false → slice_cmp nat_cmp s u ≡ Less → starts u s ≡ true
start_between [] u text h k less = refl
start_between (x ∷ s) [] text h k less = absurd cc
start_between (x ∷ s) (y ∷ u) [] h k less = absurd cc
start_between (x ∷ s) (y ∷ u) (c ∷ text) h k less =
    let here : x ≡ c = eqb-true x c (and_parts _ _ h).0 in
    elim (cases_order x y) [
      | inl same ↦
          let later : slice_cmp nat_cmp s u ≡ Less = sym (then_is (nat_cmp x y) (slice_cmp nat_cmp s u) (tied x y same)) ∙ less in
          let rest : is_behind text u ≡ false = sym (ap is_gt (then_is (nat_cmp y c) (slice_cmp nat_cmp u text) (tied y c (sym same ∙ here)))) ∙ k in
          and_from _ _ (eq-eqb x y same) (start_between s u text (and_parts _ _ h).1 rest later)
      | inr two ↦ elim two [
        | inl lt ↦
            let above : nat_cmp y c ≡ Greater = ap (nat_cmp y) (sym here) ∙ sym (nat_cmp_is y x Greater lt) in
            absurd (both_ways _ k (ap (λ (o : Ordering). is_gt (ordering_then o (slice_cmp nat_cmp u text))) above))
        | inr gt ↦
            let below : Greater ≡ Less = sym (ap (λ (o : Ordering). ordering_then o (slice_cmp nat_cmp s u)) (sym (nat_cmp_is x y Greater gt))) ∙ less in
            absurd (cc below)
      ]
    ]

-- a start of a text starts another text where these share as many bytes, and only there
pub shared_starts : (s q text : Text) → starts q s ≡ true → length s ≤ shared q text → starts text s ≡ true
shared_starts [] q text h k = refl
shared_starts (x ∷ s) [] text h k = absurd cc
shared_starts (x ∷ s) (y ∷ q) [] h k = absurd (omega arith)
shared_starts (x ∷ s) (y ∷ q) (c ∷ text) h k =
    elim (y == c) as (λ (b : Bool). (y == c) ≡ b → suc (length s) ≤ cond b (suc (shared q text)) 0 → starts (c ∷ text) (x ∷ s) ≡ true) [
      | true ↦ λ e l. and_from _ _ (eq-eqb x c (eqb-true x y (and_parts _ _ h).0 ∙ eqb-true y c e)) (shared_starts s q text (and_parts _ _ h).1 (omega arith))
      | false ↦ λ e l. absurd (omega arith)
    ] refl k

pub shared_stops : (s q text : Text) → starts q s ≡ true → shared q text < length s → starts text s ≡ false
shared_stops [] q text h k = absurd (omega arith)
shared_stops (x ∷ s) [] text h k = absurd cc
shared_stops (x ∷ s) (y ∷ q) [] h k = refl
shared_stops (x ∷ s) (y ∷ q) (c ∷ text) h k =
    let here : x ≡ y = eqb-true x y (and_parts _ _ h).0 in
    elim (y == c) as (λ (b : Bool). (y == c) ≡ b → cond b (suc (shared q text)) 0 < suc (length s) → starts (c ∷ text) (x ∷ s) ≡ false) [
      | true ↦ λ e l. ap (λ (b : Bool). b && starts text s) (ap (λ (n : ℕ). n == c) here ∙ e) ∙ shared_stops s q text (and_parts _ _ h).1 (omega arith)
      | false ↦ λ e l. ap (λ (b : Bool). b && starts text s) (ap (λ (n : ℕ). n == c) here ∙ e)
    ] refl k

-- at the end of a text nothing more is shared
pub shared_nothing : (s text : Text) (at : ℕ) → length text ≤ at → shared s (drop at text) ≡ 0
shared_nothing s text at h = ap (shared s) (drop_all at text h) ∙ with_nothing s
  where
    with_nothing : (t : Text) → shared t [] ≡ 0
    with_nothing [] = refl
    with_nothing (b ∷ t) = refl

-- a text begins with the first byte of what starts it
pub start_byte : (s text : Text) → is_empty s ≡ false → starts text s ≡ true → first_byte s ≡ get_or text 0 0
start_byte [] text some h = absurd cc
start_byte (b ∷ s) [] some h = absurd cc
start_byte (b ∷ s) (c ∷ text) some h = eqb-true b c (and_parts _ _ h).0

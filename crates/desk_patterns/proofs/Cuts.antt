-- Where a text stands among sources, by the first bytes that it shares with each.
use Rattle.std.proofs.Common.{◌≡◌, ◌<◌, ◌≤◌, ◌+◌, ◌-◌, ℕ, zero, suc, min, Bool, true, false, cond, ◌==◌, nat_lt, List, [], ◌∷◌, length, drop, slice_index, refl, sym, ap, ◌∙◌, inl, inr, arith}
use Rattle.std.specs.declared.cmp.Ordering.{Ordering}
use Rattle.std.specs.declared.cmp.Ordering.TheVariants.{Less, Greater}
use Rattle.std.specs.Ordering.{nat_cmp, is_gt, ordering_then}
use Rattle.std.specs.Cmp.{nat_cmp_is}
use Rattle.std.specs.Cmp.Lexicographic.{slice_cmp}
use Rattle.std.proofs.lemmas.Bool.{cases_order, cases_lt, eqb-true, eq-eqb, lt-ltb, le-ltb}
use Rattle.desk_base.specs.Names.{Text}
use Rattle.desk_base.proofs.Orderings.{then_is}
use Rattle.desk_patterns.specs.TextRules.{TextRule, source_at}
use Rattle.desk_patterns.specs.Tables.{Rise, IsCut, is_behind, shared, IsSharedBefore, IsSharedAt}
use Rattle.desk_patterns.proofs.Starts.{tied}
use Rattle.desk_patterns.proofs.Tables.{cut_up, cut_down}

-- two texts that share first bytes
record IsLed (x y : ℕ) (a t : Text) (n : ℕ) : Type 0 where
  byte : x ≡ y
  rest : n ≤ shared a t

led : (x y : ℕ) (a t : Text) (n : ℕ) → suc n ≤ shared (x ∷ a) (y ∷ t) → IsLed x y a t n
led x y a t n h = elim (x == y) as (λ (b : Bool). (x == y) ≡ b → suc n ≤ cond b (suc (shared a t)) 0 → IsLed x y a t n) [
  | true ↦ λ e l. record { byte = eqb-true x y e; rest = omega arith }
  | false ↦ λ e l. absurd (omega arith)
] refl h

not_above : (x y : ℕ) (a b : Text) → slice_cmp nat_cmp (x ∷ a) (y ∷ b) ≡ Less → x ≤ y
not_above x y a b less = elim (cases_order x y) [
  | inl same ↦ omega arith
  | inr two ↦ elim two [
    | inl lt ↦ omega arith
    | inr gt ↦
        let below : Greater ≡ Less = sym (ap (λ (o : Ordering). ordering_then o (slice_cmp nat_cmp a b)) (sym (nat_cmp_is x y Greater gt))) ∙ less in
        absurd (cc below)
  ]
]

later : (x y : ℕ) (a b : Text) → x ≡ y → slice_cmp nat_cmp (x ∷ a) (y ∷ b) ≡ Less → slice_cmp nat_cmp a b ≡ Less
later x y a b same less = sym (then_is (nat_cmp x y) (slice_cmp nat_cmp a b) (tied x y same)) ∙ less

-- a source between two others shares with a text what both do
pub shared_between : (a b c t : Text) (n : ℕ) → slice_cmp nat_cmp a b ≡ Less → slice_cmp nat_cmp b c ≡ Less → n ≤ shared a t → n ≤ shared c t → n ≤ shared b t
shared_between a b c t zero h k l m = omega arith
shared_between [] b c t (suc n) h k l m = absurd (omega arith)
shared_between (x ∷ a) [] c t (suc n) h k l m = absurd cc
shared_between (x ∷ a) (y ∷ b) [] t (suc n) h k l m = absurd cc
shared_between (x ∷ a) (y ∷ b) (z ∷ c) [] (suc n) h k l m = absurd (omega arith)
shared_between (x ∷ a) (y ∷ b) (z ∷ c) (w ∷ t) (suc n) h k l m =
    let left : IsLed x w a t n = led x w a t n l in
    let right : IsLed z w c t n = led z w c t n m in
    let low : x ≤ y = not_above x y a b h in
    let high : y ≤ z = not_above y z b c k in
    let middle : y ≡ w = omega arith in
    let rest : n ≤ shared b t = shared_between a b c t n (later x y a b (omega arith) h) (later y z b c (omega arith) k) left.rest right.rest in
    let here : shared (y ∷ b) (w ∷ t) ≡ suc (shared b t) = ap (λ (e : Bool). cond e (suc (shared b t)) 0) (eq-eqb y w middle) in
    omega (arith, here, rest)

-- so many first bytes are known of a source that is compared
pub known_between : (rules : List TextRule) (text : Text) (low middle high a b : ℕ) → Rise rules → low ≤ middle → middle < high → high ≤ length rules → IsSharedBefore rules text low a → IsSharedAt rules text high b → min a b ≤ shared (source_at rules middle) text
known_between rules text zero middle high a b rising h k l before at = omega (arith, before.none refl)
known_between rules text (suc low) middle high a b rising h k l before at = elim (cases_lt high (length rules)) [
  | inl lt ↦
      let less : suc low - 1 ≡ low = omega arith in
      let left : a ≡ shared (source_at rules low) text = before.some (omega arith) ∙ ap (λ (n : ℕ). shared (source_at rules n) text) less in
      shared_between (source_at rules low) (source_at rules middle) (source_at rules high) text (min a b) (rising low middle (omega arith) (omega arith)) (rising middle high k lt) (omega (arith, left)) (omega (arith, at.some lt))
  | inr ge ↦ omega (arith, at.none ge)
]

-- what follows the first bytes that two texts share
pub shared_rest : (s t : Text) (n : ℕ) → n ≤ shared s t → shared s t ≡ n + shared (drop n s) (drop n t)
shared_rest s t zero h = omega arith
shared_rest [] t (suc n) h = absurd (omega arith)
shared_rest (x ∷ s) [] (suc n) h = absurd (omega arith)
shared_rest (x ∷ s) (c ∷ t) (suc n) h =
    let first : IsLed x c s t n = led x c s t n h in
    let here : shared (x ∷ s) (c ∷ t) ≡ suc (shared s t) = ap (λ (e : Bool). cond e (suc (shared s t)) 0) (eq-eqb x c first.byte) in
    omega (arith, here, shared_rest s t n first.rest)

pub shared_within : (s t : Text) → shared s t ≤ length s
shared_within [] t = omega arith
shared_within (x ∷ s) [] = omega arith
shared_within (x ∷ s) (c ∷ t) = elim (x == c) as (λ (b : Bool). cond b (suc (shared s t)) 0 ≤ suc (length s)) [ true ↦ omega (arith, shared_within s t) | false ↦ omega arith ]

pub shared_inside : (s t : Text) → shared s t ≤ length t
shared_inside [] t = omega arith
shared_inside (x ∷ s) [] = omega arith
shared_inside (x ∷ s) (c ∷ t) = elim (x == c) as (λ (b : Bool). cond b (suc (shared s t)) 0 ≤ suc (length t)) [ true ↦ omega (arith, shared_inside s t) | false ↦ omega arith ]

-- a source that is shared whole doesn't stand behind the text
pub front_stays : (s t : Text) → length s ≤ shared s t → is_behind t s ≡ false
front_stays [] [] h = refl
front_stays [] (c ∷ t) h = refl
front_stays (x ∷ s) [] h = absurd (omega arith)
front_stays (x ∷ s) (c ∷ t) h =
    let first : IsLed x c s t (length s) = led x c s t (length s) h in
    ap is_gt (then_is (nat_cmp x c) (slice_cmp nat_cmp s t) (tied x c first.byte)) ∙ front_stays s t first.rest

-- a longer one that shares the whole text stands behind it
pub end_behind : (s t : Text) → length t ≤ shared s t → shared s t < length s → is_behind t s ≡ true
end_behind [] t h k = absurd (omega arith)
end_behind (x ∷ s) [] h k = refl
end_behind (x ∷ s) (c ∷ t) h k =
    let first : IsLed x c s t (length t) = led x c s t (length t) h in
    let here : shared (x ∷ s) (c ∷ t) ≡ suc (shared s t) = ap (λ (e : Bool). cond e (suc (shared s t)) 0) (eq-eqb x c first.byte) in
    ap is_gt (then_is (nat_cmp x c) (slice_cmp nat_cmp s t) (tied x c first.byte)) ∙ end_behind s t first.rest (omega (arith, here))

-- else the first byte decides that isn't shared
byte_above : (x c : ℕ) (s t : Text) → c < x → is_gt (ordering_then (nat_cmp x c) (slice_cmp nat_cmp s t)) ≡ true
byte_above x c s t h = ap (λ (o : Ordering). is_gt (ordering_then o (slice_cmp nat_cmp s t))) (sym (nat_cmp_is x c Greater h))

byte_below : (x c : ℕ) (s t : Text) → x < c → is_gt (ordering_then (nat_cmp x c) (slice_cmp nat_cmp s t)) ≡ false
byte_below x c s t h = ap (λ (o : Ordering). is_gt (ordering_then o (slice_cmp nat_cmp s t))) (sym (nat_cmp_is x c Less h))

pub byte_decides : (s t : Text) (n : ℕ) → n ≡ shared s t → n < length s → n < length t → is_behind t s ≡ nat_lt (slice_index t n) (slice_index s n)
byte_decides [] t n e h k = absurd (omega arith)
byte_decides (x ∷ s) [] n e h k = absurd (omega arith)
byte_decides (x ∷ s) (c ∷ t) zero e h k = elim (cases_order x c) [
  | inl same ↦ absurd (let here : shared (x ∷ s) (c ∷ t) ≡ suc (shared s t) = ap (λ (b : Bool). cond b (suc (shared s t)) 0) (eq-eqb x c same) in omega (arith, here))
  | inr two ↦ elim two [
    | inl lt ↦ byte_below x c s t lt ∙ sym (le-ltb c x (omega arith))
    | inr gt ↦ byte_above x c s t gt ∙ sym (lt-ltb c x gt)
  ]
]
byte_decides (x ∷ s) (c ∷ t) (suc n) e h k =
    let first : IsLed x c s t n = led x c s t n (omega arith) in
    let here : shared (x ∷ s) (c ∷ t) ≡ suc (shared s t) = ap (λ (b : Bool). cond b (suc (shared s t)) 0) (eq-eqb x c first.byte) in
    ap is_gt (then_is (nat_cmp x c) (slice_cmp nat_cmp s t) (tied x c first.byte)) ∙ byte_decides s t n (omega (arith, here)) (omega arith) (omega arith)

-- a comparison with one source narrows where the text stands, and what it shares with the sources beside
pub record IsNarrowed (rules : List TextRule) (text : Text) (low high before at : ℕ) : Type 0 where
  pub cut : IsCut rules text low high
  pub before_is : IsSharedBefore rules text low before
  pub at_is : IsSharedAt rules text high at

pub narrow_none : (rules : List TextRule) (text : Text) (count : ℕ) → count ≡ length rules → IsNarrowed rules text 0 count 0 0
narrow_none rules text count e = record {
  cut = record {
    order = omega arith;
    within = omega arith;
    before = λ k l. absurd (omega arith);
    behind = λ k l r. absurd (omega arith);
  };
  before_is = record { none = λ _. refl; some = λ l. absurd (omega arith) };
  at_is = record { none = λ _. refl; some = λ l. absurd (omega arith) };
}

pub narrow_down : (rules : List TextRule) (text : Text) (low high before at middle found : ℕ) → Rise rules → IsNarrowed rules text low high before at → low ≤ middle → middle < high → found ≡ shared (source_at rules middle) text → is_behind text (source_at rules middle) ≡ true → IsNarrowed rules text low middle before found
narrow_down rules text low high before at middle found rising so h k e is = record {
  cut = cut_down rules text low high middle rising so.cut h k is;
  before_is = so.before_is;
  at_is = record { none = λ l. absurd (omega (arith, so.cut.within)); some = λ l. e };
}

pub narrow_up : (rules : List TextRule) (text : Text) (low high before at middle found : ℕ) → Rise rules → IsNarrowed rules text low high before at → middle < high → found ≡ shared (source_at rules middle) text → is_behind text (source_at rules middle) ≡ false → IsNarrowed rules text (middle + 1) high found at
narrow_up rules text low high before at middle found rising so k e isnt =
    let back : middle + 1 - 1 ≡ middle = omega arith in
    record {
      cut = cut_up rules text low high middle rising so.cut k isnt;
      before_is = record { none = λ l. absurd (omega arith); some = λ l. e ∙ ap (λ (n : ℕ). shared (source_at rules n) text) (sym back) };
      at_is = so.at_is;
    }

pub last_shared : (rules : List TextRule) (text source : Text) (count found : ℕ) → 0 < count → source ≡ source_at rules (count - 1) → found ≡ shared source text → IsSharedBefore rules text count found
last_shared rules text source count found some e is = record {
  none = λ l. absurd (omega arith);
  some = λ l. is ∙ ap (λ (s : Text). shared s text) e;
}

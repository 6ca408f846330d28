-- The nodes of the names that a class holds.
use Rattle.std.proofs.Common.{◌≡◌, ◌^◌, ◌↔◌, ◌⊎◌, inl, inr, ℕ, zero, suc, ◌+◌, ◌<◌, ◌≤◌, List, [], ◌∷◌, ◌++◌, length, get_or, refl, sym, ap, ap₂, subst, ◌∙◌, arith, length-append}
use Rattle.std.specs.List.{Contains}
use Rattle.std.specs.List.Sorted.{IsStrictlyIncreasing}
use Rattle.std.specs.declared.cmp.Ordering.TheVariants.{Less}
use Rattle.std.specs.Ordering.{nat_cmp}
use Rattle.std.specs.Cmp.Lexicographic.{slice_cmp}
use Rattle.std.proofs.lemmas.Cmp.{nat_list_cmp_total}
use Rattle.std.proofs.lemmas.Bool.{cases_order}
use Rattle.std.proofs.lemmas.List.{get_or_append_left, get_or_default}
use Rattle.desk_base.specs.Names.{Text}
use Rattle.desk_packages.specs.Keys.{RiseBy, IsNowhere, IsPlaceOf}
use Rattle.desk_packages.proofs.Picks.{In}
use Rattle.desk_packages.proofs.Searched.{at_in}
use Rattle.desk_graph.specs.Tables.{as_is}
use Rattle.desk_class.specs.Held.{Holds, held_in, ascending}
use Rattle.desk_class.proofs.Ascending.{same_sorted, in_front, in_back, in_either, from_contains, to_contains, in_ascending, from_ascending, ascending_sorted}
use Rattle.desk_graph.proofs.Orders.{rises, tested, from_tested}
use Rattle.desk_graph.specs.Graphs.{is_held_in, places_held, links_of}
use Rattle.std.specs.List.{AllByRecursion}
use Rattle.std.specs.List.Sorted.{IsStrictlySortedBy}
use Rattle.std.proofs.lemmas.Map.Keys.{sorted_from_strictly_increasing}
use Rattle.std.proofs.lemmas.Cmp.{nat_cmp_total}
use Rattle.std.proofs.lemmas.Bool.Decides.{nat_tests}
use Rattle.std.proofs.Common.{Bool, true, false, cond}
use Rattle.desk_graph.proofs.Numbering.{less_itself}

-- of the first of these names, the places of those that are defined
pub record Linked (defined names : List Text) (n : ℕ) (links : List ℕ) : Type 0 where
  pub from : (k : ℕ) → In links k → (k < length defined) × ((j : ℕ) × (j < n) × (get_or names j [] ≡ get_or defined k []))
  pub all : (j k : ℕ) → j < n → k < length defined → get_or names j [] ≡ get_or defined k [] → In links k
  pub rise : IsStrictlyIncreasing links

pub none_linked : (defined names : List Text) → Linked defined names 0 []
none_linked defined names = record { from = λ k h. absurd h; all = λ j k l h e. absurd (omega arith); rise = λ k h. absurd (omega arith) }

last_or_before : (n i : ℕ) → i < n + 1 → (i < n) ⊎ (i ≡ n)
last_or_before n i h = grind arith

-- a number above all of an ascending list
last_at : (xs : List ℕ) (k m : ℕ) → m ≡ length xs → get_or (xs ++ k ∷ []) m 0 ≡ k
last_at [] k zero e = refl
last_at [] k (suc m) e = absurd (omega arith)
last_at (x ∷ xs) k zero e = absurd (omega arith)
last_at (x ∷ xs) k (suc m) e = last_at xs k m (omega arith)

rise_push : (xs : List ℕ) (k : ℕ) → IsStrictlyIncreasing xs → ((p : ℕ) → In xs p → p < k) → IsStrictlyIncreasing (xs ++ k ∷ [])
rise_push xs k rise below m h = elim (last_or_before (length xs) (m + 1) (omega (arith, length-append xs (k ∷ [])))) [
  | inl before ↦
      let a : get_or (xs ++ k ∷ []) m 0 ≡ get_or xs m 0 = get_or_append_left xs (k ∷ []) 0 m (omega arith) in
      let b : get_or (xs ++ k ∷ []) (m + 1) 0 ≡ get_or xs (m + 1) 0 = get_or_append_left xs (k ∷ []) 0 (m + 1) before in
      let l : get_or xs m 0 < get_or xs (m + 1) 0 = rise m before in
      omega (arith, a, b, l)
  | inr last ↦
      let a : get_or (xs ++ k ∷ []) m 0 ≡ get_or xs m 0 = get_or_append_left xs (k ∷ []) 0 m (omega arith) in
      let b : get_or (xs ++ k ∷ []) (m + 1) 0 ≡ k = last_at xs k (m + 1) last in
      let l : get_or xs m 0 < k = below (get_or xs m 0) (at_in xs m 0 (omega arith)) in
      omega (arith, a, b, l)
]

module _ (defined names : List Text) (defined_rise : RiseBy as_is defined) (names_rise : RiseBy as_is names) (n : ℕ) (item : Text) (h : n < length names) (at : (d : Text) → get_or names n d ≡ item) (links : List ℕ) (l : Linked defined names n links) where
  pub not_linked : IsNowhere as_is defined item → Linked defined names (n + 1) links
  not_linked none = record {
    from = λ k i. let f = l.from k i in (f.0, (f.1.0, omega (arith, f.1.1), f.1.2));
    all = λ j k lt within e. elim (last_or_before n j lt) [
      | inl before ↦ l.all j k before within e
      | inr last ↦ absurd (none k [] within (sym e ∙ ap (λ (i : ℕ). get_or names i []) last ∙ at []))
    ];
    rise = l.rise;
  }

  module _ (k0 : ℕ) (place : IsPlaceOf as_is defined item k0) where
    -- a node that was found before is below
    below : (p : ℕ) → In links p → p < k0
    below p i =
        let f = l.from p i in
        let less : slice_cmp nat_cmp (get_or names f.1.0 []) (get_or names n []) ≡ Less = names_rise f.1.0 n [] f.1.1 h in
        let up : slice_cmp nat_cmp (get_or defined p []) (get_or defined k0 []) ≡ Less = ap₂ (slice_cmp nat_cmp) (sym f.1.2) (place.1 [] ∙ sym (at [])) ∙ less in
        elim (cases_order p k0) [
          | inl same ↦ absurd (less_itself (get_or defined p []) (ap (λ (q : ℕ). slice_cmp nat_cmp (get_or defined p []) (get_or defined q [])) same ∙ up))
          | inr apart ↦ elim apart [
            | inl lt ↦ lt
            | inr gt ↦ absurd (less_itself (get_or defined p []) (nat_list_cmp_total.trans (get_or defined p []) (get_or defined k0 []) (get_or defined p []) up (defined_rise k0 p [] gt f.0)))
          ]
        ]

    one_place : (k : ℕ) → k < length defined → item ≡ get_or defined k [] → k0 ≡ k
    one_place k within e =
        let same : get_or defined k [] ≡ get_or defined k0 [] = sym e ∙ sym (place.1 []) in
        elim (cases_order k0 k) [
          | inl same ↦ same
          | inr apart ↦ elim apart [
            | inl lt ↦ absurd (less_itself (get_or defined k0 []) (ap (slice_cmp nat_cmp (get_or defined k0 [])) (sym same) ∙ defined_rise k0 k [] lt within))
            | inr gt ↦ absurd (less_itself (get_or defined k0 []) (ap (λ (t : Text). slice_cmp nat_cmp t (get_or defined k0 [])) (sym same) ∙ defined_rise k k0 [] gt place.0))
          ]
        ]

    pub linked : Linked defined names (n + 1) (links ++ k0 ∷ [])
    linked = record {
      from = λ k i. elim (in_either links (k0 ∷ []) k i) [
        | inl old ↦ let f = l.from k old in (f.0, (f.1.0, omega (arith, f.1.1), f.1.2))
        | inr new ↦ elim new [
          | inl e ↦ (subst (λ (q : ℕ). q < length defined) e place.0, (n, omega arith, at [] ∙ sym (place.1 []) ∙ ap (λ (q : ℕ). get_or defined q []) e))
          | inr none ↦ absurd none
        ]
      ];
      all = λ j k lt within e. elim (last_or_before n j lt) [
        | inl before ↦ in_front links (k0 ∷ []) k (l.all j k before within e)
        | inr last ↦ in_back links (k0 ∷ []) k (inl (one_place k within (sym (at []) ∙ ap (λ (i : ℕ). get_or names i []) (sym last) ∙ e)))
      ];
      rise = rise_push links k0 l.rise below;
    }

-- the name at a place
pub item_at : (names : List Text) (n : ℕ) (item : Text) → n < length names → item ≡ get_or names n item → (d : Text) → get_or names n d ≡ item
item_at names n item h is d = get_or_default names n d item h ∙ sym is

-- The places of the defined names that a class holds, ascending, each once.
pub record AreLinks (defined : List Text) (bytes : Text) (links : List ℕ) : Type 0 where
  pub each : (k : ℕ) → Contains links k ↔ ((k < length defined) × Holds bytes (get_or defined k []))
  pub rise : IsStrictlyIncreasing links

-- names in byte order are the same names
pub same_names : (names ts : List Text) → names ≡ ascending ts → (name : Text) → Contains names name ↔ Contains ts name
same_names names ts e name = (
  λ c. to_contains ts name (from_ascending ts name (subst (λ (ns : List Text). In ns name) e (from_contains names name c))),
  λ c. to_contains names name (subst (λ (ns : List Text). In ns name) (sym e) (in_ascending ts name (from_contains ts name c))),
)

pub ascending_rise : (names ts : List Text) → names ≡ ascending ts → RiseBy as_is names
ascending_rise names ts e = subst (RiseBy as_is) (sym e) (rises (ascending ts) (ascending_sorted ts))

-- after all names
pub are_links : (defined names : List Text) (bytes : Text) (n : ℕ) (links : List ℕ) → ((name : Text) → Contains names name ↔ Holds bytes name) → length names ≤ n → n ≤ length names → Linked defined names n links → AreLinks defined bytes links
are_links defined names bytes n links held over within l = record {
  each = λ k. (
    λ c.
        let f = l.from k (from_contains links k c) in
        let x = get_or defined k [] in
        (f.0, (held (get_or defined k [])).0 (f.1.0, omega (arith, f.1.1), get_or_default names f.1.0 (get_or defined k []) [] (omega (arith, f.1.1)) ∙ f.1.2)),
    λ h.
        let c = (held (get_or defined k [])).1 h.1 in
        to_contains links k (l.all c.0 k (omega (arith, c.1)) h.0 (get_or_default names c.0 [] (get_or defined k []) c.1 ∙ c.2)),
  );
  rise = l.rise;
}

-- ---- the places that pass

less : (x z : ℕ) → x < z → nat_cmp x z ≡ Less
less x z h = grind (arith, nat_tests)

above : (held : Text → Bool) (k : ℕ) (ds : List Text) (x : ℕ) → x < k → AllByRecursion (λ z. nat_cmp x z ≡ Less) (places_held held k ds)
above held k [] x h = tt
above held k (d ∷ ds) x h = elim (held d) as (λ (b : Bool). AllByRecursion (λ z. nat_cmp x z ≡ Less) (cond b (k ∷ places_held held (k + 1) ds) (places_held held (k + 1) ds))) [
  | true ↦ (less x k h, above held (k + 1) ds x (omega arith))
  | false ↦ above held (k + 1) ds x (omega arith)
]

places_sorted : (held : Text → Bool) (k : ℕ) (ds : List Text) → IsStrictlySortedBy nat_cmp (places_held held k ds)
unfolding IsStrictlySortedBy
places_sorted held k [] = tt
places_sorted held k (d ∷ ds) = elim (held d) as (λ (b : Bool). IsStrictlySortedBy nat_cmp (cond b (k ∷ places_held held (k + 1) ds) (places_held held (k + 1) ds))) [
  | true ↦ (above held (k + 1) ds k (omega arith), places_sorted held (k + 1) ds)
  | false ↦ places_sorted held (k + 1) ds
]

record PlaceOf (held : Text → Bool) (k : ℕ) (ds : List Text) (q : ℕ) : Type 0 where
  j : ℕ
  within : j < length ds
  is : q ≡ k + j
  passes : held (get_or ds j []) ≡ true

from_place : (held : Text → Bool) (k : ℕ) (ds : List Text) (q : ℕ) → In (places_held held k ds) q → PlaceOf held k ds q
from_place held k [] q h = absurd h
from_place held k (d ∷ ds) q h = by (λ h. from_place held (k + 1) ds q h) (held d) refl h
  where
    further : PlaceOf held (k + 1) ds q → PlaceOf held k (d ∷ ds) q
    further p = record { j = suc p.j; within = omega (arith, p.within); is = omega (arith, p.is); passes = p.passes }

    by : (In (places_held held (k + 1) ds) q → PlaceOf held (k + 1) ds q) → (b : Bool) → held d ≡ b → In (cond b (k ∷ places_held held (k + 1) ds) (places_held held (k + 1) ds)) q → PlaceOf held k (d ∷ ds) q
    by later true e (inl same) = record { j = 0; within = omega arith; is = omega arith; passes = e }
    by later true e (inr h) = further (later h)
    by later false e h = further (later h)

to_place : (held : Text → Bool) (k : ℕ) (ds : List Text) (j q : ℕ) → j < length ds → q ≡ k + j → held (get_or ds j []) ≡ true → In (places_held held k ds) q
to_place held k [] j q within is passes = absurd (omega arith)
to_place held k (d ∷ ds) zero q within is passes =
    let same : k ≡ q = omega arith in
    let P : Bool → Type 0 = λ b. In (cond b (k ∷ places_held held (k + 1) ds) (places_held held (k + 1) ds)) q in
    subst P (sym passes) (inl same)
to_place held k (d ∷ ds) (suc j) q within is passes =
    let later : In (places_held held (k + 1) ds) q = to_place held (k + 1) ds j q (omega arith) (omega arith) passes in
    elim (held d) as (λ (b : Bool). In (cond b (k ∷ places_held held (k + 1) ds) (places_held held (k + 1) ds)) q) [
      | true ↦ inr later
      | false ↦ later
    ]

-- the links are these places
pub links_are : (defined : List Text) (bytes : Text) (links : List ℕ) → AreLinks defined bytes links → links ≡ links_of defined bytes
links_are defined bytes links l =
    let names = held_in bytes in
    same_sorted nat_cmp nat_cmp_total links (links_of defined bytes) (sorted_from_strictly_increasing links l.rise) (places_sorted (is_held_in bytes) 0 defined)
    (λ q h.
    let e = (l.each q).0 (to_contains links q h) in
    to_place (is_held_in bytes) 0 defined q q e.0 (omega arith) (tested (held_in bytes) (get_or defined q []) (from_contains (held_in bytes) (get_or defined q []) e.1)))
    (λ q h.
    let p : PlaceOf (is_held_in bytes) 0 defined q = from_place (is_held_in bytes) 0 defined q h in
    let same : p.j ≡ q = omega (arith, p.is) in
    let within : q < length defined = omega (arith, p.within) in
    let passes : is_held_in bytes (get_or defined q []) ≡ true = ap (λ (i : ℕ). is_held_in bytes (get_or defined i [])) (sym same) ∙ p.passes in
    from_contains links q ((l.each q).1 (within, to_contains (held_in bytes) (get_or defined q []) (from_tested (held_in bytes) (get_or defined q []) passes))))

-- no more links than names
pub places_few : (held : Text → Bool) (k : ℕ) (ds : List Text) → length (places_held held k ds) ≤ length ds
places_few held k [] = omega arith
places_few held k (d ∷ ds) =
    let few : length (places_held held (k + 1) ds) ≤ length ds = places_few held (k + 1) ds in
    elim (held d) as (λ (b : Bool). length (cond b (k ∷ places_held held (k + 1) ds) (places_held held (k + 1) ds)) ≤ suc (length ds)) [
      | true ↦ omega (arith, few)
      | false ↦ omega (arith, few)
    ]

pub few_links : (defined : List Text) (bytes : Text) (links : List ℕ) → links ≡ links_of defined bytes → length defined < 2 ^ 32 → length links < 2 ^ 32
few_links defined bytes links is few = omega (arith, ap length is, places_few (is_held_in bytes) 0 defined, few)

-- A rename is found by the bytes of a path as it is picked for the path's package.
use Rattle.std.proofs.Common.{◌≡◌, ◌<◌, ◌≤◌, ◌+◌, ℕ, Bool, true, false, cond, not, ◌&&◌, ◌==◌, List, [], ◌∷◌, ◌++◌, length, take, drop, Option, Some, None, nat_lt, refl, sym, ap, ◌∙◌, ◌⊎◌, inl, inr, arith, length-append}
use Rattle.std.specs.List.{list_all, slice_split, Contains}
use Rattle.std.proofs.lemmas.Bool.{and_parts, and_from, both_ways, cases_lt, ltb-true, ltb-false, not-true}
use Rattle.std.proofs.lemmas.Slice.Eq.{bytes_eq-Decides}
use Rattle.std.proofs.lemmas.List.{append-nil, append_assoc, take_at, take_all, take-append-drop, drop_more, get_or_at, length-take-le}
use Rattle.desk_base.specs.Names.{Text, Package, segments, written, is_identifier, is_empty}
use Rattle.desk_packages.specs.Renames.{Renaming, key_of, is_rename, in_scope, covers, exact, longest, longer}
use Rattle.desk_packages.specs.Keys.{is_separator, wanted, IsTable, IsSource, NoSource, EndsAt, EndsBelow}
use Rattle.desk_packages.proofs.Same.{same_is, same_from, begins_from, covers_is, Longer, nested_by}
use Rattle.desk_packages.proofs.Picks.{In, Found, longest_Some, fits_below, all_In}
use Rattle.desk_packages.proofs.Cuts.{segments_written, segments_behind, written-segments}
use Rattle.desk_packages.proofs.KeyLaws.{identifier_cuts, path_key}
use Rattle.desk_packages.proofs.Searched.{find_only, find_nothing, in_at, at_in, one_key}

longer_first : (r : Renaming) (o : Option Renaming) → length r.source ≤ length (longer r o).source
longer_first r None = omega arith
longer_first r (Some s) = elim (nat_lt (length s.source) (length r.source)) as (λ (b : Bool). nat_lt (length s.source) (length r.source) ≡ b → length r.source ≤ length (cond b r s).source) [
  | true ↦ λ e. omega arith
  | false ↦ λ e. ltb-false (length s.source) (length r.source) e
] refl

longer_second : (r s : Renaming) → length s.source ≤ length (longer r (Some s)).source
longer_second r s = elim (nat_lt (length s.source) (length r.source)) as (λ (b : Bool). nat_lt (length s.source) (length r.source) ≡ b → length s.source ≤ length (cond b r s).source) [
  | true ↦ λ e. omega (arith, ltb-true (length s.source) (length r.source) e)
  | false ↦ λ e. omega arith
] refl

-- where there is no longest, no below rename fits
pub longest_None : (rs : List Renaming) (p : Package) → longest rs p ≡ None → (x : Renaming) → In rs x → fits_below p x ≡ true → ⊥
longest_None [] p e x is fits = is
longest_None (r ∷ rs) p e x is fits =
    elim (fits_below p r) as (λ (b : Bool). fits_below p r ≡ b → cond b (Some (longer r (longest rs p))) (longest rs p) ≡ None → ⊥) [
      | true ↦ λ q h. absurd cc
      | false ↦ λ q h. elim is [
        | inl same ↦ both_ways (fits_below p r) q (rw same fits)
        | inr later ↦ longest_None rs p h x later fits
      ]
    ] refl e

-- the longest is no shorter than another that fits
pub longest_most : (rs : List Renaming) (p : Package) (y : Renaming) → longest rs p ≡ Some y → (x : Renaming) → In rs x → fits_below p x ≡ true → length x.source ≤ length y.source
longest_most [] p y e x is fits = absurd is
longest_most (r ∷ rs) p y e x is fits =
    elim (fits_below p r) as (λ (b : Bool). fits_below p r ≡ b → cond b (Some (longer r (longest rs p))) (longest rs p) ≡ Some y → length x.source ≤ length y.source) [
      | true ↦ λ q h.
          let same_y : longer r (longest rs p) ≡ y = cc in
          elim is [
            | inl same ↦ rw (← same_y, ← same) (longer_first r (longest rs p))
            | inr later ↦ rw (← same_y) (elim (longest rs p) as (λ (o : Option Renaming). longest rs p ≡ o → length x.source ≤ length (longer r o).source) [
              | None ↦ λ k. absurd (longest_None rs p k x later fits)
              | Some s ↦ λ k. let below : length x.source ≤ length s.source = longest_most rs p s k x later fits in omega (arith, longer_second r s)
            ] refl)
          ]
      | false ↦ λ q h. elim is [
        | inl same ↦ absurd (both_ways (fits_below p r) q (rw same fits))
        | inr later ↦ longest_most rs p y h x later fits
      ]
    ] refl e

-- a below rename that fits and is longer than each other one is the longest
pub longest_only : (rs : List Renaming) (p : Package) (r : Renaming) → In rs r → fits_below p r ≡ true → ((x : Renaming) → In rs x → fits_below p x ≡ true → (x ≡ r) ⊎ (length x.source < length r.source)) → longest rs p ≡ Some r
longest_only rs p r is fits only =
    elim (longest rs p) as (λ (o : Option Renaming). longest rs p ≡ o → o ≡ Some r) [
      | None ↦ λ e. absurd (longest_None rs p e r is fits)
      | Some y ↦ λ e.
          let f : Found (fits_below p) rs y = longest_Some rs p y e in
          let most : length r.source ≤ length y.source = longest_most rs p y e r is fits in
          elim (only y f.there f.passes) [
            | inl same ↦ ap (λ (w : Renaming). Some w) same
            | inr shorter ↦ absurd (omega arith)
          ]
    ] refl

pub longest_nothing : (rs : List Renaming) (p : Package) → ((x : Renaming) → In rs x → fits_below p x ≡ true → ⊥) → longest rs p ≡ None
longest_nothing rs p none =
    elim (longest rs p) as (λ (o : Option Renaming). longest rs p ≡ o → o ≡ None) [
      | None ↦ λ e. refl
      | Some y ↦ λ e. let f : Found (fits_below p) rs y = longest_Some rs p y e in absurd (none y f.there f.passes)
    ] refl

-- packages joined behind one another
pub written_more : (s : ℕ) (x : Text) (xs : Package) (y : Text) (ys : Package) → written s ((x ∷ xs) ++ y ∷ ys) ≡ written s (x ∷ xs) ++ s ∷ written s (y ∷ ys)
written_more s x [] y ys = refl
written_more s x (z ∷ xs) y ys = rw (written_more s z xs y ys) (sym (append_assoc x (s ∷ written s (z ∷ xs)) (s ∷ written s (y ∷ ys))))

-- what a path begins with
pub record Prefix (s : ℕ) (path w : Text) : Type 0 where
  pub within : length w ≤ length path
  pub is : take (length w) path ≡ w
  pub ends : EndsAt s path (length w)

whole_prefix : (s : ℕ) (w : Text) → Prefix s w w
whole_prefix s w = record { within = omega arith; is = take_all (length w) w (omega arith); ends = inl refl }

cut_prefix : (s : ℕ) (w more : Text) → Prefix s (w ++ s ∷ more) w
cut_prefix s w more =
    let lengths : length (w ++ s ∷ more) ≡ length w + length (s ∷ more) = length-append w (s ∷ more) in
    record { within = omega arith; is = take_at w (s ∷ more) (length w) refl; ends = inr (omega (arith, lengths), get_or_at w s more 0 (length w) refl) }

-- a package that a path's package begins with is written as a prefix of the path
pub start_prefix : (s : ℕ) (path : Text) (start : Package) → not (is_empty start) ≡ true → (rest : Package) → segments s path ≡ start ++ rest → Prefix s path (written s start)
start_prefix s path [] filled rest e = absurd cc
start_prefix s path (x ∷ xs) filled [] e =
    let same : path ≡ written s (x ∷ xs) = sym (written-segments s path) ∙ ap (written s) (e ∙ append-nil (x ∷ xs)) in
    rw same (whole_prefix s (written s (x ∷ xs)))
start_prefix s path (x ∷ xs) filled (y ∷ ys) e =
    let same : path ≡ written s (x ∷ xs) ++ s ∷ written s (y ∷ ys) = sym (written-segments s path) ∙ ap (written s) e ∙ written_more s x xs y ys in
    rw same (cut_prefix s (written s (x ∷ xs)) (written s (y ∷ ys)))

-- and the other way round
pub prefix_start : (s : ℕ) → is_separator s ≡ true → (path : Text) (start : Package) → not (is_empty start) ≡ true → list_all is_identifier start ≡ true → (n : ℕ) → n ≤ length path → EndsAt s path n → written s start ≡ take n path → (rest : Package) × (segments s path ≡ start ++ rest)
prefix_start s h path [] filled formed n within ends is = absurd cc
prefix_start s h path (x ∷ xs) filled formed n within (inl all) is =
    let same : path ≡ written s (x ∷ xs) = sym (take_all n path (omega arith)) ∙ sym is in
    ([], ap (segments s) same ∙ segments_written s is_identifier (identifier_cuts s h) (x ∷ xs) formed ∙ sym (append-nil (x ∷ xs)))
prefix_start s h path (x ∷ xs) filled formed n within (inr cut) is =
    let same : path ≡ written s (x ∷ xs) ++ s ∷ drop (n + 1) path =
    sym (take-append-drop n path) ∙ ap (λ (t : Text). take n path ++ t) (drop_more path n 0 cut.0 ∙ ap (λ (b : ℕ). b ∷ drop (n + 1) path) cut.1) ∙ ap (λ (t : Text). t ++ s ∷ drop (n + 1) path) (sym is) in
    (slice_split (λ b. b == s) (drop (n + 1) path), ap (segments s) same ∙ segments_behind s is_identifier (identifier_cuts s h) x xs (drop (n + 1) path) formed)

-- the longer start is written longer
pub longer_written : (s : ℕ) (a b : Package) → not (is_empty a) ≡ true → Longer b a → length (written s a) ≤ length (written s b)
longer_written s [] b filled l = absurd cc
longer_written s (x ∷ xs) b filled l =
    elim (l.0) as (λ (rest : Package). b ≡ (x ∷ xs) ++ rest → length (written s (x ∷ xs)) ≤ length (written s b)) [
      | [] ↦ λ e.
          let lengths : length (written s b) ≡ length (written s (x ∷ xs)) = ap (λ (ps : Package). length (written s ps)) (e ∙ append-nil (x ∷ xs)) in
          omega (arith, lengths)
      | y ∷ ys ↦ λ e.
          let lengths : length (written s b) ≡ length (written s (x ∷ xs)) + length (s ∷ written s (y ∷ ys)) =
          ap (λ (ps : Package). length (written s ps)) e ∙ ap length (written_more s x xs y ys) ∙ length-append (written s (x ∷ xs)) (s ∷ written s (y ∷ ys)) in
          omega (arith, lengths)
    ] (l.1)

pub written_filled : (s : ℕ) (x : Text) (xs : Package) → is_identifier x ≡ true → 0 < length (written s (x ∷ xs))
written_filled s [] xs h = absurd cc
written_filled s (b ∷ x) [] h = omega arith
written_filled s (b ∷ x) (y ∷ ys) h = omega arith

covers_same : (b : Bool) (start p : Package) → b ≡ false → start ≡ p → covers b start p ≡ true
covers_same true start p plain e = absurd cc
covers_same false start p plain e = same_from start p e

pub covers_only : (b : Bool) (start p : Package) → b ≡ false → covers b start p ≡ true → start ≡ p
covers_only true start p plain e = absurd cc
covers_only false start p plain e = same_is start p e

pub covers_start : (b : Bool) (start p rest : Package) → b ≡ true → p ≡ start ++ rest → covers b start p ≡ true
covers_start true start p rest is e = begins_from p start rest e
covers_start false start p rest is e = absurd cc

pub one_of : (rs : List Renaming) (r : Renaming) → Contains rs r → In rs r
one_of rs r there = rw there.2 at (at_in rs there.0 r there.1)

pub contained : (rs : List Renaming) (r : Renaming) → In rs r → Contains rs r
contained rs r is = let at = in_at rs r is in (at.0, at.1, at.2 r)

-- no below rename that fits is written longer than n bytes
pub record IsRuledOut (rs : List Renaming) (s : ℕ) (path : Text) (n : ℕ) : Type 0 where
  pub shorter : (x : Renaming) → In rs x → fits_below (segments s path) x ≡ true → length (written s x.source) ≤ n

module _ (rs : List Renaming) (table : IsTable rs) (s : ℕ) (h : is_separator s ≡ true) (path : Text) where
  pub formed : (r : Renaming) → In rs r → (not (is_empty r.source) ≡ true) × (list_all is_identifier r.source ≡ true)
  formed r is = let both = and_parts _ _ (and_parts _ _ (all_In is_rename rs r table.formed is)).0 in (both.0, both.1)

  -- two renames of one kind with one source are one
  pub one_source : (x r : Renaming) → In rs x → In rs r → (b : Bool) → x.below ≡ b → r.below ≡ b → written s x.source ≡ written s r.source → x ≡ r
  one_source x r is js b below_x below_r e =
      one_key key_of rs table.rising x r is js
      (path_key s h x (formed x is).1 (written s r.source) e ∙ ap (wanted s (written s r.source)) (below_x ∙ sym below_r) ∙ sym (path_key s h r (formed r js).1 (written s r.source) refl))

  -- what is written as the path is its package
  written_here : (r : Renaming) → In rs r → written s r.source ≡ path → r.source ≡ segments s path
  written_here r is e = sym (segments_written s is_identifier (identifier_cuts s h) r.source (formed r is).1) ∙ ap (segments s) e

  -- the exact rename with the source that is written as the path is picked
  pub exact_found : (r : Renaming) → IsSource rs s path false r → exact rs (segments s path) ≡ Some r
  exact_found r found =
      let is : In rs r = one_of rs r found.there in
      let parts = and_parts _ _ found.is in
      let plain : r.below ≡ false = not-true _ parts.0 in
      let text : written s r.source ≡ path = (bytes_eq-Decides (written s r.source) path).0 parts.1 in
      find_only (λ (r : Renaming). not r.below && in_scope r (segments s path)) rs r is
      (and_from _ _ parts.0 (covers_same r.below r.source (segments s path) plain (written_here r is text)))
      (λ y js test.
      let plain_y : y.below ≡ false = not-true _ (and_parts _ _ test).0 in
      let source_y : y.source ≡ segments s path = covers_only y.below y.source (segments s path) plain_y (and_parts _ _ test).1 in
      one_source y r js is false plain_y plain (ap (written s) source_y ∙ written-segments s path ∙ sym text))

  pub exact_missing : NoSource rs s path false → exact rs (segments s path) ≡ None
  exact_missing none = find_nothing (λ (r : Renaming). not r.below && in_scope r (segments s path)) rs (λ y js test.
      let plain_y : y.below ≡ false = not-true _ (and_parts _ _ test).0 in
      let source_y : y.source ≡ segments s path = covers_only y.below y.source (segments s path) plain_y (and_parts _ _ test).1 in
      none y record {
        there = contained rs y js;
        is = and_from _ _ (and_parts _ _ test).0 ((bytes_eq-Decides (written s y.source) path).1 (ap (written s) source_y ∙ written-segments s path));
      })

  -- a below rename that fits is written as a prefix of the path
  pub fitting : (x : Renaming) → In rs x → fits_below (segments s path) x ≡ true → Prefix s path (written s x.source)
  fitting x is fits = start_prefix s path x.source (formed x is).0 _ (covers_is x.below x.source (segments s path) (and_parts _ _ fits).1)

  -- the one that ends where no longer one does is the longest
  pub longest_at : (n : ℕ) → n ≤ length path → IsRuledOut rs s path n → (r : Renaming) → EndsBelow rs s path n r → longest rs (segments s path) ≡ Some r
  longest_at n within known r at =
      let is : In rs r = one_of rs r at.there in
      let start = prefix_start s h path r.source (formed r is).0 (formed r is).1 n within at.ends at.spelled in
      let fits : fits_below (segments s path) r ≡ true = and_from _ _ at.below (covers_start r.below r.source (segments s path) start.0 at.below start.1) in
      longest_only rs (segments s path) r is fits (λ x js fits_x.
      let prefix = fitting x js fits_x in
      let most : length (written s x.source) ≤ n = known.shorter x js fits_x in
      let below_x : x.below ≡ true = (and_parts _ _ fits_x).0 in
      elim (cases_lt (length x.source) (length r.source)) [
        | inl lt ↦ inr lt
        | inr ge ↦ elim (nested_by r.source x.source start.0 _ (sym start.1 ∙ covers_is x.below x.source (segments s path) (and_parts _ _ fits_x).1)) [
          | inl more ↦ inl (one_source x r js is true below_x at.below (ap (written s) (same_length r.source x.source more ge)))
          | inr more ↦
              let least : length (written s r.source) ≤ length (written s x.source) = longer_written s r.source x.source (formed r is).0 more in
              let whole : length (written s r.source) ≡ n = ap length at.spelled ∙ length-take-le n path within in
              let all : length (written s x.source) ≡ n = omega arith in
              inl (one_source x r js is true below_x at.below (sym prefix.is ∙ ap (λ (m : ℕ). take m path) all ∙ sym at.spelled))
        ]
      ])
    where
      same_length : (a b : Package) → Longer a b → length a ≤ length b → b ≡ a
      same_length a b l le =
          elim (l.0) as (λ (rest : Package). a ≡ b ++ rest → b ≡ a) [
            | [] ↦ λ e. sym (append-nil b) ∙ sym e
            | y ∷ ys ↦ λ e. absurd (omega (arith, ap length e, length-append b (y ∷ ys)))
          ] (l.1)

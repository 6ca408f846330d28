-- Look-ups find that two renames overlap where a search of all of them does.
use Rattle.std.proofs.Common.{◌≡◌, ℕ, Bool, true, false, cond, not, ◌&&◌, ◌||◌, ◌==◌, List, [], ◌∷◌, ◌++◌, take, drop, length, Option, Some, None, refl, sym, ap, ap₂, ◌∙◌, inl, inr}
use Rattle.std.specs.Prelude.{is_some, MatchOption}
use Rattle.std.specs.Option.{option_copied}
use denote.Ref.{Bor}
use Rattle.std.specs.List.{find, filter, list_any, starts_with, Contains}
use Rattle.std.specs.Str.{bytes_eq}
use Rattle.std.proofs.lemmas.Bool.{and_parts, and_from, or_cases, both_ways, cases_Bool, false_from_ne_true, not_from_false, not-true}
use Rattle.std.proofs.lemmas.Bool.Decides.{Decides-eqb}
use Rattle.std.proofs.lemmas.List.{append_assoc, append-nil}
use Rattle.std.proofs.lemmas.Slice.Eq.{bytes_eq-Decides, starts_is}
use Rattle.desk_base.specs.Names.{Text, Package, segments, written, front, dot, same, begins_with, is_dotted, is_identifier, is_package, is_empty}
use Rattle.desk_packages.specs.Renames.{Renaming, key_of, changes, in_reach, covers, is_rename, longest}
use Rattle.desk_packages.specs.Keys.{goes_on, wanted_tail}
use Rattle.desk_packages.specs.Fronts.{IsFrontEnd}
use Rattle.desk_packages.proofs.Picks.{In, find_None}
use Rattle.desk_packages.proofs.Searched.{find_nothing}
use Rattle.desk_packages.proofs.Lookup.{one_of, contained, longest_None}
use Rattle.desk_packages.proofs.Same.{same_is, same_from, begins_is, begins_from, covers_is}
use Rattle.desk_packages.proofs.Segments.{front_parts}
use Rattle.desk_chains.specs.Chains.{meets}
use Rattle.desk_chains.proofs.Chains.{package_named, package_in_reach, any_in, key_under, front_under}
use Rattle.desk_chains.proofs.Fronts.{reach_told}
use Rattle.desk_invert.specs.Inverse.{flipped, reaches_meet, differ, overlap}
use Rattle.desk_invert.specs.Exchanged.{touches, takes_back, NoneTouches, NoneTakesBack, IsTakenBack, AreExchanged}

-- whether the front of a package lies in a reach, told from the bytes
pub front_told : (r : Renaming) → is_rename r ≡ true → (p : Package) → is_package p ≡ true → goes_on r.below (written 46 r.target) (written 46 p) ≡ in_reach r (front p)
front_told r formed p h = reach_told r formed (written 46 p) (package_named p h).0 ∙ package_in_reach r p h

starts_from : (t w more : Text) → t ≡ w ++ 46 ∷ more → starts_with ◌==◌ t (w ++ 46 ∷ []) ≡ true
starts_from t w more e = (starts_is Decides-eqb t (w ++ 46 ∷ []) (starts_with ◌==◌ t (w ++ 46 ∷ [])) refl).1 more (e ∙ sym (append_assoc w (46 ∷ []) more))

pub exact_none : {A : Type 0} (b : Bool) (o : Option A) → (b && is_some o) ≡ false → b ≡ true → None ≡ o
exact_none true None h k = refl
exact_none true (Some x) h k = absurd cc
exact_none false o h k = absurd cc

-- where there is nothing, that which says when holds
pub none_told : {A : Type 0} (P : Type 0) (Q : A → Type 0) (o : Option A) → MatchOption o P Q → is_some o ≡ false → P
none_told P Q None h k = h
none_told P Q (Some x) h k = absurd cc

pub none_copied : {A : Type 0} (o : Option (Bor A)) (found : Option A) → option_copied o ≡ found → is_some o ≡ false → found ≡ None
none_copied None found e h = sym e
none_copied (Some x) found e h = absurd cc

front-append : (p q : Package) → not (is_empty q) ≡ true → front (p ++ q) ≡ p ++ front q
front-append [] q h = refl
front-append (x ∷ []) [] h = absurd cc
front-append (x ∷ []) (y ∷ q) h = refl
front-append (x ∷ z ∷ p) q h = ap (λ (w : Package). x ∷ w) (front-append (z ∷ p) q h)

-- a rename that isn't below has its source with dots as its key
plain_key : (t : Renaming) (p : Package) → t.below ≡ false → t.source ≡ p → key_of t ≡ written dot p
plain_key t p plain e = ap (λ (q : Package). written 46 q ++ wanted_tail t.below) e ∙ ap (λ (b : Bool). written 46 p ++ wanted_tail b) plain ∙ append-nil (written 46 p)

-- ---- what touches what a rename gives

module _ (r : Renaming) (formed : is_rename r ≡ true) (backs : List Renaming) (text : Text) (n : ℕ) (text_is : text ≡ written dot r.target) (cut : IsFrontEnd 46 text n)
    (none : longest backs (segments 46 (take n text)) ≡ None) (exact : r.below ≡ true → None ≡ find (λ (t : Renaming). bytes_eq (key_of t) text) backs)
    (clear : list_any (λ (t : Renaming). not (takes_back t r) && touches t r) (filter (λ (t : Renaming). starts_with ◌==◌ (key_of t) (written dot r.target ++ 46 ∷ [])) backs) ≡ false) where
  filled : not (is_empty r.target) ≡ true
  filled = (and_parts _ _ (and_parts (is_package r.source) (is_package r.target) formed).1).0

  front_is : segments 46 (take n text) ≡ front r.target
  front_is =
      let at = package_named r.target (and_parts (is_package r.source) (is_package r.target) formed).1 in
      sym (front_parts 46 is_identifier refl text n (ap is_dotted text_is ∙ at.0) cut) ∙ ap (λ (w : Text). front (segments 46 w)) text_is ∙ ap front at.1

  module _ (t : Renaming) (js : In backs t) (other : takes_back t r ≡ false) (h : touches t r ≡ true) where
    -- it isn't under the target
    under : starts_with ◌==◌ (key_of t) (written dot r.target ++ 46 ∷ []) ≡ true → ⊥
    under k = both_ways _ clear (any_in (λ (s : Renaming). not (takes_back s r) && touches s r) (λ (s : Renaming). starts_with ◌==◌ (key_of s) (written dot r.target ++ 46 ∷ [])) backs t js k (and_from _ _ (not_from_false _ other) h))

    -- as a below rename it doesn't fit the target's front
    above : t.below ≡ true → covers t.below t.source (front r.target) ≡ true → ⊥
    above deep k = longest_None backs (segments 46 (take n text)) none t js (and_from _ _ deep (ap (covers t.below t.source) front_is ∙ k))

    -- it hasn't the target as its source
    equal : (below : Bool) → t.below ≡ below → t.source ≡ r.target → ⊥
    equal true deep e = under (starts_from (key_of t) (written 46 r.target) (42 ∷ []) (ap (λ (p : Package). written 46 p ++ wanted_tail t.below) e ∙ ap (λ (b : Bool). written 46 r.target ++ wanted_tail b) deep))
    equal false plain e = by r.below refl
      where
        by : (b : Bool) → r.below ≡ b → ⊥
        by true deep = both_ways _ (find_None (λ (s : Renaming). bytes_eq (key_of s) text) backs t (sym (exact deep)) js) ((bytes_eq-Decides (key_of t) text).1 (plain_key t r.target plain e ∙ sym text_is))
        by false flat = both_ways _ other (and_from _ _ (same_from t.source r.target e) (ap (λ (b : Bool). cond b t.below (not t.below)) flat ∙ not_from_false _ plain))

    shorter : t.below ≡ true → (rest : Package) → r.target ≡ t.source ++ rest → ⊥
    shorter deep [] e = equal true deep (sym (e ∙ append-nil t.source))
    shorter deep (y ∷ ys) e = above deep (fits t.below deep)
      where
        fits : (b : Bool) → b ≡ true → covers b t.source (front r.target) ≡ true
        fits true k = begins_from (front r.target) t.source (front (y ∷ ys)) (ap front e ∙ front-append t.source (y ∷ ys) refl)
        fits false k = absurd cc

    longer : (rest : Package) → t.source ≡ r.target ++ rest → ⊥
    longer [] e = equal t.below refl (e ∙ append-nil r.target)
    longer (y ∷ ys) e = under (key_under r.target filled t y ys e)

    touches_none : ⊥
    touches_none = elim (or_cases (meets r t) (in_reach r (front t.source)) h) [
      | inr reach ↦ under (front_under r.target filled t t.source refl (drop (length r.target) (front t.source)) (covers_is r.below r.target (front t.source) reach))
      | inl met ↦ elim (or_cases (same r.target t.source || (t.below && begins_with r.target t.source)) (r.below && begins_with t.source r.target) met) [
        | inl first ↦ elim (or_cases (same r.target t.source) (t.below && begins_with r.target t.source) first) [
          | inl e ↦ equal t.below refl (sym (same_is r.target t.source e))
          | inr deep ↦ let q = and_parts t.below (begins_with r.target t.source) deep in shorter q.0 (drop (length t.source) r.target) (begins_is r.target t.source q.1)
        ]
        | inr deep ↦ let q = and_parts r.below (begins_with t.source r.target) deep in longer (drop (length r.target) t.source) (begins_is t.source r.target q.1)
      ]
    ]

  pub untouched : NoneTouches r backs
  untouched t there other = false_from_ne_true (touches t r) (λ h. touches_none t (one_of backs t there) other h)

-- ---- what takes back what a rename gives

module _ (r : Renaming) (formed : is_rename r ≡ true) (backs : List Renaming) (text : Text) (text_is : text ≡ written dot r.target) where
  taken : (t : Renaming) → takes_back t r ≡ true → (t.source ≡ r.target) × (cond r.below t.below (not t.below) ≡ true)
  taken t h = let q = and_parts (same t.source r.target) (cond r.below t.below (not t.below)) h in (same_is t.source r.target q.0, q.1)

  -- no below rename fits the target of a below rename
  pub none_below : r.below ≡ true → longest backs (segments 46 text) ≡ None → NoneTakesBack r backs
  none_below deep none t there = false_from_ne_true (takes_back t r) (λ h.
      let q = taken t h in
      let below : t.below ≡ true = sym (ap (λ (b : Bool). cond b t.below (not t.below)) deep) ∙ q.1 in
      let cut : segments 46 text ≡ r.target = ap (segments 46) text_is ∙ (package_named r.target (and_parts (is_package r.source) (is_package r.target) formed).1).1 in
      longest_None backs (segments 46 text) none t (one_of backs t there) (and_from _ _ below (ap (covers t.below t.source) cut ∙ fits t.below t.source below q.0)))
    where
      fits : (b : Bool) (p : Package) → b ≡ true → p ≡ r.target → covers b p r.target ≡ true
      fits true p k e = begins_from r.target p [] (sym e ∙ sym (append-nil p))
      fits false p k e = absurd cc

  -- no rename has the key that takes back an exact rename
  pub none_exact : r.below ≡ false → find (λ (t : Renaming). bytes_eq (key_of t) text) backs ≡ None → NoneTakesBack r backs
  none_exact flat none t there = false_from_ne_true (takes_back t r) (λ h.
      let q = taken t h in
      let plain : t.below ≡ false = not-true _ (sym (ap (λ (b : Bool). cond b t.below (not t.below)) flat) ∙ q.1) in
      both_ways _ (find_None (λ (s : Renaming). bytes_eq (key_of s) text) backs t none (one_of backs t there)) ((bytes_eq-Decides (key_of t) text).1 (plain_key t r.target plain q.0 ∙ sym text_is)))

-- ---- what overlaps with one rename

pub unmoved : (rs : List Renaming) (r : Renaming) → changes r ≡ false → None ≡ find (overlap r) rs
unmoved rs r stays = sym (find_nothing (overlap r) rs (λ s js k.
    both_ways (changes r) stays (and_parts (changes r) (changes s) (and_parts (changes r && changes s) (differ r s) (and_parts (changes r && changes s && differ r s) (reaches_meet r s || in_reach r (front s.target)) k).0).0).0))

agree : (a b : Bool) → a ≡ b → cond b a (not a) ≡ true
agree true true h = refl
agree false false h = refl
agree true false h = absurd cc
agree false true h = absurd cc

-- where none of the exchanged renames touches what a rename gives, and no two give it, none overlaps with it
pub none_overlaps : (rs once repeated : List Renaming) → AreExchanged rs once repeated → (r : Renaming) → Contains rs r → NoneTakesBack r repeated → NoneTouches r once → None ≡ find (overlap r) rs
none_overlaps rs once repeated e r there alone none = sym (find_nothing (overlap r) rs (λ s js k.
    let p = and_parts (changes r && changes s && differ r s) (reaches_meet r s || in_reach r (front s.target)) k in
    let q = and_parts (changes r && changes s) (differ r s) p.0 in
    let m = and_parts (changes r) (changes s) q.0 in
    let back : IsTakenBack once s = e.each s (contained rs s js) m.1 in
    let same_touch : touches back.by r ≡ touches (flipped s) r = ap₂ (λ (w : Package) (b : Bool). touches (record { source = w; target = back.by.target; below = b }) r) back.source_is back.below_is in
    elim (cases_Bool (takes_back back.by r)) [
      | inr other ↦ both_ways (touches back.by r) (none back.by back.there other) (same_touch ∙ p.1)
      | inl taken ↦
          let again : takes_back (flipped s) r ≡ true = ap₂ (λ (w : Package) (b : Bool). takes_back (record { source = w; target = back.by.target; below = b }) r) (sym back.source_is) (sym back.below_is) ∙ taken in
          let two : IsTakenBack repeated r = e.several r s there (contained rs s js) m.0 m.1 q.1 again in
          both_ways (takes_back two.by r) (alone two.by two.there) (and_from (same two.by.source r.target) (cond r.below two.by.below (not two.by.below)) (same_from two.by.source r.target two.source_is) (agree two.by.below r.below two.below_is))
    ]))

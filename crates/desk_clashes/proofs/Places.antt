-- The first place of a target that clashes with a later one, and the place of the later one.
use Rattle.std.proofs.Common.{◌≡◌, ℕ, zero, suc, ◌+◌, ◌<◌, ◌≤◌, Bool, true, false, cond, ◌||◌, List, [], ◌∷◌, length, drop, get_or, Option, Some, None, refl, sym, ap, ◌∙◌, subst, arith, zero-add, add-zero}
use Rattle.std.specs.List.{list_any, position_from}
use Rattle.std.specs.Option.{option_map_or}
use Rattle.desk_base.specs.Names.{Text}
use Rattle.desk_clashes.specs.declared.Clash.{Clash}
use Rattle.desk_clashes.specs.Clashes.{clashes, clash_from, first_clash}
use Rattle.desk_clashes.specs.Known.{first_place}

-- a place that was found lies in the list
pub first_place_below : (n : ℕ) (ts : List Text) (i : ℕ) → first_place n ts ≡ Some i → (n ≤ i) × (i < n + length ts)
first_place_below n [] i e = cc
first_place_below n (t ∷ ts) i e = by (first_place_below (n + 1) ts i) (list_any (clashes t) ts) e where
  by : (first_place (n + 1) ts ≡ Some i → (n + 1 ≤ i) × (i < n + 1 + length ts)) → (b : Bool) → cond b (Some n) (first_place (n + 1) ts) ≡ Some i → (n ≤ i) × (i < n + length (t ∷ ts))
  by ih true f = let g : n ≡ i = cc in (omega arith, omega arith)
  by ih false f = let g : (n + 1 ≤ i) × (i < n + 1 + length ts) = ih f in (omega arith, omega arith)

position_some : {X : Type 0} (p : X → Bool) (k : ℕ) (xs : List X) → list_any p xs ≡ true → (j : ℕ) × (position_from p k xs ≡ Some j)
position_some p k [] e = cc
position_some p k (x ∷ xs) e = by (position_some p (k + 1) xs) (p x) e where
  by : (list_any p xs ≡ true → (j : ℕ) × (position_from p (k + 1) xs ≡ Some j)) → (b : Bool) → (b || list_any p xs) ≡ true → (j : ℕ) × (cond b (Some k) (position_from p (k + 1) xs) ≡ Some j)
  by ih true f = (k, refl)
  by ih false f = ih f

position_none : {X : Type 0} (p : X → Bool) (k : ℕ) (xs : List X) → list_any p xs ≡ false → position_from p k xs ≡ None
position_none p k [] e = refl
position_none p k (x ∷ xs) e = by (position_none p (k + 1) xs) (p x) e where
  by : (list_any p xs ≡ false → position_from p (k + 1) xs ≡ None) → (b : Bool) → (b || list_any p xs) ≡ false → cond b (Some k) (position_from p (k + 1) xs) ≡ None
  by ih true f = cc
  by ih false f = ih f

-- a first place, and the second behind it if there is one, as a pair
abbrev pub paired : ℕ → Option ℕ → Option Clash → Option Clash
paired first second rest = option_map_or (λ j. Some (record { first = first; second = j })) second rest

-- where no place clashes with a later one, there is no pair
pub no_pair : (n : ℕ) (ts : List Text) → first_place n ts ≡ None → clash_from n ts ≡ None
no_pair n [] e = refl
no_pair n (t ∷ ts) e = by (no_pair (n + 1) ts) (list_any (clashes t) ts) refl e where
  by : (first_place (n + 1) ts ≡ None → clash_from (n + 1) ts ≡ None) → (b : Bool) → list_any (clashes t) ts ≡ b → cond b (Some n) (first_place (n + 1) ts) ≡ None → clash_from n (t ∷ ts) ≡ None
  by ih true f g = cc
  by ih false f g = ap (λ o. paired n o (clash_from (n + 1) ts)) (position_none (clashes t) (n + 1) ts f) ∙ ih g

-- the first place that does is that of the first pair
pub first_pair : (n : ℕ) (ts : List Text) (k : ℕ) → first_place n ts ≡ Some (n + k) → clash_from n ts ≡ paired (n + k) (position_from (clashes (get_or ts k [])) (n + k + 1) (drop (k + 1) ts)) None
first_pair n [] k e = cc
first_pair n (t ∷ ts) zero e = by (list_any (clashes t) ts) refl e where
  by : (b : Bool) → list_any (clashes t) ts ≡ b → cond b (Some n) (first_place (n + 1) ts) ≡ Some (n + 0) → clash_from n (t ∷ ts) ≡ paired (n + 0) (position_from (clashes t) (n + 0 + 1) ts) None
  by true f g =
      let found : (j : ℕ) × (position_from (clashes t) (n + 1) ts ≡ Some j) = position_some (clashes t) (n + 1) ts f in
      ap (λ o. paired n o (clash_from (n + 1) ts)) found.1 ∙ sym (ap (λ o. paired n o None) found.1)
      ∙ ap (λ (m : ℕ). paired m (position_from (clashes t) (m + 1) ts) None) (sym (add-zero n))
  by false f g = let h : (n + 1 ≤ n + 0) × (n + 0 < n + 1 + length ts) = first_place_below (n + 1) ts (n + 0) g in absurd (omega arith)
first_pair n (t ∷ ts) (suc k) e = by (first_pair (n + 1) ts k) (list_any (clashes t) ts) refl e where
  by : (first_place (n + 1) ts ≡ Some (n + 1 + k) → clash_from (n + 1) ts ≡ paired (n + 1 + k) (position_from (clashes (get_or ts k [])) (n + 1 + k + 1) (drop (k + 1) ts)) None)
      → (b : Bool) → list_any (clashes t) ts ≡ b → cond b (Some n) (first_place (n + 1) ts) ≡ Some (n + suc k)
      → clash_from n (t ∷ ts) ≡ paired (n + suc k) (position_from (clashes (get_or ts k [])) (n + suc k + 1) (drop (suc k + 1) (t ∷ ts))) None
  by ih true f g = let h : n ≡ n + suc k = cc in absurd (omega arith)
  by ih false f g =
      let same : n + suc k ≡ n + 1 + k = omega arith in
      let behind : suc (k + 1) ≡ suc k + 1 = omega arith in
      ap (λ o. paired n o (clash_from (n + 1) ts)) (position_none (clashes t) (n + 1) ts f)
      ∙ ih (g ∙ ap Some same)
      ∙ ap (λ (m : ℕ). paired m (position_from (clashes (get_or ts k [])) (m + 1) (drop (k + 1) ts)) None) (sym same)
      ∙ ap (λ (m : ℕ). paired (n + suc k) (position_from (clashes (get_or ts k [])) (n + suc k + 1) (drop m (t ∷ ts))) None) behind

-- the same with the first place alone
pub first_pair_at : (ts : List Text) (i : ℕ) → first_place 0 ts ≡ Some i → first_clash ts ≡ paired i (position_from (clashes (get_or ts i [])) (i + 1) (drop (i + 1) ts)) None
first_pair_at ts i e = subst (λ (k : ℕ). clash_from 0 ts ≡ paired k (position_from (clashes (get_or ts i [])) (k + 1) (drop (i + 1) ts)) None) (zero-add i) (first_pair 0 ts i (e ∙ ap Some (sym (zero-add i))))

-- Laws of targets that clash, and of those that don't.
use Rattle.std.proofs.Common.{◌≡◌, ◌≢◌, ℕ, zero, suc, ◌+◌, ◌<◌, ◌≤◌, ◌⊎◌, inl, inr, Bool, true, false, cond, ◌||◌, ◌&&◌, eqb, List, [], ◌∷◌, ◌++◌, length, get_or, Option, Some, None, refl, sym, ap, ap₂, ◌∙◌, arith}
use Rattle.std.specs.List.{position_from}
use Rattle.std.specs.Option.{option_map_or}
use Rattle.std.specs.Str.{bytes_eq}
use Rattle.std.proofs.lemmas.Slice.Eq.{bytes_eq-Decides}
use Rattle.std.proofs.lemmas.Bool.{false_from_ne_true}
use Rattle.std.proofs.lemmas.Bool.Decides.{nat_tests}
use Rattle.desk_base.specs.Names.{Text}
use Rattle.desk_base.specs.Paths.{folder, full}
use Rattle.desk_clashes.specs.declared.Clash.{Clash}
use Rattle.desk_clashes.specs.Clashes.{clashes, is_folder, clash_from, first_clash}

-- two targets are different, and neither is a folder of the other
pub record Apart (one other : Text) : Type 0 where
  pub differ : one ≢ other
  pub no_folder : is_folder one other ≡ false
  pub not_within : is_folder other one ≡ false

-- each of these lies apart from a target
abbrev pub ApartFromAll : Text → List Text → Type 0
ApartFromAll target [] = Unit {0}
ApartFromAll target (other ∷ others) = Apart target other × ApartFromAll target others

-- each two of these lie apart
abbrev pub AllApart : List Text → Type 0
AllApart [] = Unit {0}
AllApart (target ∷ targets) = ApartFromAll target targets × AllApart targets

true≢false : true ≡ false → ⊥
true≢false e = cc

-- targets that don't clash lie apart
pub apart_from_test : (one other : Text) → clashes one other ≡ false → Apart one other
apart_from_test one other e = by (bytes_eq one other) (is_folder one other) (is_folder other one) refl refl refl e where
  by : (a b c : Bool) → bytes_eq one other ≡ a → is_folder one other ≡ b → is_folder other one ≡ c → (a || (b || c)) ≡ false → Apart one other
  by false false false f g h e = record {
    differ = λ same. true≢false (sym ((bytes_eq-Decides one other).1 same) ∙ f);
    no_folder = g;
    not_within = h;
  }
  by false false true f g h e = absurd (true≢false e)
  by false true c f g h e = absurd (true≢false e)
  by true b c f g h e = absurd (true≢false e)

pub apart_swap : (one other : Text) → Apart one other → Apart other one
apart_swap one other a = record { differ = λ e. a.differ (sym e); no_folder = a.not_within; not_within = a.no_folder }

none_found : (target : Text) (k : ℕ) (targets : List Text) → position_from (clashes target) k targets ≡ None → ApartFromAll target targets
none_found target k [] e = tt
none_found target k (other ∷ others) e = by (none_found target (k + 1) others) (clashes target other) refl e where
  by : (position_from (clashes target) (k + 1) others ≡ None → ApartFromAll target others) → (b : Bool) → clashes target other ≡ b → cond b (Some k) (position_from (clashes target) (k + 1) others) ≡ None → ApartFromAll target (other ∷ others)
  by ih true f e = cc
  by ih false f e = (apart_from_test target other f, ih e)

apart_from : (n : ℕ) (targets : List Text) → clash_from n targets ≡ None → AllApart targets
apart_from n [] e = tt
apart_from n (t ∷ ts) e = by (apart_from (n + 1) ts) (position_from (clashes t) (n + 1) ts) refl e where
  by : (clash_from (n + 1) ts ≡ None → AllApart ts) → (o : Option ℕ) → position_from (clashes t) (n + 1) ts ≡ o → option_map_or {U = Option Clash} (λ j. Some (record { first = n; second = j })) o (clash_from (n + 1) ts) ≡ None → AllApart (t ∷ ts)
  by ih None f e = (none_found t (n + 1) ts f, ih e)
  by ih (Some j) f e = cc

-- where no pair clashes, each two targets lie apart
pub all_apart : (targets : List Text) → first_clash targets ≡ None → AllApart targets
all_apart targets e = apart_from 0 targets e

-- targets that lie apart don't clash
pub no_clash : (one other : Text) → Apart one other → clashes one other ≡ false
no_clash one other a =
    let different : bytes_eq one other ≡ false = false_from_ne_true (bytes_eq one other) (λ e. a.differ ((bytes_eq-Decides one other).0 e)) in
    ap (λ (b : Bool). b || (is_folder one other || is_folder other one)) different ∙ ap₂ (λ (x y : Bool). x || y) a.no_folder a.not_within

no_position : (t : Text) (k : ℕ) (ts : List Text) → ApartFromAll t ts → position_from (clashes t) k ts ≡ None
no_position t k [] a = refl
no_position t k (u ∷ us) a = ap (λ (b : Bool). cond b (Some k) (position_from (clashes t) (k + 1) us)) (no_clash t u a.0) ∙ no_position t (k + 1) us a.1

none_from : (n : ℕ) (ts : List Text) → AllApart ts → clash_from n ts ≡ None
none_from n [] a = refl
none_from n (t ∷ ts) a =
    ap (λ (o : Option ℕ). option_map_or {U = Option Clash} (λ j. Some (record { first = n; second = j })) o (clash_from (n + 1) ts)) (no_position t (n + 1) ts a.0) ∙ none_from (n + 1) ts a.1

-- where each two targets lie apart, no pair clashes
pub none_clash : (targets : List Text) → AllApart targets → first_clash targets ≡ None
none_clash targets a = none_from 0 targets a

apart_at : (t : Text) (ts : List Text) (j : ℕ) → ApartFromAll t ts → j < length ts → Apart t (get_or ts j [])
apart_at t [] j a h = absurd (omega arith)
apart_at t (u ∷ us) zero a h = a.0
apart_at t (u ∷ us) (suc j) a h = apart_at t us j a.1 (omega arith)

-- so do the targets at two places
pub apart_at_places : (ts : List Text) (i j : ℕ) → AllApart ts → i < j → j < length ts → Apart (get_or ts i []) (get_or ts j [])
apart_at_places [] i j a h l = absurd (omega arith)
apart_at_places (t ∷ ts) i zero a h l = absurd (omega arith)
apart_at_places (t ∷ ts) zero (suc j) a h l = apart_at t ts j a.0 (omega arith)
apart_at_places (t ∷ ts) (suc i) (suc j) a h l = apart_at_places ts i j a.1 (omega arith) (omega arith)

-- in either order
pub apart_places : (ts : List Text) (i j : ℕ) → AllApart ts → i ≢ j → i < length ts → j < length ts → Apart (get_or ts i []) (get_or ts j [])
apart_places ts i j a n h l = by order where
  order : (i < j) ⊎ (j < i)
  order = grind arith

  by : (i < j) ⊎ (j < i) → Apart (get_or ts i []) (get_or ts j [])
  by (inl less) = apart_at_places ts i j a less l
  by (inr more) = apart_swap (get_or ts j []) (get_or ts i []) (apart_at_places ts j i a more h)

found_at : (t : Text) (k : ℕ) (ts : List Text) (j : ℕ) → position_from (clashes t) k ts ≡ Some j → (k ≤ j) × (j < k + length ts)
found_at t k [] j e = cc
found_at t k (u ∷ us) j e = by (found_at t (k + 1) us j) (clashes t u) e where
  by : (position_from (clashes t) (k + 1) us ≡ Some j → (k + 1 ≤ j) × (j < k + 1 + length us)) → (b : Bool) → cond b (Some k) (position_from (clashes t) (k + 1) us) ≡ Some j → (k ≤ j) × (j < k + length (u ∷ us))
  by ih true f = let g : k ≡ j = cc in (omega arith, omega arith)
  by ih false f = let g : (k + 1 ≤ j) × (j < k + 1 + length us) = ih f in (omega arith, omega arith)

-- a pair of places: the first below the second, and the second within the list
pub record Within (n count : ℕ) (clash : Clash) : Type 0 where
  pub from : n ≤ clash.first
  pub ordered : clash.first < clash.second
  pub below : clash.second < n + count

within_from : (n : ℕ) (ts : List Text) (clash : Clash) → clash_from n ts ≡ Some clash → Within n (length ts) clash
within_from n [] clash e = cc
within_from n (t ∷ ts) clash e = by (within_from (n + 1) ts clash) (position_from (clashes t) (n + 1) ts) refl e where
  by : (clash_from (n + 1) ts ≡ Some clash → Within (n + 1) (length ts) clash) → (o : Option ℕ) → position_from (clashes t) (n + 1) ts ≡ o → option_map_or {U = Option Clash} (λ j. Some (record { first = n; second = j })) o (clash_from (n + 1) ts) ≡ Some clash → Within n (length (t ∷ ts)) clash
  by ih None f e = let w : Within (n + 1) (length ts) clash = ih e in record { from = omega arith; ordered = omega arith; below = omega arith }
  by ih (Some j) f e =
      let b : (n + 1 ≤ j) × (j < n + 1 + length ts) = found_at t (n + 1) ts j f in
      let first : n ≡ clash.first = cc in
      let second : j ≡ clash.second = cc in
      record { from = omega arith; ordered = omega arith; below = omega arith }

pub clash_within : (ts : List Text) (clash : Clash) → first_clash ts ≡ Some clash → (clash.first < clash.second) × (clash.second < length ts)
clash_within ts clash e = let w : Within 0 (length ts) clash = within_from 0 ts clash e in (omega arith, omega arith)

cancel_front : (front one other : Text) → front ++ one ≡ front ++ other → one ≡ other
cancel_front [] one other e = e
cancel_front (x ∷ front) one other e = let rest : front ++ one ≡ front ++ other = cc in cancel_front front one other rest

is_folder_behind : (front one other : Text) → is_folder (front ++ one) (front ++ other) ≡ is_folder one other
is_folder_behind [] one other = refl
is_folder_behind (x ∷ front) one other = ap (λ b. b && is_folder (front ++ one) (front ++ other)) (same x) ∙ is_folder_behind front one other where
  same : (x : ℕ) → eqb x x ≡ true
  same x = grind (arith, nat_tests)

-- the full paths of targets that lie apart lie apart too, below any one root
pub apart_below : (root one other : Text) → Apart one other → Apart (full root one) (full root other)
apart_below root one other a = record {
  differ = λ e. a.differ (cancel_front (folder root) one other e);
  no_folder = is_folder_behind (folder root) one other ∙ a.no_folder;
  not_within = is_folder_behind (folder root) other one ∙ a.not_within;
}

-- Lists in two parts, and texts that differ.
use Rattle.std.proofs.Common.{◌≡◌, ℕ, ◌<◌, List, [], ◌∷◌, ◌++◌, length, length-append, refl, sym, ap, ◌∙◌, arith}
use Rattle.std.specs.Prelude.{map, true}
use Rattle.desk_base.specs.Paths.{is_relative_path}
use Rattle.desk_intake.specs.Apart.{Misses, AllApart}
use Rattle.desk_run.specs.Runs.{AllRelative}

-- where a part ends that a longer front covers
pub record Covered {X : Type 0} (before rest a : List X) (x : X) (b : List X) : Type 0 where
  pub between : List X
  pub front : before ≡ a ++ x ∷ between
  pub back : b ≡ between ++ rest

pub head_same : {X : Type 0} (x y : X) (xs ys : List X) → x ∷ xs ≡ y ∷ ys → x ≡ y
head_same x y xs ys e = cc

pub tail_same : {X : Type 0} (x y : X) (xs ys : List X) → x ∷ xs ≡ y ∷ ys → xs ≡ ys
tail_same x y xs ys e = cc

pub covered : {X : Type 0} (before rest a : List X) (x : X) (b : List X) → before ++ rest ≡ a ++ x ∷ b → length a < length before → Covered before rest a x b
covered [] rest a x b e h = absurd (omega arith)
covered (y ∷ before) rest [] x b e h = record {
  between = before;
  front = ap (λ z. z ∷ before) (head_same y x (before ++ rest) b e);
  back = sym (tail_same y x (before ++ rest) b e);
}
covered (y ∷ before) rest (z ∷ a) x b e h =
    let c = covered before rest a x b (tail_same y z (before ++ rest) (a ++ x ∷ b) e) (omega arith) in
    record {
      between = c.between;
      front = ap (λ w. w ∷ before) (head_same y z (before ++ rest) (a ++ x ∷ b) e) ∙ ap (λ l. z ∷ l) c.front;
      back = c.back;
    }

-- two splits at one index
pub same_route : {X : Type 0} (before rest a : List X) (y x : X) (b : List X) → before ++ y ∷ rest ≡ a ++ x ∷ b → length a ≡ length before → (before ≡ a) × (y ≡ x) × (rest ≡ b)
same_route [] rest [] y x b e h = (refl, head_same y x rest b e, tail_same y x rest b e)
same_route [] rest (z ∷ a) y x b e h = absurd (omega arith)
same_route (w ∷ before) rest [] y x b e h = absurd (omega arith)
same_route (w ∷ before) rest (z ∷ a) y x b e h =
    let s = same_route before rest a y x b (tail_same w z (before ++ y ∷ rest) (a ++ x ∷ b) e) (omega arith) in
    (ap (λ v. v ∷ before) (head_same w z (before ++ y ∷ rest) (a ++ x ∷ b) e) ∙ ap (λ l. z ∷ l) s.0, s.1, s.2)

-- a part before an item is shorter than the list
pub shorter_than : {X : Type 0} (items before rest : List X) (item : X) → items ≡ before ++ item ∷ rest → length before < length items
shorter_than items before rest item e = let h = ap length e in let k = length-append before (item ∷ rest) in omega arith

pub misses_front : (t : List ℕ) (xs ys : List (List ℕ)) → Misses t (xs ++ ys) → Misses t xs
misses_front t [] ys h = tt
misses_front t (x ∷ xs) ys h = (h.0, misses_front t xs ys h.1)

pub misses_back : (t : List ℕ) (xs ys : List (List ℕ)) → Misses t (xs ++ ys) → Misses t ys
misses_back t [] ys h = h
misses_back t (x ∷ xs) ys h = misses_back t xs ys h.1

pub apart_before : (xs : List (List ℕ)) (t : List ℕ) (ys : List (List ℕ)) → AllApart (xs ++ t ∷ ys) → Misses t xs
apart_before [] t ys h = tt
apart_before (x ∷ xs) t ys h = ((λ e. (misses_back x xs (t ∷ ys) h.0).0 (sym e)), apart_before xs t ys h.1)

pub apart_behind : (xs : List (List ℕ)) (t : List ℕ) (ys : List (List ℕ)) → AllApart (xs ++ t ∷ ys) → Misses t ys
apart_behind [] t ys h = h.0
apart_behind (x ∷ xs) t ys h = apart_behind xs t ys h.1

-- the parts of a mapped list come from parts of the list
pub record Mapped {X Y : Type 0} (f : X → Y) (xs : List X) (a : List Y) (y : Y) (b : List Y) : Type 0 where
  pub before : List X
  pub at : X
  pub rest : List X
  pub split : xs ≡ before ++ at ∷ rest
  pub front : a ≡ map f before
  pub is : y ≡ f at
  pub back : b ≡ map f rest

pub mapped : {X Y : Type 0} (f : X → Y) (xs : List X) (a : List Y) (y : Y) (b : List Y) → map f xs ≡ a ++ y ∷ b → Mapped f xs a y b
mapped f [] [] y b e = absurd (let h = ap length e in omega arith)
mapped f [] (z ∷ a) y b e = absurd (let h = ap length e in omega arith)
mapped f (x ∷ xs) [] y b e = record {
  before = [];
  at = x;
  rest = xs;
  split = refl;
  front = refl;
  is = sym (head_same (f x) y (map f xs) b e);
  back = sym (tail_same (f x) y (map f xs) b e);
}
mapped f (x ∷ xs) (z ∷ a) y b e =
    let m = mapped f xs a y b (tail_same (f x) z (map f xs) (a ++ y ∷ b) e) in
    record {
      before = x ∷ m.before;
      at = m.at;
      rest = m.rest;
      split = ap (λ l. x ∷ l) m.split;
      front = ap (λ w. w ∷ a) (sym (head_same (f x) z (map f xs) (a ++ y ∷ b) e)) ∙ ap (λ l. f x ∷ l) m.front;
      is = m.is;
      back = m.back;
    }

-- a text of the list is a relative path
pub relative_at : (xs : List (List ℕ)) (t : List ℕ) (ys : List (List ℕ)) → AllRelative (xs ++ t ∷ ys) → is_relative_path t ≡ true
relative_at [] t ys h = h.0
relative_at (x ∷ xs) t ys h = relative_at xs t ys h.1

pub relative_front : (xs ys : List (List ℕ)) → AllRelative (xs ++ ys) → AllRelative xs
relative_front [] ys h = tt
relative_front (x ∷ xs) ys h = (h.0, relative_front xs ys h.1)

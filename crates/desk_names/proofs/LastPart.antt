-- A class name cut at its last `/`.
use Rattle.std.proofs.Common.{◌≡◌, ℕ, zero, suc, ◌-◌, ◌<◌, ◌≤◌, Bool, true, false, ◌==◌, cond, get_or, List, [], ◌∷◌, ◌++◌, length, take, drop, refl, sym, ap, ◌∙◌, arith}
use Rattle.std.specs.List.{list_all, slice_split, onto_first}
use Rattle.std.proofs.lemmas.Bool.{and_parts, not-true, both_ways}
use Rattle.std.proofs.lemmas.List.Splits.{join_with_byte-slice_split}
use Rattle.desk_base.specs.Names.{Text, is_empty, segments, written, is_name, is_whole, front, simple, slash}
use Rattle.desk_base.proofs.Separated.{front-push, simple-push}
use Rattle.desk_names.specs.ClassNames.{package_of, simple_of, class_name}

abbrev parts : Text → List Text
parts t = slice_split (λ b. b == 47) t

parts_whole : (t : Text) → is_whole slash t ≡ true → parts t ≡ t ∷ []
parts_whole [] h = refl
parts_whole (b ∷ t) h =
    let p = and_parts _ _ h in
    ap (λ (c : Bool). cond c ([] ∷ parts t) (onto_first b (parts t))) (not-true _ p.0) ∙ ap (onto_first b) (parts_whole t p.1)

some_first : (b : ℕ) (ps : List Text) → is_empty (onto_first b ps) ≡ false
some_first b [] = refl
some_first b (p ∷ ps) = refl

some_part : (b : ℕ) (t : Text) (c : Bool) → is_empty (cond c ([] ∷ parts t) (onto_first b (parts t))) ≡ false
some_part b t true = refl
some_part b t false = some_first b (parts t)

pub parts_some : (t : Text) → is_empty (parts t) ≡ false
parts_some [] = refl
parts_some (b ∷ t) = some_part b t (b == 47)

onto_behind : (b : ℕ) (ps qs : List Text) → is_empty ps ≡ false → onto_first b (ps ++ qs) ≡ onto_first b ps ++ qs
onto_behind b [] qs h = absurd cc
onto_behind b (p ∷ ps) qs h = refl

parts_by : (b : ℕ) (p s : Text) (c : Bool) → parts (p ++ 47 ∷ s) ≡ parts p ++ (s ∷ []) → cond c ([] ∷ parts (p ++ 47 ∷ s)) (onto_first b (parts (p ++ 47 ∷ s))) ≡ cond c ([] ∷ parts p) (onto_first b (parts p)) ++ (s ∷ [])
parts_by b p s true h = ap (λ (l : List Text). [] ∷ l) h
parts_by b p s false h = ap (onto_first b) h ∙ onto_behind b (parts p) (s ∷ []) (parts_some p)

parts_behind : (p s : Text) → is_whole slash s ≡ true → parts (p ++ 47 ∷ s) ≡ parts p ++ (s ∷ [])
parts_behind [] s h = ap (λ (l : List Text). [] ∷ l) (parts_whole s h)
parts_behind (b ∷ p) s h = parts_by b p s (b == 47) (parts_behind p s h)

segments_behind : (p s : Text) → segments slash (p ++ 47 ∷ s) ≡ parts (p ++ 47 ∷ s)
segments_behind [] s = refl
segments_behind (b ∷ p) s = refl

pub package_whole : (t : Text) → is_whole slash t ≡ true → package_of t ≡ []
unfolding package_of
package_whole [] h = refl
package_whole (b ∷ t) h = ap (λ (l : List Text). written slash (front l)) (parts_whole (b ∷ t) h)

pub simple_whole : (t : Text) → is_whole slash t ≡ true → simple_of t ≡ t
unfolding simple_of
simple_whole [] h = refl
simple_whole (b ∷ t) h = ap simple (parts_whole (b ∷ t) h)

pub package_behind : (p s : Text) → is_whole slash s ≡ true → package_of (p ++ 47 ∷ s) ≡ p
unfolding package_of
package_behind p s h = ap (λ (l : List Text). written slash (front l)) (segments_behind p s ∙ parts_behind p s h) ∙ ap (written slash) (front-push (parts p) s) ∙ join_with_byte-slice_split 47 p

pub simple_behind : (p s : Text) → is_whole slash s ≡ true → simple_of (p ++ 47 ∷ s) ≡ s
unfolding simple_of
simple_behind p s h = ap simple (segments_behind p s ∙ parts_behind p s h) ∙ simple-push (parts p) s

-- a text about a byte
around : (t : Text) (n : ℕ) → n < length t → t ≡ take n t ++ get_or t n 0 ∷ drop (suc n) t
around [] n h = absurd (omega arith)
around (b ∷ t) zero h = refl
around (b ∷ t) (suc n) h = ap (λ (l : Text). b ∷ l) (around t n (omega arith))

cut_is : (t : Text) (at : ℕ) → 0 < at → at ≤ length t → get_or t (at - 1) 0 ≡ 47 → t ≡ take (at - 1) t ++ 47 ∷ drop at t
cut_is t at p h e =
    let less : at - 1 < length t = omega arith in
    let same : suc (at - 1) ≡ at = omega arith in
    around t (at - 1) less ∙ ap (λ (x : ℕ). take (at - 1) t ++ x ∷ drop (suc (at - 1)) t) e ∙ ap (λ (n : ℕ). take (at - 1) t ++ 47 ∷ drop n t) same

pub package_cut : (t : Text) (at : ℕ) → 0 < at → at ≤ length t → get_or t (at - 1) 0 ≡ 47 → is_whole slash (drop at t) ≡ true → take (at - 1) t ≡ package_of t
package_cut t at p h e w = sym (ap package_of (cut_is t at p h e) ∙ package_behind (take (at - 1) t) (drop at t) w)

pub simple_cut : (t : Text) (at : ℕ) → 0 < at → at ≤ length t → get_or t (at - 1) 0 ≡ 47 → is_whole slash (drop at t) ≡ true → drop at t ≡ simple_of t
simple_cut t at p h e w = sym (ap simple_of (cut_is t at p h e) ∙ simple_behind (take (at - 1) t) (drop at t) w)

-- A name whose parts are not empty is its package and its simple name.

joined_on : (part : Text → Bool) → part [] ≡ false → (ps : List Text) → list_all part ps ≡ true → is_empty ps ≡ false → class_name (written slash (front ps)) (simple ps) ≡ written slash ps
joined_on part never [] h k = absurd cc
joined_on part never (x ∷ []) h k = refl
joined_on part never (x ∷ y ∷ []) h k = two x y (and_parts _ _ h).0
  where
    two : (x y : Text) → part x ≡ true → class_name x y ≡ x ++ (47 ∷ y)
    two [] y w = absurd (both_ways (part []) never w)
    two (b ∷ x) y w = refl
joined_on part never (x ∷ y ∷ z ∷ ps) h k = longer x (written slash (front (y ∷ z ∷ ps))) (simple (y ∷ z ∷ ps)) (and_parts _ _ h).0 (some y z ps (and_parts _ _ (and_parts _ _ h).1).0) ∙ ap (λ (l : Text). x ++ (47 ∷ l)) (joined_on part never (y ∷ z ∷ ps) (and_parts _ _ h).1 refl)
  where
    glue : (x m s : Text) → (x ++ (47 ∷ m)) ++ 47 ∷ s ≡ x ++ (47 ∷ (m ++ 47 ∷ s))
    glue [] m s = refl
    glue (b ∷ x) m s = ap (λ (l : Text). b ∷ l) (glue x m s)

    longer : (x m s : Text) → part x ≡ true → is_empty m ≡ false → class_name (x ++ (47 ∷ m)) s ≡ x ++ (47 ∷ class_name m s)
    longer [] m s w v = absurd (both_ways (part []) never w)
    longer (b ∷ x) [] s w v = absurd cc
    longer (b ∷ x) (c ∷ m) s w v = glue (b ∷ x) (c ∷ m) s

    some : (y z : Text) (ps : List Text) → part y ≡ true → is_empty (written slash (front (y ∷ z ∷ ps))) ≡ false
    some [] z ps w = absurd (both_ways (part []) never w)
    some (b ∷ y) z [] w = refl
    some (b ∷ y) z (p ∷ ps) w = refl

pub rejoined : (part : Text → Bool) → part [] ≡ false → (n : Text) → is_name part slash n ≡ true → class_name (package_of n) (simple_of n) ≡ n
unfolding package_of simple_of
rejoined part never [] h = absurd cc
rejoined part never (b ∷ n) h = joined_on part never (parts (b ∷ n)) (and_parts _ _ h).1 (parts_some (b ∷ n)) ∙ join_with_byte-slice_split 47 (b ∷ n)

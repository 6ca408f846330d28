-- The class root of a path stays where the folders behind it are exchanged as a package.
use Rattle.std.proofs.Common.{◌≡◌, ℕ, zero, suc, Bool, true, false, cond, not, ◌&&◌, ◌||◌, ◌==◌, List, [], ◌∷◌, ◌++◌, length, take, drop, codes, refl, sym, ap, ◌∙◌, arith}
use Rattle.std.specs.List.{list_all, ends_with}
use Rattle.std.specs.Str.{bytes_eq}
use Rattle.std.proofs.lemmas.Bool.{and_parts, or_parts, or_from, and_left, and_right, both_ways, false_from_ne_true}
use Rattle.std.proofs.lemmas.Slice.Eq.{bytes_eq-Decides, ends_is}
use Rattle.std.proofs.lemmas.Bool.Decides.{Decides-eqb}
use Rattle.std.proofs.lemmas.List.Folds.{list_all-append}
use Rattle.desk_base.specs.Names.{Text, Package, is_empty, is_identifier, is_identifier_byte}
use Rattle.desk_rules.proofs.DottedBytes.{identifier_bytes}
use Rattle.desk_paths.specs.Paths.{is_archive, has_classes, is_number, ends_root, root_count}

-- the two folders that stand before what follows
abbrev pub last_two : Text → Text → List Text → Text × Text
last_two b a [] = (b, a)
last_two b a (x ∷ xs) = last_two a x xs

count_step : (b a x : Text) (xs : List Text) (n : ℕ) → root_count a x xs ≡ n → root_count b a (x ∷ xs) ≡ (elim n as (λ (k : ℕ). ℕ) [ zero ↦ cond (ends_root b a x) 1 0 | suc m ↦ suc (suc m) ])
count_step b a x xs n e = ap (λ (k : ℕ). elim k as (λ (w : ℕ). ℕ) [ zero ↦ cond (ends_root b a x) 1 0 | suc m ↦ suc (suc m) ]) e

-- no root ends in a list: neither at its head nor behind it
pub record NoEnds (b a x : Text) (xs : List Text) : Type 0 where
  pub here : ends_root b a x ≡ false
  pub behind : root_count a x xs ≡ 0

cond_zero : (t : Bool) → ◌≡◌ {A = ℕ} (cond t 1 0) 0 → t ≡ false
cond_zero true h = absurd (omega arith)
cond_zero false h = refl

pub no_ends : (b a x : Text) (xs : List Text) → root_count b a (x ∷ xs) ≡ 0 → NoEnds b a x xs
no_ends b a x xs h =
    elim (root_count a x xs) as (λ (n : ℕ). root_count a x xs ≡ n → (elim n as (λ (k : ℕ). ℕ) [ zero ↦ cond (ends_root b a x) 1 0 | suc m ↦ suc (suc m) ]) ≡ 0 → NoEnds b a x xs) [
      | zero ↦ λ e g. record { here = cond_zero (ends_root b a x) g; behind = e }
      | suc m ↦ λ e g. absurd (omega arith)
    ] refl h

pub no_ends_from : (b a x : Text) (xs : List Text) → ends_root b a x ≡ false → root_count a x xs ≡ 0 → root_count b a (x ∷ xs) ≡ 0
no_ends_from b a x xs here behind = count_step b a x xs 0 behind ∙ ap (λ (t : Bool). cond t 1 0) here

-- what the root of folders is by itself, and what follows it
pub record RootCut (b a : Text) (xs : List Text) (n : ℕ) : Type 0 where
  pub whole : root_count b a (take n xs) ≡ length (take n xs)
  pub rest : let two = last_two b a (take n xs) in root_count two.0 two.1 (drop n xs) ≡ 0

cut_more : (b a x : Text) (xs : List Text) (n : ℕ) → root_count a x xs ≡ n → RootCut a x xs n → (t : Bool) → ends_root b a x ≡ t → RootCut b a (x ∷ xs) (elim n as (λ (k : ℕ). ℕ) [ zero ↦ cond t 1 0 | suc m ↦ suc (suc m) ])
cut_more b a x xs zero e c true p = record { whole = ap (λ (t : Bool). cond t 1 0) p; rest = e }
cut_more b a x xs zero e c false p = record { whole = refl; rest = no_ends_from b a x xs p e }
cut_more b a x xs (suc m) e c t p = record { whole = whole_more (take (suc m) xs) c.whole (cut_filled m xs e); rest = c.rest }
  where
    cut_filled : (m : ℕ) (xs : List Text) → root_count a x xs ≡ suc m → not (is_empty (take (suc m) xs)) ≡ true
    cut_filled m [] e = absurd (omega arith)
    cut_filled m (y ∷ ys) e = refl

    whole_more : (ys : List Text) → root_count a x ys ≡ length ys → not (is_empty ys) ≡ true → root_count b a (x ∷ ys) ≡ suc (length ys)
    whole_more [] h filled = absurd cc
    whole_more (y ∷ ys) h filled = count_step b a x (y ∷ ys) (suc (length ys)) h

pub root_cut : (b a : Text) (xs : List Text) → RootCut b a xs (root_count b a xs)
root_cut b a [] = record { whole = refl; rest = refl }
root_cut b a (x ∷ xs) = cut_more b a x xs (root_count a x xs) refl (root_cut a x xs) (ends_root b a x) refl

-- behind a root another list without root ends
pub root_kept : (b a : Text) (xs ys : List Text) → root_count b a xs ≡ length xs → (let two = last_two b a xs in root_count two.0 two.1 ys ≡ 0) → root_count b a (xs ++ ys) ≡ length xs
root_kept b a [] ys whole rest = rest
root_kept b a (x ∷ xs) ys whole rest =
    elim (root_count a x xs) as (λ (n : ℕ). root_count a x xs ≡ n → (elim n as (λ (k : ℕ). ℕ) [ zero ↦ cond (ends_root b a x) 1 0 | suc m ↦ suc (suc m) ]) ≡ suc (length xs) → root_count b a ((x ∷ xs) ++ ys) ≡ suc (length xs)) [
      | zero ↦ λ e g. at_last xs e (ends_root b a x) refl g rest
      | suc m ↦ λ e g.
          let all : root_count a x xs ≡ length xs = e ∙ (omega arith) in
          let later : root_count a x (xs ++ ys) ≡ length xs = root_kept a x xs ys all rest in
          let some : length xs ≡ suc m = omega arith in
          count_step b a x (xs ++ ys) (suc m) (later ∙ some) ∙ ap suc (sym some)
    ] refl whole
  where
    at_last : (xs : List Text) → root_count a x xs ≡ 0 → (t : Bool) → ends_root b a x ≡ t → cond t 1 0 ≡ suc (length xs) → (let two = last_two a x xs in root_count two.0 two.1 ys ≡ 0) → root_count b a ((x ∷ xs) ++ ys) ≡ suc (length xs)
    at_last [] e true p g rest = count_step b a x ys 0 rest ∙ ap (λ (t : Bool). cond t 1 0) p
    at_last [] e false p g rest = absurd (omega arith)
    at_last (z ∷ zs) e true p g rest = absurd (omega arith)
    at_last (z ∷ zs) e false p g rest = absurd (omega arith)

-- an identifier is neither an archive nor a number, and has no dash
dotless : (c : ℕ) (t : Text) → is_identifier_byte c ≡ false → list_all is_identifier_byte t ≡ true → (front tail : Text) → t ≡ front ++ c ∷ tail → ⊥
dotless c t strange all front tail e =
    let both = and_parts (list_all is_identifier_byte front) (list_all is_identifier_byte (c ∷ tail)) (sym (list_all-append is_identifier_byte front (c ∷ tail)) ∙ ap (list_all is_identifier_byte) (sym e) ∙ all) in
    both_ways (is_identifier_byte c) strange (and_parts (is_identifier_byte c) (list_all is_identifier_byte tail) both.1).0

no_suffix : (t : Text) (c : ℕ) (tail : Text) → is_identifier_byte c ≡ false → is_identifier t ≡ true → ends_with ◌==◌ t (c ∷ tail) ≡ false
no_suffix t c tail strange h = false_from_ne_true (ends_with ◌==◌ t (c ∷ tail)) (λ (yes_it : ends_with ◌==◌ t (c ∷ tail) ≡ true).
    let split = (ends_is Decides-eqb t (c ∷ tail) (ends_with ◌==◌ t (c ∷ tail)) refl).0 yes_it in
    dotless c t strange (identifier_bytes t h) _ tail split)

pub no_archive : (t : Text) → is_identifier t ≡ true → is_archive t ≡ false
no_archive t h =
    or_from (ends_with ◌==◌ t (codes ".jar") || ends_with ◌==◌ t (codes ".war") || ends_with ◌==◌ t (codes ".ear")) (ends_with ◌==◌ t (codes ".rar"))
    (or_from (ends_with ◌==◌ t (codes ".jar") || ends_with ◌==◌ t (codes ".war")) (ends_with ◌==◌ t (codes ".ear"))
    (or_from (ends_with ◌==◌ t (codes ".jar")) (ends_with ◌==◌ t (codes ".war")) (no_suffix t 46 (codes "jar") refl h) (no_suffix t 46 (codes "war") refl h))
    (no_suffix t 46 (codes "ear") refl h))
    (no_suffix t 46 (codes "rar") refl h)

-- a text that is no identifier is none
other_than : (t u : Text) → is_identifier u ≡ false → is_identifier t ≡ true → bytes_eq t u ≡ false
other_than t u odd h = false_from_ne_true (bytes_eq t u) (λ (e : bytes_eq t u ≡ true).
    both_ways (is_identifier u) odd (ap is_identifier (sym ((bytes_eq-Decides t u).0 e)) ∙ h))

pub no_classes_there : (t : Text) → is_identifier t ≡ true → has_classes t ≡ false
no_classes_there t h =
    or_from (bytes_eq t (codes "WEB-INF") || bytes_eq t (codes "BOOT-INF")) (bytes_eq t (codes "APP-INF"))
    (or_from (bytes_eq t (codes "WEB-INF")) (bytes_eq t (codes "BOOT-INF")) (other_than t (codes "WEB-INF") refl h) (other_than t (codes "BOOT-INF") refl h)) (other_than t (codes "APP-INF") refl h)

pub no_meta : (t : Text) → is_identifier t ≡ true → bytes_eq t (codes "META-INF") ≡ false
no_meta t h = other_than t (codes "META-INF") refl h

-- a folder behind which an identifier begins no root
pub record Calm (earlier before : Text) : Type 0 where
  pub numbers : (bytes_eq before (codes "versions") && bytes_eq earlier (codes "META-INF")) ≡ false
  pub classes : has_classes before ≡ false
  pub before_meta : bytes_eq before (codes "META-INF") ≡ false

and_three : (x y z : Bool) → (y && z) ≡ false → (x && y && z) ≡ false
and_three true y z h = h
and_three false y z h = refl

calm_ends : (b a x : Text) → Calm b a → is_archive x ≡ false → ends_root b a x ≡ false
calm_ends b a x calm plain = or_from _ _ (or_from _ _ plain (and_right _ _ calm.classes)) (and_three (is_number x) (bytes_eq a (codes "versions")) (bytes_eq b (codes "META-INF")) calm.numbers)

calm_after : (b a x : Text) → bytes_eq a (codes "META-INF") ≡ false → is_identifier x ≡ true → Calm a x
calm_after b a x meta h = record { numbers = and_right (bytes_eq x (codes "versions")) (bytes_eq a (codes "META-INF")) meta; classes = no_classes_there x h; before_meta = no_meta x h }

-- identifiers in a calm place hold no root end, and leave a calm place
pub identifiers_calm : (b a : Text) → Calm b a → (xs : Package) → list_all is_identifier xs ≡ true → let two = last_two b a xs in Calm two.0 two.1
identifiers_calm b a calm [] h = calm
identifiers_calm b a calm (x ∷ xs) h = identifiers_calm a x (calm_after b a x calm.before_meta (and_parts _ _ h).0) xs (and_parts _ _ h).1

pub before_identifiers : (b a : Text) → Calm b a → (xs : Package) → list_all is_identifier xs ≡ true → (ys : Package) → (let two = last_two b a xs in root_count two.0 two.1 ys ≡ 0) → root_count b a (xs ++ ys) ≡ 0
before_identifiers b a calm [] h ys rest = rest
before_identifiers b a calm (x ∷ xs) h ys rest =
    no_ends_from b a x (xs ++ ys) (calm_ends b a x calm (no_archive x (and_parts _ _ h).0))
    (before_identifiers a x (calm_after b a x calm.before_meta (and_parts _ _ h).0) xs (and_parts _ _ h).1 ys rest)

-- what follows a list without root ends has none either
pub ends_behind : (b a : Text) (xs ys : Package) → root_count b a (xs ++ ys) ≡ 0 → let two = last_two b a xs in root_count two.0 two.1 ys ≡ 0
ends_behind b a [] ys h = h
ends_behind b a (x ∷ xs) ys h = ends_behind a x xs ys (no_ends b a x (xs ++ ys) h).behind

end_parts : (b a x : Text) → ends_root b a x ≡ false → (is_archive x ≡ false) × ((bytes_eq x (codes "classes") && has_classes a) ≡ false)
end_parts b a x h =
    let left = (or_parts (is_archive x || (bytes_eq x (codes "classes") && has_classes a)) (is_number x && bytes_eq a (codes "versions") && bytes_eq b (codes "META-INF")) h).0 in
    let both = or_parts (is_archive x) (bytes_eq x (codes "classes") && has_classes a) left in
    (both.0, both.1)

-- so it is behind another calm place
pub calm_moved : (b a d c : Text) → Calm d c → (ys : Package) → root_count b a ys ≡ 0 → root_count d c ys ≡ 0
calm_moved b a d c calm [] h = refl
calm_moved b a d c calm (x ∷ []) h =
    let first = no_ends b a x [] h in
    no_ends_from d c x [] (calm_ends d c x calm (end_parts b a x first.here).0) refl
calm_moved b a d c calm (x ∷ y ∷ ys) h =
    let first = no_ends b a x (y ∷ ys) h in
    let second = no_ends a x y ys first.behind in
    let parts = end_parts a x y second.here in
    no_ends_from d c x (y ∷ ys) (calm_ends d c x calm (end_parts b a x first.here).0)
    (no_ends_from c x y ys (or_from _ _ (or_from _ _ parts.0 parts.1) (and_right _ _ calm.before_meta)) second.behind)

-- behind a root all is calm
root_end_calm : (b a x : Text) (u : Text) → is_archive u ≡ false → bytes_eq u (codes "classes") ≡ false → is_number u ≡ false → ends_root b a x ≡ true → bytes_eq x u ≡ false
root_end_calm b a x u archive classes number h = false_from_ne_true (bytes_eq x u) (λ (e : bytes_eq x u ≡ true).
    let same_one : x ≡ u = (bytes_eq-Decides x u).0 e in
    let off : ends_root b a u ≡ false = or_from _ _ (or_from _ _ archive (and_left _ _ classes)) (and_left _ _ (and_left _ _ number)) in
    both_ways (ends_root b a u) off (ap (ends_root b a) (sym same_one) ∙ h))

after_root : (b a x : Text) → ends_root b a x ≡ true → Calm a x
after_root b a x h = record {
  numbers = and_left (bytes_eq x (codes "versions")) (bytes_eq a (codes "META-INF")) (root_end_calm b a x (codes "versions") refl refl refl h);
  classes = or_from (bytes_eq x (codes "WEB-INF") || bytes_eq x (codes "BOOT-INF")) (bytes_eq x (codes "APP-INF"))
      (or_from (bytes_eq x (codes "WEB-INF")) (bytes_eq x (codes "BOOT-INF")) (root_end_calm b a x (codes "WEB-INF") refl refl refl h) (root_end_calm b a x (codes "BOOT-INF") refl refl refl h))
      (root_end_calm b a x (codes "APP-INF") refl refl refl h);
  before_meta = root_end_calm b a x (codes "META-INF") refl refl refl h;
}

cond_one : (t : Bool) → ◌≡◌ {A = ℕ} (cond t 1 0) 1 → t ≡ true
cond_one true h = refl
cond_one false h = absurd (omega arith)

root_calm_some : (b a x : Text) (xs : List Text) → root_count b a (x ∷ xs) ≡ suc (length xs) → let two = last_two b a (x ∷ xs) in Calm two.0 two.1
root_calm_some b a x [] h = after_root b a x (cond_one (ends_root b a x) h)
root_calm_some b a x (y ∷ ys) h =
    elim (root_count a x (y ∷ ys)) as (λ (n : ℕ). root_count a x (y ∷ ys) ≡ n → (elim n as (λ (k : ℕ). ℕ) [ zero ↦ cond (ends_root b a x) 1 0 | suc m ↦ suc (suc m) ]) ≡ suc (suc (length ys)) → let two = last_two a x (y ∷ ys) in Calm two.0 two.1) [
      | zero ↦ λ e g. absurd (too_many (ends_root b a x) (length ys) g)
      | suc m ↦ λ e g. let more : m ≡ length ys = omega arith in root_calm_some a x y ys (e ∙ ap suc more)
    ] refl h
  where
    too_many : (t : Bool) (n : ℕ) → ◌≡◌ {A = ℕ} (cond t 1 0) (suc (suc n)) → ⊥
    too_many true n h = omega arith
    too_many false n h = omega arith

-- behind a whole root all is calm
pub root_calm : (xs : List Text) → root_count [] [] xs ≡ length xs → let two = last_two [] [] xs in Calm two.0 two.1
root_calm [] h = record { numbers = refl; classes = refl; before_meta = refl }
root_calm (x ∷ xs) h = root_calm_some [] [] x xs h

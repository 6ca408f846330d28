-- Texts that stand one behind the other in one block.
use Rattle.std.proofs.Common.{◌≡◌, ℕ, zero, suc, ◌+◌, ◌-◌, ◌<◌, ◌≤◌, List, [], ◌∷◌, ◌++◌, length, take, drop, get_or, refl, sym, ap, ap₂, subst, ◌∙◌, append_assoc, map, arith, add-one}
use Rattle.std.proofs.Math.Seq.{drop-append_seam, take-length, drop-cons}
use Rattle.std.proofs.lemmas.List.{take-append-le, drop-append-le, length-append, length-drop, get_or_default}
use Rattle.desk_base.specs.Names.{Text}
use Rattle.desk_class.specs.Packed.{cut_at, AreEnds}

-- no end passes the last
pub ends_below : (from : ℕ) (ends : List ℕ) (count : ℕ) → AreEnds from ends count → from ≤ count
ends_below from [] count e = omega (arith, e)
ends_below from (end ∷ ends) count e = let h : end ≤ count = ends_below end ends count e.1 in omega (arith, e.0, h)

pub ends_push : (from : ℕ) (ends : List ℕ) (n m : ℕ) → AreEnds from ends n → n ≤ m → AreEnds from (ends ++ m ∷ []) m
ends_push from [] n m e h = (omega (arith, e, h), refl)
ends_push from (end ∷ ends) n m e h = (e.0, ends_push end ends n m e.1 h)

-- a text inside a front
inside : (bytes more : Text) (from end : ℕ) → from ≤ end → end ≤ length bytes → take (end - from) (drop from (bytes ++ more)) ≡ take (end - from) (drop from bytes)
inside bytes more from end h k =
    ap (take (end - from)) (drop-append-le from bytes more (omega (arith, h, k)))
    ∙ take-append-le (end - from) (drop from bytes) more (omega (arith, length-drop from bytes, h, k))

last : (bytes more : Text) → take (length (bytes ++ more) - length bytes) (drop (length bytes) (bytes ++ more)) ≡ more
last bytes more =
    let n : length (bytes ++ more) - length bytes ≡ length more = omega (arith, length-append bytes more) in
    ap₂ (λ (k : ℕ) (t : Text). take k t) n (drop-append_seam bytes more) ∙ take-length more

-- one more text behind the last
pub cut_push : (bytes more : Text) (from : ℕ) (ends : List ℕ) → AreEnds from ends (length bytes) → cut_at (bytes ++ more) from (ends ++ length (bytes ++ more) ∷ []) ≡ cut_at bytes from ends ++ more ∷ []
cut_push bytes more from [] e =
    ap (λ (n : ℕ). take (length (bytes ++ more) - n) (drop n (bytes ++ more)) ∷ []) e ∙ ap (λ (t : Text). t ∷ []) (last bytes more)
cut_push bytes more from (end ∷ ends) e =
    ap₂ (λ (t : Text) (ts : List Text). t ∷ ts) (inside bytes more from end e.0 (ends_below end ends (length bytes) e.1)) (cut_push bytes more end ends e.1)

pub cut_long : (bytes : Text) (from : ℕ) (ends : List ℕ) → length (cut_at bytes from ends) ≡ length ends
cut_long bytes from [] = refl
cut_long bytes from (end ∷ ends) = ap suc (cut_long bytes end ends)

-- the text at a place
pub cut_index : (bytes : Text) (from : ℕ) (ends : List ℕ) (i : ℕ) (d : Text) → i < length ends → get_or (cut_at bytes from ends) i d ≡ take (get_or ends i 0 - get_or (from ∷ ends) i 0) (drop (get_or (from ∷ ends) i 0) bytes)
cut_index bytes from [] i d h = absurd (omega arith)
cut_index bytes from (end ∷ ends) zero d h = refl
cut_index bytes from (end ∷ ends) (suc i) d h = cut_index bytes end ends i d (omega arith)

-- it lies inside the block
pub cut_bounds : (from : ℕ) (ends : List ℕ) (count i : ℕ) → AreEnds from ends count → i < length ends → (get_or (from ∷ ends) i 0 ≤ get_or ends i 0) × (get_or ends i 0 ≤ count)
cut_bounds from [] count i e h = absurd (omega arith)
cut_bounds from (end ∷ ends) count zero e h = (e.0, ends_below end ends count e.1)
cut_bounds from (end ∷ ends) count (suc i) e h = cut_bounds end ends count i e.1 (omega arith)

-- where the first text begins, and where each later one does
pub first_start : (ends : List ℕ) (place start : ℕ) → place ≡ 0 → start ≡ 0 → start ≡ get_or (0 ∷ ends) place 0
first_start ends place start first none = none ∙ ap (λ (k : ℕ). get_or (0 ∷ ends) k 0) (sym first)

pub next_start : (ends : List ℕ) (place start d : ℕ) → (place ≡ 0 → ⊥) → place < length ends → start ≡ get_or ends (place - 1) d → start ≡ get_or (0 ∷ ends) place 0
next_start ends zero start d later h e = absurd (later refl)
next_start ends (suc k) start d later h e =
    let before : suc k - 1 ≡ k = omega arith in
    e ∙ ap (λ (n : ℕ). get_or ends n d) before ∙ get_or_default ends k d 0 (omega arith)

-- a text that lies between two offsets
pub record Cut (bytes : Text) (ends : List ℕ) (place start end : ℕ) : Type 0 where
  pub order : start ≤ end
  pub within : end ≤ length bytes
  pub text : take (end - start) (drop start bytes) ≡ get_or (cut_at bytes 0 ends) place []

pub cut : (bytes : Text) (ends : List ℕ) (place start end : ℕ) → AreEnds 0 ends (length bytes) → place < length ends → start ≡ get_or (0 ∷ ends) place 0 → end ≡ get_or ends place 0 → Cut bytes ends place start end
cut bytes ends place start end e h from to =
    let b = cut_bounds 0 ends (length bytes) place e h in
    record {
      order = omega (arith, from, to, b.0);
      within = omega (arith, to, b.1);
      text = ap₂ (λ (x y : ℕ). take (x - y) (drop y bytes)) to from ∙ sym (cut_index bytes 0 ends place [] h);
    }

-- ---- names that are packed one after the other

-- what is packed, and what is to come
pub record Packing (names : List Text) (i : ℕ) (bytes : Text) (ends : List ℕ) : Type 0 where
  pub bounds : AreEnds 0 ends (length bytes)
  pub texts : cut_at bytes 0 ends ++ drop i names ≡ names

-- one more name
packed_more : (names : List Text) (i : ℕ) (item bytes bytes' : Text) (ends ends' : List ℕ) → i < length names → item ≡ get_or names i item → bytes' ≡ bytes ++ item → ends' ≡ ends ++ length bytes' ∷ [] → Packing names i bytes ends
    → Packing names (i + 1) bytes' ends'
packed_more names i item bytes bytes' ends ends' h at b e p =
    let cut : drop i names ≡ item ∷ drop (i + 1) names = drop-cons names i item h ∙ ap (λ (t : Text). t ∷ drop (suc i) names) (sym at) ∙ ap (λ (n : ℕ). item ∷ drop n names) (sym (add-one i)) in
    let longer : length bytes ≤ length bytes' = omega (arith, ap length b, length-append bytes item) in
    record {
      bounds = subst (λ (es : List ℕ). AreEnds 0 es (length bytes')) (sym e) (ends_push 0 ends (length bytes) (length bytes') p.bounds longer);
      texts = ap₂ (λ (t : Text) (es : List ℕ). cut_at t 0 es ++ drop (i + 1) names) b (e ∙ ap (λ (t : Text). ends ++ length t ∷ []) b)
          ∙ ap (λ (ts : List Text). ts ++ drop (i + 1) names) (cut_push bytes item 0 ends p.bounds)
          ∙ append_assoc (cut_at bytes 0 ends) (item ∷ []) (drop (i + 1) names)
          ∙ ap (λ (ts : List Text). cut_at bytes 0 ends ++ ts) (sym cut)
          ∙ p.texts;
    }

pub get_map : {A : Type 0} (f : A → Text) (xs : List A) (i : ℕ) (d : A) (y : Text) → i < length xs → f (get_or xs i d) ≡ get_or (map f xs) i y
get_map f [] i d y h = absurd (omega arith)
get_map f (x ∷ xs) zero d y h = refl
get_map f (x ∷ xs) (suc i) d y h = get_map f xs i d y (omega arith)

pub length_map : {A : Type 0} (f : A → Text) (xs : List A) → length (map f xs) ≡ length xs
length_map f [] = refl
length_map f (x ∷ xs) = ap suc (length_map f xs)

-- one more name, of those that are written out
pub spelled_more : {A : Type 0} (f : A → Text) (xs : List A) (i : ℕ) (d : A) (bytes bytes' : Text) (ends ends' : List ℕ) → i < length xs → bytes' ≡ bytes ++ f (get_or xs i d) → ends' ≡ ends ++ length bytes' ∷ [] → Packing (map f xs) i bytes ends
    → Packing (map f xs) (i + 1) bytes' ends'
spelled_more f xs i d bytes bytes' ends ends' h b e p =
    packed_more (map f xs) i (f (get_or xs i d)) bytes bytes' ends ends' (omega (arith, length_map f xs)) (get_map f xs i d (f (get_or xs i d)) h) b e p

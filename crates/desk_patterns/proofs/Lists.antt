-- Lists, and what is seen of their items.
use Rattle.std.proofs.Common.{◌≡◌, ◌<◌, ℕ, zero, suc, List, [], ◌∷◌, ◌++◌, map, length, drop, get_or, refl, sym, ap, arith}

pub length_more : {A : Type 0} (xs : List A) (y : A) → length (xs ++ y ∷ []) ≡ suc (length xs)
length_more [] y = refl
length_more (x ∷ xs) y = ap (λ (n : ℕ). suc n) (length_more xs y)

pub map_length : {A B : Type 0} (f : A → B) (items : List A) → length (map f items) ≡ length items
map_length f [] = refl
map_length f (x ∷ items) = ap (λ (n : ℕ). suc n) (map_length f items)

-- what is seen of an item at a place
pub seen_there : {A B : Type 0} (f : A → B) (items : List A) (n : ℕ) (x : A) (d : B) → n < length items → x ≡ get_or items n x → get_or (map f items) n d ≡ f x
seen_there f [] n x d h e = absurd (omega arith)
seen_there f (y ∷ items) zero x d h e = ap f (sym e)
seen_there f (y ∷ items) (suc n) x d h e = seen_there f items n x d (omega arith) e

pub index_kept : (xs : List ℕ) (y n : ℕ) → n < length xs → get_or (xs ++ y ∷ []) n 0 ≡ get_or xs n 0
index_kept [] y n h = absurd (omega arith)
index_kept (x ∷ xs) y zero h = refl
index_kept (x ∷ xs) y (suc n) h = index_kept xs y n (omega arith)

pub index_added : (xs : List ℕ) (y : ℕ) → get_or (xs ++ y ∷ []) (length xs) 0 ≡ y
index_added [] y = refl
index_added (x ∷ xs) y = index_added xs y

pub item_there : {A B : Type 0} (f : A → B) (items : List A) (n : ℕ) (x : A) → n < length items → x ≡ get_or items n x → drop n (map f items) ≡ f x ∷ drop (suc n) (map f items)
item_there f [] n x h e = absurd (omega arith)
item_there f (y ∷ items) zero x h e = ap (λ z. f z ∷ map f items) (sym e)
item_there f (y ∷ items) (suc n) x h e = item_there f items n x (omega arith) e

-- Code arrays of a body, and of the same body with its indices exchanged, behind another pool.
use Rattle.std.proofs.Common.{◌≡◌, ℕ, ◌+◌, ◌≤◌, List, [], ◌∷◌, ◌++◌, length, map, take, drop, refl, sym, ap, ◌∙◌, append_assoc, arith, drop-drop}
use Rattle.std.specs.List.{AllZip}
use Rattle.std.proofs.lemmas.List.{take_at, drop_at}
use Rattle.desk_format.specs.Trees.{Tree, Use, print}
use Rattle.desk_format.specs.Exchange.{Change, moved, exchange}
use Rattle.desk_format.proofs.Follows.{length-print}
use Rattle.desk_code.specs.Codes.{CodeArray, code_arrays}

-- ---- lists place by place

pub zip_append : {A B : Type 0} (R : A → B → Type 0) (as' cs : List A) (bs ds : List B) → AllZip R as' bs → AllZip R cs ds → AllZip R (as' ++ cs) (bs ++ ds)
zip_append R [] cs [] ds h k = k
zip_append R [] cs (b ∷ bs) ds h k = absurd h
zip_append R (a ∷ as') cs [] ds h k = absurd h
zip_append R (a ∷ as') cs (b ∷ bs) ds h k = (h.0, zip_append R as' cs bs ds h.1 k)

pub zip_map : {A B C D : Type 0} (R : A → B → Type 0) (S : C → D → Type 0) (f : A → C) (g : B → D) → ((a : A) (b : B) → R a b → S (f a) (g b)) → (as' : List A) (bs : List B) → AllZip R as' bs → AllZip S (map f as') (map g bs)
zip_map R S f g each [] [] h = tt
zip_map R S f g each [] (b ∷ bs) h = absurd h
zip_map R S f g each (a ∷ as') [] h = absurd h
zip_map R S f g each (a ∷ as') (b ∷ bs) h = (each a b h.0, zip_map R S f g each as' bs h.1)

pub zip_each : {A B : Type 0} (R S : A → B → Type 0) → ((a : A) (b : B) → R a b → S a b) → (as' : List A) (bs : List B) → AllZip R as' bs → AllZip S as' bs
zip_each R S each [] [] h = tt
zip_each R S each [] (b ∷ bs) h = absurd h
zip_each R S each (a ∷ as') [] h = absurd h
zip_each R S each (a ∷ as') (b ∷ bs) h = (each a b h.0, zip_each R S each as' bs h.1)

-- ---- bytes at their place

-- these bytes stand at a place of others
pub record Stands (s : List ℕ) (at : ℕ) (x : List ℕ) : Type 0 where
  pub rest : List ℕ
  pub is : drop at s ≡ x ++ rest

pub stands_first : (s : List ℕ) (at : ℕ) (x y : List ℕ) → Stands s at (x ++ y) → Stands s at x
stands_first s at x y h = record { rest = y ++ h.rest; is = h.is ∙ append_assoc x y h.rest }

pub stands_second : (s : List ℕ) (at : ℕ) (x y : List ℕ) → Stands s at (x ++ y) → Stands s (at + length x) y
stands_second s at x y h = record {
  rest = h.rest;
  is = sym (drop-drop (length x) at s) ∙ ap (drop (length x)) (h.is ∙ append_assoc x y h.rest) ∙ drop_at x (y ++ h.rest) (length x) refl;
}

stands_all : (s : List ℕ) (at : ℕ) (x : List ℕ) → Stands s at x → take (length x) (drop at s) ≡ x
stands_all s at x h = ap (take (length x)) h.is ∙ take_at x h.rest (length x) refl

-- ---- arrays

module _ (old new : List ℕ) (g : Change) where
  -- an array of the old bytes, and one of the new, with the same bytes
  pub record SameArray (a b : CodeArray) : Type 0 where
    pub at : b.at ≡ moved g a.at
    pub size : length b.code ≡ length a.code
    pub code : take (length b.code) (drop b.at new) ≡ take (length a.code) (drop a.at old)

  pub same_arrays : (t : Tree Use) (at to : ℕ) → g.from ≤ at → to ≡ moved g at → Stands old at (print t) → Stands new to (print (exchange g t)) → AllZip SameArray (code_arrays at t) (code_arrays to (exchange g t))
  same_arrays Tree.nothing at to low is h k = tt
  same_arrays (Tree.number bytes) at to low is h k = tt
  same_arrays (Tree.raw bytes) at to low is h k = tt
  same_arrays (Tree.code bytes) at to low is h k = (record { at = is; size = refl; code = stands_all new to bytes k ∙ sym (stands_all old at bytes h) }, tt)
  same_arrays (Tree.used u) at to low is h k = tt
  same_arrays (Tree.member a) at to low is h k = same_arrays a at to low is h k
  same_arrays (Tree.both a b) at to low is h k =
      let size : length (print (exchange g a)) ≡ length (print a) = length-print g a in
      zip_append SameArray (code_arrays at a) (code_arrays (at + length (print a)) b) (code_arrays to (exchange g a)) (code_arrays (to + length (print (exchange g a))) (exchange g b))
      (same_arrays a at to low is (stands_first old at (print a) (print b) h) (stands_first new to (print (exchange g a)) (print (exchange g b)) k))
      (same_arrays b (at + length (print a)) (to + length (print (exchange g a))) (omega arith) (omega arith)
      (stands_second old at (print a) (print b) h) (stands_second new to (print (exchange g a)) (print (exchange g b)) k))

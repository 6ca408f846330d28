-- Laws of what is gathered and what is written.
use Rattle.std.proofs.Common.{◌≡◌, ℕ, List, [], ◌∷◌, ◌++◌, Some, None, Option, refl, sym, ap, ◌∙◌, append_assoc, append-nil, take, drop, suc, length, ◌<◌, get_or, subst}
use Rattle.std.specs.List.{flat_map}
use Rattle.std.proofs.lemmas.List.{take-append-drop}
use Rattle.std.proofs.lemmas.Grind.{flat_map-append}
use Rattle.std.proofs.Math.Seq.{drop-cons}
use Rattle.desk_base.specs.Names.{Text}
use Rattle.desk_report.specs.Written.{writing, WritesFront}
use Rattle.desk_report.specs.Pieces.{Gathers}

-- one write after another
pub writing-twice : (a b : Text) (told : Option Text) → writing b (writing a told) ≡ writing (a ++ b) told
writing-twice a b None = refl
writing-twice a b (Some t) = ap Some (append_assoc t a b)

joins : (w a b f v : Text) → w ++ a ≡ f ++ v → w ++ (a ++ b) ≡ f ++ (v ++ b)
joins w a b f v e = sym (append_assoc w a b) ∙ ap (λ x. x ++ b) e ∙ append_assoc f v b

-- more is gathered
pub Gathers-more : (a b w v u : Text) (o p q : Option Text) → Gathers a w v o p → Gathers b v u p q → Gathers (a ++ b) w u o q
Gathers-more a b w v u o p q g h = record {
  front = g.front ++ h.front;
  all = joins w a b g.front v g.all ∙ ap (λ x. g.front ++ x) h.all ∙ sym (append_assoc g.front h.front u);
  is = h.is ∙ ap (writing h.front) g.is ∙ writing-twice g.front h.front o;
}

-- a write behind what was gathered failed
pub WritesFront-more : (a b w v : Text) (o p q : Option Text) → Gathers a w v o p → WritesFront (v ++ b) p q → WritesFront (w ++ (a ++ b)) o q
WritesFront-more a b w v o p q g h = record {
  front = g.front ++ h.front;
  rest = h.rest;
  all = joins w a b g.front v g.all ∙ ap (λ x. g.front ++ x) h.all ∙ sym (append_assoc g.front h.front h.rest);
  is = h.is ∙ ap (writing h.front) g.is ∙ writing-twice g.front h.front o;
}

-- a front of a text is a front of a longer one
pub WritesFront-longer : (x y : Text) (o p : Option Text) → WritesFront x o p → WritesFront (x ++ y) o p
WritesFront-longer x y o p h = record {
  front = h.front;
  rest = h.rest ++ y;
  all = ap (λ t. t ++ y) h.all ∙ append_assoc h.front h.rest y;
  is = h.is;
}

pub Gathers-grows : (whole a b w v u : Text) (o p q : Option Text) → whole ≡ a ++ b → Gathers a w v o p → Gathers b v u p q → Gathers whole w u o q
Gathers-grows whole a b w v u o p q e g h = subst (λ t. Gathers t w u o q) (sym e) (Gathers-more a b w v u o p q g h)

pub WritesFront-stops : (whole a b rest w v : Text) (o p q : Option Text) → whole ≡ a ++ (b ++ rest) → Gathers a w v o p → WritesFront (v ++ b) p q → WritesFront (w ++ whole) o q
WritesFront-stops whole a b rest w v o p q e g h =
    let longer = WritesFront-longer (w ++ (a ++ b)) rest o q (WritesFront-more a b w v o p q g h) in
    let same : (w ++ (a ++ b)) ++ rest ≡ w ++ whole = append_assoc w (a ++ b) rest ∙ ap (λ t. w ++ t) (append_assoc a b rest ∙ sym e) in
    subst (λ t. WritesFront t o q) same longer

-- a list up to one item, it, and those behind it
pub split_at : {X : Type 0} (xs : List X) (i : ℕ) (d : X) → i < length xs → xs ≡ take i xs ++ (get_or xs i d ∷ drop (suc i) xs)
split_at xs i d lt = sym (take-append-drop i xs) ∙ ap (λ ys. take i xs ++ ys) (drop-cons xs i d lt)

-- the texts of a list up to one item, its text, and those behind it
pub texts_split : {X : Type 0} (f : X → Text) (xs : List X) (i : ℕ) (d : X) → i < length xs → flat_map f xs ≡ flat_map f (take i xs) ++ (f (get_or xs i d) ++ flat_map f (drop (suc i) xs))
texts_split f xs i d lt = ap (flat_map f) (split_at xs i d lt) ∙ flat_map-append f (take i xs) (get_or xs i d ∷ drop (suc i) xs)

-- what failed when all was gathered
pub WritesFront-all : (whole a v : Text) (o p q : Option Text) → whole ≡ a → Gathers a [] v o p → WritesFront v p q → WritesFront whole o q
WritesFront-all whole a v o p q e g h =
    WritesFront-stops whole a [] [] [] v o p q (e ∙ sym (append-nil a)) g (subst (λ t. WritesFront t p q) (sym (append-nil v)) h)

-- all that was gathered is written
pub Gathers-all : (whole v : Text) (o p q : Option Text) → Gathers whole [] v o p → q ≡ writing v p → q ≡ writing whole o
Gathers-all whole v o p q g e = e ∙ ap (writing v) g.is ∙ writing-twice g.front v o ∙ ap (λ t. writing t o) (sym g.all)

-- Lists.
use Rattle.std.proofs.Common.{◌≡◌, ℕ, ◌+◌, ◌-◌, ◌<◌, ◌≤◌, Bool, true, not, List, [], ◌∷◌, ◌++◌, length, take, drop, get_or, refl, sym, ap, ◌∙◌, append-nil, arith}
use Rattle.std.specs.List.{list_all, flat_map}
use Rattle.std.proofs.lemmas.Bool.{and_parts, and_from}
use Rattle.std.proofs.lemmas.List.{take-append-drop, drop-drop, drop_more, take_more}
use Rattle.std.proofs.lemmas.Grind.{flat_map-append}
use Rattle.desk_base.specs.Names.{Text, is_empty}

pub not_empty-push : {X : Type 0} (xs : List X) (x : X) → not (is_empty (xs ++ x ∷ [])) ≡ true
not_empty-push [] x = refl
not_empty-push (y ∷ xs) x = refl

pub empty_is : {X : Type 0} (xs : List X) → is_empty xs ≡ true → xs ≡ []
empty_is [] h = refl
empty_is (x ∷ xs) h = absurd cc

abbrev rest : {X : Type 0} → List X → List X
rest [] = []
rest (x ∷ xs) = xs

-- what stands behind a list that is the whole
pub none_behind : {X : Type 0} (xs ys : List X) → xs ++ ys ≡ xs → ys ≡ []
none_behind [] ys e = e
none_behind (x ∷ xs) ys e = none_behind xs ys (ap rest e)

pub all_weaker : (p q : ℕ → Bool) → ((b : ℕ) → p b ≡ true → q b ≡ true) → (t : Text) → list_all p t ≡ true → list_all q t ≡ true
all_weaker p q w [] h = refl
all_weaker p q w (b ∷ t) h = and_from _ _ (w b (and_parts _ _ h).0) (all_weaker p q w t (and_parts _ _ h).1)

-- what a text has from one place on: its bytes up to another, that byte, and the rest
pub rest_at : (text : Text) (from i : ℕ) → from ≤ i → i < length text → drop from text ≡ take (i - from) (drop from text) ++ get_or text i 0 ∷ drop (i + 1) text
rest_at text from i order within =
    let there : from + (i - from) ≡ i = omega arith in
    sym (take-append-drop (i - from) (drop from text))
    ∙ ap (λ (t : Text). take (i - from) (drop from text) ++ t) (drop-drop (i - from) from text ∙ ap (λ (n : ℕ). drop n text) there ∙ drop_more text i 0 within)

-- texts that are joined, with one text more
pub texts_more : {X : Type 0} (f : X → Text) (xs : List X) (i : ℕ) (d : X) → i < length xs → flat_map f (take (i + 1) xs) ≡ flat_map f (take i xs) ++ f (get_or xs i d)
texts_more f xs i d lt =
    ap (flat_map f) (take_more xs i d lt) ∙ flat_map-append f (take i xs) (get_or xs i d ∷ [])
    ∙ ap (λ t. flat_map f (take i xs) ++ t) (append-nil (f (get_or xs i d)))

-- a sum of three, of which others two were added up before
pub added_on : (a b c d e f : ℕ) → d ≡ a + b → e ≡ b + c → a + e ≡ f → d + c ≡ f
added_on a b c d e f h k l = omega arith

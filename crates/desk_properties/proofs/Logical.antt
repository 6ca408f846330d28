-- Logical lines.
use Rattle.std.proofs.Common.{◌≡◌, ℕ, ◌+◌, Bool, true, false, cond, ◌==◌, ◌%◌, ◌&&◌, List, [], ◌∷◌, ◌++◌, length, refl, sym, ap, ◌∙◌, arith}
use Rattle.std.proofs.lemmas.Bool.{eqb-true}
use Rattle.std.specs.List.{list_all}
use Rattle.desk_properties.specs.Lines.{Placed, Line, is_backslash, is_white, unindented, last_backslashes, is_continued, without_last, own_part, with_continued}

last_plain : (p : Placed) (l : Line) → is_backslash p ≡ false → last_backslashes (p ∷ l) ≡ last_backslashes l
last_plain p l h = rw h refl

-- a byte other than a backslash doesn't change whether its line is continued
pub continued_plain : (p : Placed) (l : Line) → is_backslash p ≡ false → is_continued (p ∷ l) ≡ is_continued l
continued_plain p l h = ap (λ (n : ℕ). (n % 2) == 1) (last_plain p l h)

all_last : (l : Line) → list_all is_backslash l ≡ true → last_backslashes l ≡ length l
all_last [] h = refl
all_last (p ∷ l) h = rw h (omega arith)

last_pair : (p q : Placed) (l : Line) → is_backslash p ≡ true → last_backslashes (p ∷ q ∷ l) % 2 ≡ last_backslashes l % 2
last_pair p q l h = rw h (elim (is_backslash q) as (λ (x : Bool). cond (x && list_all is_backslash l) (length (q ∷ l) + 1) (cond (x && list_all is_backslash l) (length l + 1) (last_backslashes l)) % 2 ≡ last_backslashes l % 2) [
  | true ↦ elim (list_all is_backslash l) as (λ (x : Bool). list_all is_backslash l ≡ x → cond x (length (q ∷ l) + 1) (cond x (length l + 1) (last_backslashes l)) % 2 ≡ last_backslashes l % 2) [
    | true ↦ λ all. rw (all_last l all) (omega arith)
    | false ↦ λ _. refl
  ] refl
  | false ↦ refl
])

-- a backslash and the byte behind it don't change it either
pub continued_pair : (p q : Placed) (l : Line) → is_backslash p ≡ true → is_continued (p ∷ q ∷ l) ≡ is_continued l
continued_pair p q l h = ap (λ (n : ℕ). n == 1) (last_pair p q l h)

own_plain : (p q : Placed) (l : Line) → is_backslash p ≡ false → own_part (p ∷ q ∷ l) ≡ p ∷ own_part (q ∷ l)
own_plain p q l h = rw (continued_plain p (q ∷ l) h) (elim (is_continued (q ∷ l)) as (λ (x : Bool). cond x (p ∷ without_last (q ∷ l)) (p ∷ q ∷ l) ≡ p ∷ cond x (without_last (q ∷ l)) (q ∷ l)) [ true ↦ refl | false ↦ refl ])

-- such a byte stays before what is left of its logical line
pub with_plain : (p : Placed) (l : Line) (ls : List Line) → is_backslash p ≡ false → with_continued (p ∷ l) ls ≡ p ∷ with_continued l ls
with_plain p [] [] h = rw (continued_plain p [] h) refl
with_plain p [] (next ∷ ls) h = rw (continued_plain p [] h) refl
with_plain p (q ∷ l) [] h = own_plain p q l h
with_plain p (q ∷ l) (next ∷ ls) h =
    let own : own_part (p ∷ q ∷ l) ≡ p ∷ own_part (q ∷ l) = own_plain p q l h in
    let more : Line = with_continued (unindented next) ls in
    ap (λ (o : Line). cond (is_continued (p ∷ q ∷ l)) (o ++ more) (p ∷ q ∷ l)) own
    ∙ ap (λ (x : Bool). cond x ((p ∷ own_part (q ∷ l)) ++ more) (p ∷ q ∷ l)) (continued_plain p (q ∷ l) h)
    ∙ (elim (is_continued (q ∷ l)) as (λ (x : Bool). cond x ((p ∷ own_part (q ∷ l)) ++ more) (p ∷ q ∷ l) ≡ p ∷ cond x (own_part (q ∷ l) ++ more) (q ∷ l)) [ true ↦ refl | false ↦ refl ])

own_pair : (p q r : Placed) (l : Line) → is_backslash p ≡ true → own_part (p ∷ q ∷ r ∷ l) ≡ p ∷ q ∷ own_part (r ∷ l)
own_pair p q r l h =
    ap (λ (x : Bool). cond x (p ∷ q ∷ without_last (r ∷ l)) (p ∷ q ∷ r ∷ l)) (continued_pair p q (r ∷ l) h)
    ∙ (elim (is_continued (r ∷ l)) as (λ (x : Bool). cond x (p ∷ q ∷ without_last (r ∷ l)) (p ∷ q ∷ r ∷ l) ≡ p ∷ q ∷ cond x (without_last (r ∷ l)) (r ∷ l)) [ true ↦ refl | false ↦ refl ])

-- and so does a backslash with the byte behind it
pub with_pair : (p q : Placed) (l : Line) (ls : List Line) → is_backslash p ≡ true → with_continued (p ∷ q ∷ l) ls ≡ p ∷ q ∷ with_continued l ls
with_pair p q [] [] h = ap (λ (x : Bool). cond x (without_last (p ∷ q ∷ [])) (p ∷ q ∷ [])) (continued_pair p q [] h)
with_pair p q [] (next ∷ ls) h = ap (λ (x : Bool). cond x (own_part (p ∷ q ∷ []) ++ with_continued (unindented next) ls) (p ∷ q ∷ [])) (continued_pair p q [] h)
with_pair p q (r ∷ l) [] h = own_pair p q r l h
with_pair p q (r ∷ l) (next ∷ ls) h =
    let own : own_part (p ∷ q ∷ r ∷ l) ≡ p ∷ q ∷ own_part (r ∷ l) = own_pair p q r l h in
    let more : Line = with_continued (unindented next) ls in
    ap (λ (o : Line). cond (is_continued (p ∷ q ∷ r ∷ l)) (o ++ more) (p ∷ q ∷ r ∷ l)) own
    ∙ ap (λ (x : Bool). cond x ((p ∷ q ∷ own_part (r ∷ l)) ++ more) (p ∷ q ∷ r ∷ l)) (continued_pair p q (r ∷ l) h)
    ∙ (elim (is_continued (r ∷ l)) as (λ (x : Bool). cond x ((p ∷ q ∷ own_part (r ∷ l)) ++ more) (p ∷ q ∷ r ∷ l) ≡ p ∷ q ∷ cond x (own_part (r ∷ l) ++ more) (r ∷ l)) [ true ↦ refl | false ↦ refl ])

-- a lone backslash continues its line
pub continued_lone : (p : Placed) → is_backslash p ≡ true → is_continued (p ∷ []) ≡ true
continued_lone p h = rw h refl

pub with_lone : (p : Placed) (next : Line) (ls : List Line) → is_backslash p ≡ true → with_continued (p ∷ []) (next ∷ ls) ≡ with_continued (unindented next) ls
with_lone p next ls h = ap (λ (x : Bool). cond x (cond x [] (p ∷ []) ++ with_continued (unindented next) ls) (p ∷ [])) (continued_lone p h)

pub with_lone_last : (p : Placed) → is_backslash p ≡ true → with_continued (p ∷ []) [] ≡ []
with_lone_last p h = ap (λ (x : Bool). cond x [] (p ∷ [])) (continued_lone p h)

-- an empty rest of a natural line goes on nowhere
pub with_none : (ls : List Line) → with_continued [] ls ≡ []
with_none [] = refl
with_none (next ∷ ls) = refl

white_plain : (p : Placed) → is_white p ≡ true → is_backslash p ≡ false
white_plain p h = elim (p.byte == 92) as (λ (x : Bool). (p.byte == 92) ≡ x → x ≡ false) [
  | true ↦ λ e. absurd (not_white (rw (eqb-true p.byte 92 e) at h))
  | false ↦ λ e. refl
] refl
  where
    not_white : false ≡ true → ⊥
    not_white k = cc

-- white space at the front doesn't change whether a line is continued
pub continued_unindented : (l : Line) → is_continued (unindented l) ≡ is_continued l
continued_unindented [] = refl
continued_unindented (p ∷ l) = elim (is_white p) as (λ (x : Bool). is_white p ≡ x → is_continued (cond x (unindented l) (p ∷ l)) ≡ is_continued (p ∷ l)) [
  | true ↦ λ w. continued_unindented l ∙ sym (continued_plain p l (white_plain p w))
  | false ↦ λ w. refl
] refl

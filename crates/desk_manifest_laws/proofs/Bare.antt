-- Texts without a mark outside quotes: those that were put together with marks are cut apart again.
use Rattle.std.proofs.Common.{◌≡◌, ℕ, Bool, true, false, cond, not, ◌&&◌, ◌==◌, List, [], ◌∷◌, ◌++◌, map, refl, ap, ap₂, sym, ◌∙◌}
use Rattle.std.specs.List.{list_all}
use Rattle.std.proofs.lemmas.Bool.{and_parts, and_from, eqb-true, eq-eqb, not-true}
use Rattle.desk_base.specs.Names.{Text, is_empty}
use Rattle.desk_clauses.specs.Quotes.{next, is_outside, is_closed, onto_first, cut, before_mark, from_mark, with_marks}
use Rattle.desk_clauses.specs.Grammar.{parts, clauses, clause_text, value_text}
use Rattle.desk_clauses.specs.declared.quotes.Quoting.{Quoting}
use Rattle.desk_clauses.specs.declared.quotes.Quoting.TheVariants.{Outside, Quoted}
use Rattle.desk_clauses.proofs.Walked.{cut_filled}
use Rattle.desk_clauses.proofs.Firsts.{outside_is}

-- how a reader stands behind a text
abbrev pub after : Quoting → Text → Quoting
after at [] = at
after at (b ∷ t) = after (next at b) t

-- whether a text holds no mark outside quotes
abbrev pub bare : ℕ → Quoting → Text → Bool
bare mark at [] = true
bare mark at (b ∷ t) = not (is_outside at && b == mark) && bare mark (next at b) t

pub after-append : (at : Quoting) (x y : Text) → after at (x ++ y) ≡ after (after at x) y
after-append at [] y = refl
after-append at (b ∷ x) y = after-append (next at b) x y

pub bare_both : (mark : ℕ) (at : Quoting) (x y : Text) → bare mark at x ≡ true → bare mark (after at x) y ≡ true → bare mark at (x ++ y) ≡ true
bare_both mark at [] y h g = g
bare_both mark at (b ∷ x) y h g = and_from _ _ (and_parts _ _ h).0 (bare_both mark (next at b) x y (and_parts _ _ h).1 g)

pub bare_parts : (mark : ℕ) (at : Quoting) (x y : Text) → bare mark at (x ++ y) ≡ true → (bare mark at x ≡ true) × (bare mark (after at x) y ≡ true)
bare_parts mark at [] y h = (refl, h)
bare_parts mark at (b ∷ x) y h =
    let more = bare_parts mark (next at b) x y (and_parts _ _ h).1 in
    (and_from _ _ (and_parts _ _ h).0 more.0, more.1)

pub closed_after : (at : Quoting) (t : Text) → is_closed at t ≡ is_outside (after at t)
closed_after at [] = refl
closed_after at (b ∷ t) = closed_after (next at b) t

-- a text without such a mark, behind which no quote is open
abbrev pub stands : ℕ → Quoting → Text → Bool
stands mark at p = bare mark at p && is_outside (after at p)

abbrev pub is_part : ℕ → Text → Bool
is_part mark = stands mark Outside

-- a part of a clause of a value: it holds neither of the two marks
abbrev pub is_inner : Text → Bool
is_inner p = is_part 44 p && is_part 59 p

-- ---- what stands before a mark, and from it on

pub before_bare : (mark : ℕ) (at : Quoting) (p more : Text) → stands mark at p ≡ true → (before_mark mark at (p ++ mark ∷ more) ≡ p) × (from_mark mark at (p ++ mark ∷ more) ≡ mark ∷ more)
before_bare mark at [] more h =
    let here : (is_outside at && mark == mark) ≡ true = and_from _ _ h (eq-eqb mark mark refl) in (
      ap (λ (c : Bool). cond c [] (mark ∷ before_mark mark (next at mark) more)) here,
      ap (λ (c : Bool). cond c (mark ∷ more) (from_mark mark (next at mark) more)) here,
    )
before_bare mark at (b ∷ p) more h =
    let both = and_parts _ _ h in
    let other : (is_outside at && b == mark) ≡ false = not-true _ (and_parts _ _ both.0).0 in
    let step = before_bare mark (next at b) p more (and_from _ _ (and_parts _ _ both.0).1 both.1) in (
      ap (λ (c : Bool). cond c [] (b ∷ before_mark mark (next at b) (p ++ mark ∷ more))) other ∙ ap (λ (s : Text). b ∷ s) step.0,
      ap (λ (c : Bool). cond c (b ∷ (p ++ mark ∷ more)) (from_mark mark (next at b) (p ++ mark ∷ more))) other ∙ step.1,
    )

-- a text without the mark
pub none_bare : (mark : ℕ) (at : Quoting) (p : Text) → bare mark at p ≡ true → from_mark mark at p ≡ []
none_bare mark at [] h = refl
none_bare mark at (b ∷ p) h = ap (λ (c : Bool). cond c (b ∷ p) (from_mark mark (next at b) p)) (not-true _ (and_parts _ _ h).0) ∙ none_bare mark (next at b) p (and_parts _ _ h).1

-- what stands before a mark is bare, and the reader stands outside quotes there
pub bare_before : (mark : ℕ) (at : Quoting) (t : Text) → bare mark at (before_mark mark at t) ≡ true
bare_before mark at [] = refl
bare_before mark at (b ∷ t) = elim (is_outside at && b == mark) as (λ (c : Bool). (is_outside at && b == mark) ≡ c → bare mark at (cond c [] (b ∷ before_mark mark (next at b) t)) ≡ true) [
  | true ↦ λ e. refl
  | false ↦ λ e. and_from _ _ (ap not e) (bare_before mark (next at b) t)
] refl

pub outside_before : (mark : ℕ) (at : Quoting) (t : Text) → is_empty (from_mark mark at t) ≡ false → is_outside (after at (before_mark mark at t)) ≡ true
outside_before mark at [] h = absurd cc
outside_before mark at (b ∷ t) h = elim (is_outside at && b == mark) as (λ (c : Bool). (is_outside at && b == mark) ≡ c → is_empty (cond c (b ∷ t) (from_mark mark (next at b) t)) ≡ false → is_outside (after at (cond c [] (b ∷ before_mark mark (next at b) t))) ≡ true) [
  | true ↦ λ e k. (and_parts _ _ e).0
  | false ↦ λ e k. outside_before mark (next at b) t k
] refl h

-- the first of the parts
pub cut_first : (mark : ℕ) (at : Quoting) (t : Text) → (more : List Text) × (cut mark at t ≡ before_mark mark at t ∷ more)
cut_first mark at [] = ([], refl)
cut_first mark at (b ∷ t) = elim (is_outside at && b == mark) as (λ (c : Bool). (more : List Text) × (cond c ([] ∷ cut mark at t) (onto_first b (cut mark (next at b) t)) ≡ cond c [] (b ∷ before_mark mark (next at b) t) ∷ more)) [
  | true ↦ (cut mark at t, refl)
  | false ↦ let step = cut_first mark (next at b) t in (step.0, ap (onto_first b) step.1)
]

-- ---- texts put together

pub marks_onto : (mark b : ℕ) (ps : List Text) → with_marks mark (onto_first b ps) ≡ b ∷ with_marks mark ps
marks_onto mark b [] = refl
marks_onto mark b (p ∷ []) = refl
marks_onto mark b (p ∷ q ∷ ps) = refl

marked : (mark : ℕ) (at : Quoting) (more : Text) → is_outside at ≡ true → cut mark at (mark ∷ more) ≡ [] ∷ cut mark at more
marked mark at more h = ap (λ (c : Bool). cond c ([] ∷ cut mark at more) (onto_first mark (cut mark (next at mark) more))) (and_from _ _ h (eq-eqb mark mark refl))

cut_part : (mark : ℕ) (at : Quoting) (p more : Text) → stands mark at p ≡ true → cut mark at (p ++ mark ∷ more) ≡ p ∷ cut mark Outside more
cut_part mark at [] more h = marked mark at more h ∙ ap (λ (r : Quoting). [] ∷ cut mark r more) (outside_is at h)
cut_part mark at (b ∷ p) more h =
    let both = and_parts _ _ h in
    ap (λ (c : Bool). cond c ([] ∷ cut mark at (p ++ mark ∷ more)) (onto_first b (cut mark (next at b) (p ++ mark ∷ more)))) (not-true _ (and_parts _ _ both.0).0)
    ∙ ap (onto_first b) (cut_part mark (next at b) p more (and_from _ _ (and_parts _ _ both.0).1 both.1))

cut_last : (mark : ℕ) (at : Quoting) (p : Text) → bare mark at p ≡ true → cut mark at p ≡ p ∷ []
cut_last mark at [] h = refl
cut_last mark at (b ∷ p) h =
    ap (λ (c : Bool). cond c ([] ∷ cut mark at p) (onto_first b (cut mark (next at b) p))) (not-true _ (and_parts _ _ h).0)
    ∙ ap (onto_first b) (cut_last mark (next at b) p (and_parts _ _ h).1)

-- parts that were put together are cut apart again
pub cut-marks : (mark : ℕ) (p : Text) (ps : List Text) → list_all (is_part mark) (p ∷ ps) ≡ true → cut mark Outside (with_marks mark (p ∷ ps)) ≡ p ∷ ps
cut-marks mark p [] h = cut_last mark Outside p (and_parts _ _ (and_parts _ _ h).0).0
cut-marks mark p (q ∷ ps) h = cut_part mark Outside p (with_marks mark (q ∷ ps)) (and_parts _ _ h).0 ∙ ap (λ (r : List Text). p ∷ r) (cut-marks mark q ps (and_parts _ _ h).1)

-- ---- the parts of a text

-- whether the first part stands behind this state, and the others outside quotes
abbrev pub all_stand : ℕ → Quoting → List Text → Bool
all_stand mark at [] = false
all_stand mark at (p ∷ ps) = stands mark at p && list_all (is_part mark) ps

stand_onto : (mark b : ℕ) (at : Quoting) (ps : List Text) → (is_outside at && b == mark) ≡ false → all_stand mark (next at b) ps ≡ true → all_stand mark at (onto_first b ps) ≡ true
stand_onto mark b at [] e h = absurd cc
stand_onto mark b at (p ∷ ps) e h =
    let both = and_parts _ _ h in
    let first = and_parts _ _ both.0 in
    and_from _ _ (and_from _ _ (and_from _ _ (ap not e) first.0) first.1) both.1

pub stand_all : (mark : ℕ) (ps : List Text) → all_stand mark Outside ps ≡ true → list_all (is_part mark) ps ≡ true
stand_all mark [] h = absurd cc
stand_all mark (p ∷ ps) h = h

pub next_mark : (mark b : ℕ) (at : Quoting) → (mark == 34) ≡ false → (is_outside at && b == mark) ≡ true → next at b ≡ Outside
next_mark mark b at n e =
    ap (λ (r : Quoting). next r b) (outside_is at (and_parts _ _ e).0)
    ∙ ap (next Outside) (eqb-true b mark (and_parts _ _ e).1)
    ∙ ap (λ (c : Bool). cond c Quoted Outside) n

-- the parts of a text whose quotes are closed
pub cut_stands : (mark : ℕ) (at : Quoting) (t : Text) → (mark == 34) ≡ false → is_closed at t ≡ true → all_stand mark at (cut mark at t) ≡ true
cut_stands mark at [] n h = and_from _ _ h refl
cut_stands mark at (b ∷ t) n h = elim (is_outside at && b == mark) as (λ (c : Bool). (is_outside at && b == mark) ≡ c → all_stand mark at (cond c ([] ∷ cut mark at t) (onto_first b (cut mark (next at b) t))) ≡ true) [
  | true ↦ λ e.
      let out : at ≡ Outside = outside_is at (and_parts _ _ e).0 in
      let closed : is_closed Outside t ≡ true = ap (λ (r : Quoting). is_closed r t) (sym (next_mark mark b at n e)) ∙ h in
      and_from _ _ (and_parts _ _ e).0
      (ap (λ (r : Quoting). list_all (is_part mark) (cut mark r t)) out ∙ stand_all mark (cut mark Outside t) (cut_stands mark Outside t n closed))
  | false ↦ λ e. stand_onto mark b at (cut mark (next at b) t) e (cut_stands mark (next at b) t n h)
] refl

-- whether no part holds another mark
abbrev all_bare : ℕ → Quoting → List Text → Bool
all_bare other at [] = false
all_bare other at (p ∷ ps) = bare other at p && list_all (bare other Outside) ps

bare_onto : (other b : ℕ) (at : Quoting) (ps : List Text) → not (is_outside at && b == other) ≡ true → all_bare other (next at b) ps ≡ true → all_bare other at (onto_first b ps) ≡ true
bare_onto other b at [] e h = absurd cc
bare_onto other b at (p ∷ ps) e h = and_from _ _ (and_from _ _ e (and_parts _ _ h).0) (and_parts _ _ h).1

bare_all : (other : ℕ) (ps : List Text) → all_bare other Outside ps ≡ true → list_all (bare other Outside) ps ≡ true
bare_all other [] h = absurd cc
bare_all other (p ∷ ps) h = h

cut_bare : (mark other : ℕ) (at : Quoting) (t : Text) → (mark == 34) ≡ false → bare other at t ≡ true → all_bare other at (cut mark at t) ≡ true
cut_bare mark other at [] n h = refl
cut_bare mark other at (b ∷ t) n h = elim (is_outside at && b == mark) as (λ (c : Bool). (is_outside at && b == mark) ≡ c → all_bare other at (cond c ([] ∷ cut mark at t) (onto_first b (cut mark (next at b) t))) ≡ true) [
  | true ↦ λ e.
      let out : at ≡ Outside = outside_is at (and_parts _ _ e).0 in
      let more : bare other Outside t ≡ true = ap (λ (r : Quoting). bare other r t) (sym (next_mark mark b at n e)) ∙ (and_parts _ _ h).1 in
      ap (λ (r : Quoting). list_all (bare other Outside) (cut mark r t)) out ∙ bare_all other (cut mark Outside t) (cut_bare mark other Outside t n more)
  | false ↦ λ e. bare_onto other b at (cut mark (next at b) t) (and_parts _ _ h).0 (cut_bare mark other (next at b) t n (and_parts _ _ h).1)
] refl

both_inner : (ps : List Text) → list_all (bare 44 Outside) ps ≡ true → list_all (is_part 59) ps ≡ true → list_all is_inner ps ≡ true
both_inner [] h g = refl
both_inner (p ∷ ps) h g =
    let other = and_parts _ _ h in
    let own = and_parts _ _ g in
    and_from _ _ (and_from _ _ (and_from _ _ other.0 (and_parts _ _ own.0).1) own.0) (both_inner ps other.1 own.1)

-- the parts of a clause
pub parts_inner : (clause : Text) → is_part 44 clause ≡ true → list_all is_inner (parts clause) ≡ true
parts_inner clause h =
    let both = and_parts _ _ h in
    both_inner (parts clause) (bare_all 44 (parts clause) (cut_bare 59 44 Outside clause refl both.0))
    (stand_all 59 (parts clause) (cut_stands 59 Outside clause refl (closed_after Outside clause ∙ both.1)))

-- ---- whole values

-- a clause that was cut: it has parts, and each is one
abbrev pub is_cut : List Text → Bool
is_cut clause = not (is_empty clause) && list_all is_inner clause

clauses_cut : (cs : List Text) → list_all (is_part 44) cs ≡ true → list_all is_cut (map parts cs) ≡ true
clauses_cut [] h = refl
clauses_cut (c ∷ cs) h = and_from _ _ (and_from _ _ (ap not (cut_filled 59 Outside c)) (parts_inner c (and_parts _ _ h).0)) (clauses_cut cs (and_parts _ _ h).1)

-- the clauses of a value whose quotes are closed
pub value_cut : (value : Text) → is_closed Outside value ≡ true → list_all is_cut (clauses value) ≡ true
value_cut value h = clauses_cut (cut 44 Outside value) (stand_all 44 (cut 44 Outside value) (cut_stands 44 Outside value refl h))

map_filled : {A B : Type 0} (f : A → B) (xs : List A) → is_empty (map f xs) ≡ is_empty xs
map_filled f [] = refl
map_filled f (x ∷ xs) = refl

pub clauses_filled : (value : Text) → is_empty (clauses value) ≡ false
clauses_filled value = map_filled parts (cut 44 Outside value) ∙ cut_filled 44 Outside value

inner_parts : (mark : ℕ) (ps : List Text) → ((p : Text) → is_inner p ≡ true → is_part mark p ≡ true) → list_all is_inner ps ≡ true → list_all (is_part mark) ps ≡ true
inner_parts mark [] w h = refl
inner_parts mark (p ∷ ps) w h = and_from _ _ (w p (and_parts _ _ h).0) (inner_parts mark ps w (and_parts _ _ h).1)

part_joined : (p more : Text) → is_part 44 p ≡ true → is_part 44 more ≡ true → is_part 44 (p ++ 59 ∷ more) ≡ true
part_joined p more h g =
    let first = and_parts _ _ h in
    let second = and_parts _ _ g in
    let out : after Outside p ≡ Outside = outside_is (after Outside p) first.1 in
    and_from _ _
    (bare_both 44 Outside p (59 ∷ more) first.0 (ap (λ (r : Quoting). bare 44 r (59 ∷ more)) out ∙ second.0))
    (ap is_outside (after-append Outside p (59 ∷ more) ∙ ap (λ (r : Quoting). after r (59 ∷ more)) out) ∙ second.1)

-- the text of a clause holds no mark of clauses
clause_part : (ps : List Text) → list_all (is_part 44) ps ≡ true → is_part 44 (clause_text ps) ≡ true
clause_part [] h = refl
clause_part (p ∷ []) h = (and_parts _ _ h).0
clause_part (p ∷ q ∷ ps) h = part_joined p (clause_text (q ∷ ps)) (and_parts _ _ h).0 (clause_part (q ∷ ps) (and_parts _ _ h).1)

clause_again : (clause : List Text) → is_cut clause ≡ true → (parts (clause_text clause) ≡ clause) × (is_part 44 (clause_text clause) ≡ true)
clause_again [] h = absurd cc
clause_again (p ∷ ps) h =
    (cut-marks 59 p ps (inner_parts 59 (p ∷ ps) (λ q k. (and_parts (is_part 44 q) (is_part 59 q) k).1) h), clause_part (p ∷ ps) (inner_parts 44 (p ∷ ps) (λ q k. (and_parts (is_part 44 q) (is_part 59 q) k).0) h))

clauses_again : (cs : List (List Text)) → list_all is_cut cs ≡ true → (map parts (map clause_text cs) ≡ cs) × (list_all (is_part 44) (map clause_text cs) ≡ true)
clauses_again [] h = (refl, refl)
clauses_again (c ∷ cs) h =
    let one = clause_again c (and_parts _ _ h).0 in
    let more = clauses_again cs (and_parts _ _ h).1 in
    (ap₂ (λ (x : List Text) (xs : List (List Text)). x ∷ xs) one.0 more.0, and_from _ _ one.1 more.1)

cut_again : (cs : List Text) → is_empty cs ≡ false → list_all (is_part 44) cs ≡ true → cut 44 Outside (with_marks 44 cs) ≡ cs
cut_again [] e h = absurd cc
cut_again (c ∷ cs) e h = cut-marks 44 c cs h

-- clauses that were put together are cut apart again
pub clauses-value_text : (cs : List (List Text)) → is_empty cs ≡ false → list_all is_cut cs ≡ true → clauses (value_text cs) ≡ cs
clauses-value_text cs e h =
    let again = clauses_again cs h in
    ap (map parts) (cut_again (map clause_text cs) (map_filled clause_text cs ∙ e) again.1) ∙ again.0

closed_joined : (p more : Text) → is_part 44 p ≡ true → is_outside (after Outside more) ≡ true → is_outside (after Outside (p ++ 44 ∷ more)) ≡ true
closed_joined p more h g =
    ap is_outside (after-append Outside p (44 ∷ more) ∙ ap (λ (r : Quoting). after r (44 ∷ more)) (outside_is (after Outside p) (and_parts _ _ h).1)) ∙ g

closed_all : (cs : List Text) → list_all (is_part 44) cs ≡ true → is_outside (after Outside (with_marks 44 cs)) ≡ true
closed_all [] h = refl
closed_all (c ∷ []) h = (and_parts _ _ (and_parts _ _ h).0).1
closed_all (c ∷ d ∷ cs) h = closed_joined c (with_marks 44 (d ∷ cs)) (and_parts _ _ h).0 (closed_all (d ∷ cs) (and_parts _ _ h).1)

-- and each quote is closed
pub value_closed : (cs : List (List Text)) → list_all is_cut cs ≡ true → is_closed Outside (value_text cs) ≡ true
value_closed cs h = closed_after Outside (value_text cs) ∙ closed_all (map clause_text cs) (clauses_again cs h).1

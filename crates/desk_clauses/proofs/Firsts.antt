-- Parts, read one by one.
use Rattle.std.proofs.Common.{◌≡◌, ◌<◌, ℕ, suc, Bool, true, false, cond, not, ◌&&◌, ◌==◌, List, [], ◌∷◌, ◌++◌, length, drop, Option, Some, None, refl, sym, ap, ap₂, ◌∙◌, arith, append-nil, map, ◌-◌, nat_lt, length-drop}
use Rattle.std.specs.List.{list_all}
use Rattle.std.proofs.lemmas.Bool.{and_parts, eqb-true, ltb-true, lt-ltb}
use Rattle.desk_base.specs.Names.{Text, is_empty}
use Rattle.desk_lines.specs.Blanks.{trimmed}
use Rattle.desk_clauses.specs.Quotes.{next, is_outside, before_mark, from_mark, cut, onto_first}
use Rattle.desk_clauses.specs.Grammar.{is_parameter, are_parts, is_clause, parts}
use Rattle.desk_clauses.specs.Cuts.{parts_of, IsFirstPart}
use Rattle.desk_clauses.specs.Places.{place_behind}
use Rattle.desk_clauses.specs.declared.grammar.ClausePlace.{ClausePlace}
use Rattle.desk_clauses.specs.declared.grammar.ClausePlace.TheVariants.{Start, BehindPath, BehindParameter}
use Rattle.desk_clauses.specs.declared.quotes.Quoting.{Quoting}
use Rattle.desk_clauses.specs.declared.quotes.Quoting.TheVariants.{Outside, Quoted, Escaped}

-- how much is left of a text
abbrev pub left : Option Text → ℕ
left None = 0
left (Some t) = suc (length t)

-- whether what is left of a clause may stand at a place
abbrev pub may_stand : ClausePlace → Option Text → Bool
may_stand Start None = true
may_stand Start (Some t) = is_clause (parts t)
may_stand BehindPath rest = are_parts (parts_of parts rest)
may_stand BehindParameter rest = list_all is_parameter (parts_of parts rest)

abbrev pub may_go_on : Option ClausePlace → Option Text → Bool
may_go_on None rest = false
may_go_on (Some place) rest = may_stand place rest

-- one more part is read
pub part_read : (place : ClausePlace) (t part : Text) (more : Option Text) → IsFirstPart 59 t part more → may_stand place (Some t) ≡ may_go_on (place_behind place part) more
part_read Start t part more first = ap is_clause first.parts ∙ by (is_parameter part) (is_empty (trimmed part))
  where
    by : (x e : Bool) → (not x && cond x (list_all is_parameter (parts_of parts more)) (not e && are_parts (parts_of parts more))) ≡ may_go_on (cond x None (cond e None (Some BehindPath))) more
    by true e = refl
    by false true = refl
    by false false = refl
part_read BehindPath t part more first = ap are_parts first.parts ∙ by (is_parameter part) (is_empty (trimmed part))
  where
    by : (x e : Bool) → cond x (list_all is_parameter (parts_of parts more)) (not e && are_parts (parts_of parts more)) ≡ may_go_on (cond x (Some BehindParameter) (cond e None (Some BehindPath))) more
    by true e = refl
    by false true = refl
    by false false = refl
part_read BehindParameter t part more first = ap (list_all is_parameter) first.parts ∙ by (is_parameter part)
  where
    by : (x : Bool) → (x && list_all is_parameter (parts_of parts more)) ≡ may_go_on (cond x (Some BehindParameter) None) more
    by true = refl
    by false = refl

-- behind a parameter
abbrev pub parameter_behind : ClausePlace → Option ClausePlace
parameter_behind Start = None
parameter_behind BehindPath = Some BehindParameter
parameter_behind BehindParameter = Some BehindParameter

pub behind_parameter : (place : ClausePlace) (part : Text) → is_parameter part ≡ true → place_behind place part ≡ parameter_behind place
behind_parameter Start part e = ap (λ (b : Bool). cond b None (cond (is_empty (trimmed part)) None (Some BehindPath))) e
behind_parameter BehindPath part e = ap (λ (b : Bool). cond b (Some BehindParameter) (cond (is_empty (trimmed part)) None (Some BehindPath))) e
behind_parameter BehindParameter part e = ap (λ (b : Bool). cond b (Some BehindParameter) None) e

-- a clause that is read to its end
pub none_left : (place : ClausePlace) → may_stand place None ≡ true
none_left Start = refl
none_left BehindPath = refl
none_left BehindParameter = refl

-- the part before a mark, and what follows it
abbrev parts_behind : ℕ → Quoting → Text → List Text
parts_behind mark at [] = []
parts_behind mark at (b ∷ t) = cut mark at t

pub outside_is : (q : Quoting) → is_outside q ≡ true → q ≡ Outside
outside_is Outside h = refl
outside_is Quoted h = absurd cc
outside_is Escaped h = absurd cc

pub cut_parts : (mark : ℕ) (at : Quoting) (t : Text) → cut mark at t ≡ before_mark mark at t ∷ parts_behind mark Outside (from_mark mark at t)
cut_parts mark at [] = refl
cut_parts mark at (b ∷ t) = elim (is_outside at && b == mark) as (λ (c : Bool). (is_outside at && b == mark) ≡ c → cond c ([] ∷ cut mark at t) (onto_first b (cut mark (next at b) t)) ≡ cond c [] (b ∷ before_mark mark (next at b) t) ∷ parts_behind mark Outside (cond c (b ∷ t) (from_mark mark (next at b) t))) [
  | true ↦ λ e. ap (λ (q : Quoting). [] ∷ cut mark q t) (outside_is at (and_parts _ _ e).0)
  | false ↦ λ e. ap (onto_first b) (cut_parts mark (next at b) t)
] refl

pub before_from : (mark : ℕ) (at : Quoting) (t : Text) → before_mark mark at t ++ from_mark mark at t ≡ t
before_from mark at [] = refl
before_from mark at (b ∷ t) = elim (is_outside at && b == mark) as (λ (c : Bool). cond c [] (b ∷ before_mark mark (next at b) t) ++ cond c (b ∷ t) (from_mark mark (next at b) t) ≡ b ∷ t) [
  | true ↦ refl
  | false ↦ ap (λ (s : Text). b ∷ s) (before_from mark (next at b) t)
]

-- what stands at the place of a mark
pub from_begins : (mark : ℕ) (at : Quoting) (t : Text) (b : ℕ) (more : Text) → from_mark mark at t ≡ b ∷ more → b ≡ mark
from_begins mark at [] b more h = absurd cc
from_begins mark at (c ∷ t) b more h = elim (is_outside at && c == mark) as (λ (x : Bool). (is_outside at && c == mark) ≡ x → cond x (c ∷ t) (from_mark mark (next at c) t) ≡ b ∷ more → b ≡ mark) [
  | true ↦ λ e g. let same : c ≡ b = cc in sym same ∙ eqb-true c mark (and_parts _ _ e).1
  | false ↦ λ e g. from_begins mark (next at c) t b more g
] refl h

-- a text whose first mark stands at a place
pub first_of : (mark : ℕ) (text part : Text) (b : ℕ) (more : Text) → part ≡ before_mark mark Outside text → b ∷ more ≡ from_mark mark Outside text → IsFirstPart mark text part (Some more)
first_of mark text part b more p f = record {
  parts = cut_parts mark Outside text ∙ ap₂ (λ (x : Text) (y : Text). x ∷ parts_behind mark Outside y) (sym p) (sym f);
  whole = sym (before_from mark Outside text) ∙ ap₂ (λ (x y : Text). x ++ y) (sym p) (sym f) ∙ ap (λ (c : ℕ). part ++ c ∷ more) (from_begins mark Outside text b more (sym f));
}

-- a text without a mark
pub first_alone : (mark : ℕ) (text : Text) → from_mark mark Outside text ≡ [] → IsFirstPart mark text text None
first_alone mark text f =
    let same : before_mark mark Outside text ≡ text = sym (append-nil (before_mark mark Outside text)) ∙ ap (λ (t : Text). before_mark mark Outside text ++ t) (sym f) ∙ before_from mark Outside text in
    record {
      parts = cut_parts mark Outside text ∙ ap₂ (λ (x : Text) (y : Text). x ∷ parts_behind mark Outside y) same f;
      whole = sym (append-nil text);
    }

-- whether something stands behind so many bytes
pub stands_behind : (t d : Text) (n : ℕ) → drop n t ≡ d → nat_lt n (length t) ≡ not (is_empty d)
stands_behind t [] n e =
    let size : length t - n ≡ 0 = sym (length-drop n t) ∙ ap length e in
    elim (nat_lt n (length t)) as (λ (c : Bool). nat_lt n (length t) ≡ c → c ≡ false) [
      | true ↦ λ k. absurd (let less : n < length t = ltb-true n (length t) k in omega (arith, size, less))
      | false ↦ λ k. refl
    ] refl
stands_behind t (b ∷ d) n e =
    let size : length t - n ≡ suc (length d) = sym (length-drop n t) ∙ ap length e in
    lt-ltb n (length t) (omega (arith, size))

pub all_parts : (xs : List Text) → list_all is_clause (map parts xs) ≡ list_all (λ (t : Text). is_clause (parts t)) xs
all_parts [] = refl
all_parts (x ∷ xs) = ap (λ (b : Bool). is_clause (parts x) && b) (all_parts xs)

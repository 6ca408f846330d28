-- A path is followed along the renames whose keys begin with it.
use Rattle.std.proofs.Common.{length-append, ◌≡◌, ◌<◌, ◌≤◌, ◌+◌, ◌-◌, ℕ, suc, Bool, true, false, cond, not, ◌&&◌, ◌==◌, List, [], ◌∷◌, ◌++◌, length, map, take, drop, get_or, refl, sym, ap, subst, ◌∙◌, inl, inr, arith}
use Rattle.std.specs.List.{filter, list_all, starts_with}
use Rattle.std.proofs.lemmas.Bool.{and_parts, and_from, both_ways, cases_Bool, eqb-true, eq-eqb, not-true, not_from_false}
use Rattle.std.proofs.lemmas.List.{take_all, take_more, map-append, length-map, length-take-le, append_assoc, append-nil}
use Rattle.std.proofs.lemmas.List.Folds.{list_all-append}
use Rattle.std.proofs.Math.Seq.{take-add}
use Rattle.desk_base.specs.Names.{Text, Package, written, is_identifier, is_identifier_byte}
use Rattle.desk_base.proofs.Lists.{all_weaker}
use Rattle.desk_packages.specs.Renames.{Renaming, key_of}
use Rattle.desk_packages.specs.Keys.{is_separator, spelled, wanted_tail, IsTable, AllBegin, EndsAt, EndsBelow, NoneEnds}
use Rattle.desk_packages.proofs.Picks.{In, in_filter, from_filter}
use Rattle.desk_packages.proofs.Searched.{at_in}
use Rattle.desk_packages.proofs.KeyLaws.{key_path, path_key}
use Rattle.desk_packages.proofs.Lookup.{one_of, contained, formed}

-- ---- what begins with a text

pub begins_itself : (start more : Text) → starts_with ◌==◌ (start ++ more) start ≡ true
begins_itself [] more = refl
begins_itself (c ∷ cs) more = and_from _ _ (eq-eqb c c refl) (begins_itself cs more)

pub begins_front : (key start more : Text) → starts_with ◌==◌ key (start ++ more) ≡ true → starts_with ◌==◌ key start ≡ true
begins_front key [] more h = refl
begins_front [] (c ∷ cs) more h = absurd cc
begins_front (x ∷ xs) (c ∷ cs) more h = let parts = and_parts (c == x) _ h in and_from _ _ parts.0 (begins_front xs cs more parts.1)

pub filter_twice : {A : Type 0} (p q : A → Bool) (xs : List A) → ((x : A) → p x ≡ true → q x ≡ true) → filter p (filter q xs) ≡ filter p xs
filter_twice p q [] weaker = refl
filter_twice {A} p q (x ∷ xs) weaker = elim (cases_Bool (q x)) [
  | inl kept ↦
      ap (λ (b : Bool). filter p (cond b (x ∷ filter q xs) (filter q xs))) kept
      ∙ ap (λ (ys : List A). cond (p x) (x ∷ ys) ys) (filter_twice p q xs weaker)
  | inr gone ↦ elim (cases_Bool (p x)) [
    | inl h ↦ absurd (both_ways (q x) gone (weaker x h))
    | inr h ↦
        ap (λ (b : Bool). filter p (cond b (x ∷ filter q xs) (filter q xs))) gone
        ∙ filter_twice p q xs weaker
        ∙ sym (ap (λ (b : Bool). cond b (x ∷ filter p xs) (filter p xs)) h)
  ]
]

-- all that is left of a list begins so
pub left_begins : {A : Type 0} (f : A → Text) (xs ys : List A) (start : Text) → ys ≡ filter (λ (x : A). starts_with ◌==◌ (f x) start) xs → AllBegin f ys start (length ys)
left_begins {A} f xs ys start is k d within =
    (from_filter (λ (x : A). starts_with ◌==◌ (f x) start) xs (get_or ys k d) (subst (λ (zs : List A). In zs (get_or ys k d)) is (at_in ys k d within))).1

-- ---- the end of a below rename's key

unstarred : (b : ℕ) → is_identifier_byte b ≡ true → not (b == 42) ≡ true
unstarred b h = elim (cases_Bool (b == 42)) [
  | inl e ↦ absurd (both_ways (is_identifier_byte b) (rw (eqb-true b 42 e) refl) h)
  | inr e ↦ not_from_false _ e
]

plain : (t : Text) → is_identifier t ≡ true → list_all (λ b. not (b == 42)) t ≡ true
plain [] h = refl
plain (b ∷ t) h = all_weaker is_identifier_byte (λ b. not (b == 42)) unstarred (b ∷ t) (and_parts _ _ h).1

-- no byte of a package that is written with dots is a star
starless : (p : Package) → list_all is_identifier p ≡ true → list_all (λ b. not (b == 42)) (written 46 p) ≡ true
starless [] all = refl
starless (p ∷ []) all = plain p (and_parts _ _ all).0
starless (p ∷ q ∷ ps) all =
    list_all-append (λ b. not (b == 42)) p (46 ∷ written 46 (q ∷ ps))
    ∙ and_from _ _ (plain p (and_parts _ _ all).0) (starless (q ∷ ps) (and_parts _ _ all).1)

no_star : (y : ℕ) (rest : Bool) → (42 == y && rest) ≡ true → not (y == 42) ≡ true → ⊥
no_star y rest h clean = both_ways (y == 42) (not-true _ clean) (eq-eqb y 42 (sym (eqb-true 42 y (and_parts _ _ h).0)))

-- a key of bytes that are no stars, which begins with a text, a dot and a star, ends there
pub star_ends : (body start : Text) (below : Bool) → list_all (λ b. not (b == 42)) body ≡ true → starts_with ◌==◌ (body ++ wanted_tail below) (start ++ 46 ∷ 42 ∷ []) ≡ true → (below ≡ true) × (body ≡ start)
star_ends [] [] true clean h = (refl, refl)
star_ends [] [] false clean h = absurd cc
star_ends [] (c ∷ []) true clean h = absurd (both_ways _ refl (and_parts (c == 46) _ h).1)
star_ends [] (c ∷ d ∷ start) true clean h = absurd (over (c == 46) (d == 42) start h)
  where
    over : (a b : Bool) (start : Text) → (a && (b && starts_with ◌==◌ [] (start ++ 46 ∷ 42 ∷ []))) ≡ true → ⊥
    over a b [] h = both_ways false refl (and_parts b _ (and_parts a _ h).1).1
    over a b (e ∷ start) h = both_ways false refl (and_parts b _ (and_parts a _ h).1).1
star_ends [] (c ∷ start) false clean h = absurd cc
star_ends (x ∷ []) [] true clean h = absurd (both_ways _ refl (and_parts (46 == x) _ h).1)
star_ends (x ∷ []) [] false clean h = absurd (both_ways _ refl (and_parts (46 == x) _ h).1)
star_ends (x ∷ y ∷ body) [] below clean h =
    absurd (no_star y _ (and_parts (46 == x) _ h).1 (and_parts _ _ (and_parts _ _ clean).1).0)
star_ends (x ∷ body) (c ∷ start) below clean h =
    let parts = and_parts (c == x) _ h in
    let more = star_ends body start below (and_parts _ _ clean).1 parts.1 in
    (more.0, ap (λ (b : ℕ). b ∷ body) (sym (eqb-true c x parts.0)) ∙ ap (λ (t : Text). c ∷ t) more.1)

-- ---- along a path

-- what a key begins with that goes on as the path up to a place
abbrev pub start_of : ℕ → Text → ℕ → Text
start_of s path n = map (spelled s) (take n path)

pub start_length : (s : ℕ) (path : Text) (n : ℕ) → n ≤ length path → length (start_of s path n) ≡ n
start_length s path n within = length-map (take n path) (spelled s) ∙ length-take-le n path within

start_adds : (s : ℕ) (path : Text) (n m : ℕ) → start_of s path (n + m) ≡ start_of s path n ++ map (spelled s) (take m (drop n path))
start_adds s path n m = ap (map (spelled s)) (take-add n m path) ∙ map-append (spelled s) (take n path) (take m (drop n path))

-- one byte more
pub start_more : (s : ℕ) (path : Text) (n b : ℕ) → n < length path → b ≡ spelled s (get_or path n 0) → start_of s path (n + 1) ≡ start_of s path n ++ b ∷ []
start_more s path n b within is =
    ap (map (spelled s)) (take_more path n 0 within) ∙ map-append (spelled s) (take n path) (get_or path n 0 ∷ [])
    ∙ ap (λ (c : ℕ). start_of s path n ++ c ∷ []) (sym is)

pub start_dotted : (s : ℕ) (path : Text) (n : ℕ) → n ≤ length path → length (start_of s path n ++ 46 ∷ []) ≡ n + 1
start_dotted s path n within = length-append (start_of s path n) (46 ∷ []) ∙ ap (λ (m : ℕ). m + 1) (start_length s path n within)

pub none_there : {A : Type 0} (xs : List A) → length xs < 1 → xs ≡ []
none_there [] none = refl
none_there (x ∷ xs) none = absurd (omega arith)

pub first_there : {A : Type 0} (xs : List A) (x : A) → x ≡ get_or xs 0 x → 0 < length xs → In xs x
first_there {A} xs x is within = subst (λ (y : A). In xs y) (sym is) (at_in xs 0 x within)

-- behind the end nothing is added
pub start_whole : (s : ℕ) (path : Text) (n : ℕ) → n ≡ length path → start_of s path (n + 1) ≡ start_of s path n
start_whole s path n all = ap (map (spelled s)) (take_all (n + 1) path (omega arith) ∙ sym (take_all n path (omega arith)))

-- what begins with more of a path begins with less of it
less_begins : (s : ℕ) (path key : Text) (n m : ℕ) → n ≤ m → starts_with ◌==◌ key (start_of s path m) ≡ true → starts_with ◌==◌ key (start_of s path n) ≡ true
less_begins s path key n m le h =
    let sum : n + (m - n) ≡ m = omega arith in
    begins_front key (start_of s path n) (map (spelled s) (take (m - n) (drop n path)))
    (ap (starts_with ◌==◌ key) (sym (start_adds s path n (m - n)) ∙ ap (start_of s path) sum) ∙ h)

-- those that are left of the renames at a place of a path
pub record IsLeftAt (rs : List Renaming) (s : ℕ) (path : Text) (n : ℕ) (rest : List Renaming) : Type 0 where
  pub table : IsTable rest
  pub left : rest ≡ filter (λ (r : Renaming). starts_with ◌==◌ (key_of r) (start_of s path n)) rs

-- where all begin so, all are left
pub all_left : {A : Type 0} (test : A → Bool) (xs : List A) → ((k : ℕ) (d : A) → k < length xs → test (get_or xs k d) ≡ true) → xs ≡ filter test xs
all_left test [] all = refl
all_left {A} test (x ∷ xs) all =
    ap (λ (ys : List A). x ∷ ys) (all_left test xs (λ k d lt. all (suc k) d (omega arith)))
    ∙ sym (ap (λ (b : Bool). cond b (x ∷ filter test xs) (filter test xs)) (all 0 x (omega arith)))

pub left_first : (rs : List Renaming) → IsTable rs → (s : ℕ) (path : Text) → IsLeftAt rs s path 0 rs
left_first rs table s path = record { table = table; left = all_left (λ (r : Renaming). starts_with ◌==◌ (key_of r) []) rs (λ k d lt. refl) }

pub left_next : (rs : List Renaming) (s : ℕ) (path : Text) (n : ℕ) (rest next : List Renaming) → IsLeftAt rs s path n rest → IsTable next → next ≡ filter (λ (r : Renaming). starts_with ◌==◌ (key_of r) (start_of s path (n + 1))) rest → IsLeftAt rs s path (n + 1) next
left_next rs s path n rest next known table is = record {
  table = table;
  left = is
      ∙ ap (filter (λ (r : Renaming). starts_with ◌==◌ (key_of r) (start_of s path (n + 1)))) known.left
      ∙ filter_twice (λ (r : Renaming). starts_with ◌==◌ (key_of r) (start_of s path (n + 1))) (λ (r : Renaming). starts_with ◌==◌ (key_of r) (start_of s path n)) rs
      (λ x h. less_begins s path (key_of x) n (n + 1) (omega arith) h);
}

pub left_alike : (rs : List Renaming) (s : ℕ) (path : Text) (n : ℕ) (rest : List Renaming) → IsLeftAt rs s path n rest → AllBegin key_of rest (start_of s path n) (length rest)
left_alike rs s path n rest known = left_begins key_of rs rest (start_of s path n) known.left

module _ (rs : List Renaming) (table : IsTable rs) (s : ℕ) (h : is_separator s ≡ true) (path : Text) where
  -- the key of a below rename whose source is the path up to a place
  key_here : (n : ℕ) (r : Renaming) → EndsBelow rs s path n r → key_of r ≡ start_of s path n ++ 46 ∷ 42 ∷ []
  key_here n r at =
      path_key s h r (formed rs table s h path r (one_of rs r at.there)).1 (take n path) at.spelled
      ∙ ap (λ (b : Bool). start_of s path n ++ wanted_tail b) at.below

  key_begins : (n : ℕ) (r : Renaming) → EndsBelow rs s path n r → starts_with ◌==◌ (key_of r) (start_of s path n) ≡ true
  key_begins n r at = ap (λ (key : Text). starts_with ◌==◌ key (start_of s path n)) (key_here n r at) ∙ begins_itself (start_of s path n) (46 ∷ 42 ∷ [])

  -- a rename of them that goes on with a dot and a star is a below rename whose source ends there
  pub star_below : (n : ℕ) (dotted starred : List Renaming) → dotted ≡ filter (λ (r : Renaming). starts_with ◌==◌ (key_of r) (start_of s path n ++ 46 ∷ [])) rs → starred ≡ filter (λ (r : Renaming). starts_with ◌==◌ (key_of r) ((start_of s path n ++ 46 ∷ []) ++ 42 ∷ [])) dotted → EndsAt s path n → (r : Renaming) → In starred r → EndsBelow rs s path n r
  star_below n dotted starred dots stars ends r is =
      let one = from_filter (λ (r : Renaming). starts_with ◌==◌ (key_of r) ((start_of s path n ++ 46 ∷ []) ++ 42 ∷ [])) dotted r (subst (λ (xs : List Renaming). In xs r) stars is) in
      let two = from_filter (λ (r : Renaming). starts_with ◌==◌ (key_of r) (start_of s path n ++ 46 ∷ [])) rs r (subst (λ (xs : List Renaming). In xs r) dots one.0) in
      let fine = (formed rs table s h path r two.0).1 in
      let begins : starts_with ◌==◌ (key_of r) (start_of s path n ++ 46 ∷ 42 ∷ []) ≡ true = sym (ap (starts_with ◌==◌ (key_of r)) (append_assoc (start_of s path n) (46 ∷ []) (42 ∷ []))) ∙ one.1 in
      let done = star_ends (written 46 r.source) (start_of s path n) r.below (starless r.source fine) begins in
      record {
        there = contained rs r two.0;
        below = done.0;
        spelled = key_path s h r fine (take n path) (ap (λ (t : Text). t ++ wanted_tail r.below) done.1);
        ends = ends;
      }

  -- where none of them goes on so, none ends there
  pub none_starred : (n : ℕ) (dotted starred : List Renaming) → dotted ≡ filter (λ (r : Renaming). starts_with ◌==◌ (key_of r) (start_of s path n ++ 46 ∷ [])) rs → starred ≡ filter (λ (r : Renaming). starts_with ◌==◌ (key_of r) ((start_of s path n ++ 46 ∷ []) ++ 42 ∷ [])) dotted → starred ≡ [] → NoneEnds rs s path n
  none_starred n dotted starred dots stars none r at =
      let key = key_here n r at in
      let twice : starts_with ◌==◌ (key_of r) ((start_of s path n ++ 46 ∷ []) ++ 42 ∷ []) ≡ true =
      ap (λ (t : Text). starts_with ◌==◌ t ((start_of s path n ++ 46 ∷ []) ++ 42 ∷ [])) (key ∙ sym (append_assoc (start_of s path n) (46 ∷ []) (42 ∷ [])) ∙ sym (append-nil _))
      ∙ begins_itself ((start_of s path n ++ 46 ∷ []) ++ 42 ∷ []) [] in
      let one : In dotted r = subst (λ (xs : List Renaming). In xs r) (sym dots) (in_filter (λ (r : Renaming). starts_with ◌==◌ (key_of r) (start_of s path n ++ 46 ∷ [])) rs r (one_of rs r at.there) (begins_front (key_of r) (start_of s path n ++ 46 ∷ []) (42 ∷ []) twice)) in
      subst (λ (xs : List Renaming). In xs r) (sym stars ∙ none) (in_filter (λ (r : Renaming). starts_with ◌==◌ (key_of r) ((start_of s path n ++ 46 ∷ []) ++ 42 ∷ [])) dotted r one twice)

  -- what ends at a place among all is left there, and the other way round
  pub ends_left : (n : ℕ) (rest : List Renaming) → IsLeftAt rs s path n rest → (r : Renaming) → EndsBelow rs s path n r → EndsBelow rest s path n r
  ends_left n rest known r at = record {
    there = contained rest r (subst (λ (xs : List Renaming). In xs r) (sym known.left) (in_filter (λ (r : Renaming). starts_with ◌==◌ (key_of r) (start_of s path n)) rs r (one_of rs r at.there) (key_begins n r at)));
    below = at.below;
    spelled = at.spelled;
    ends = at.ends;
  }

  pub left_ends : (n : ℕ) (rest : List Renaming) → IsLeftAt rs s path n rest → (r : Renaming) → EndsBelow rest s path n r → EndsBelow rs s path n r
  left_ends n rest known r at = record {
    there = contained rs r (from_filter (λ (r : Renaming). starts_with ◌==◌ (key_of r) (start_of s path n)) rs r (subst (λ (xs : List Renaming). In xs r) known.left (one_of rest r at.there))).0;
    below = at.below;
    spelled = at.spelled;
    ends = at.ends;
  }

  -- where none is left, none ends there or later
  pub none_later : (n : ℕ) (rest : List Renaming) → IsLeftAt rs s path n rest → rest ≡ [] → (m : ℕ) → n ≤ m → NoneEnds rs s path m
  none_later n rest known none m le r at =
      subst (λ (xs : List Renaming). In xs r) (sym known.left ∙ none)
      (in_filter (λ (r : Renaming). starts_with ◌==◌ (key_of r) (start_of s path n)) rs r (one_of rs r at.there) (less_begins s path (key_of r) n m le (key_begins m r at)))

-- Class names that were found, told apart by their marks.
use Rattle.std.proofs.Common.{◌≡◌, inl, inr, ℕ, ◌+◌, ◌<◌, ◌≤◌, Bool, true, false, cond, not, ◌==◌, ◌&&◌, ◌||◌, List, [], ◌∷◌, ◌++◌, length, drop, get_or, drop-cons, add-one, refl, sym, ap, ap₂, subst, ◌∙◌, arith}
use Rattle.std.specs.List.{list_any}
use Rattle.std.specs.Str.{bytes_eq}
use Rattle.std.proofs.lemmas.Bool.{and_parts, eq-eqb, cases_lt}
use Rattle.std.proofs.lemmas.List.{drop_all, length-append, drop-append-le}
use Rattle.std.proofs.lemmas.Slice.Eq.{bytes_eq-Decides}
use Rattle.std.specs.declared.cmp.Ordering.TheVariants.{Equal}
use Rattle.std.specs.Ordering.{nat_cmp, eq_by_cmp, is_eq}
use Rattle.std.specs.Cmp.Lexicographic.{slice_cmp}
use Rattle.std.specs.BTreeSet.{BTreeSet, Updates, contains}
use Rattle.std.proofs.lemmas.Cmp.{nat_list_cmp_total, tied_itself}
use Rattle.std.proofs.lemmas.Map.Lookups.{exact_bytes}
use Rattle.std.proofs.lemmas.Map.Views.{tells_apart}
use denote.Ref.{Bor}
use mathlib.Core.Bool.{or-false, or_assoc}
use Rattle.desk_base.specs.Names.{Text}
use Rattle.desk_base.proofs.Bools.{same_answer}
use Rattle.desk_class.specs.Held.{is_held, found_all}
use Rattle.desk_class.specs.Found.{texts, AreFound, AreMarks, is_told, AreTold}
use Rattle.desk_class.specs.Marks.{mark, marked_cmp}
use Rattle.desk_class.specs.MarkOrder.{same_of_tie, tie_of_same}
use Rattle.desk_class.proofs.Sets.{is_held-append}
use Rattle.desk_class.proofs.Once.{found_there, found_new}
use Rattle.desk_class.proofs.Packing.{get_map}

same_text : (s t : Text) → is_eq (slice_cmp nat_cmp s t) ≡ true → s ≡ t
same_text s t e = tells_apart exact_bytes s t e

tied : (t : Text) → slice_cmp nat_cmp t t ≡ Equal
tied t = tied_itself nat_list_cmp_total t

-- the order by marks ties what byte order ties
alike : (s t : Text) → eq_by_cmp marked_cmp s t ≡ eq_by_cmp (slice_cmp nat_cmp) t s
alike s t =
    same_answer (eq_by_cmp marked_cmp s t) (eq_by_cmp (slice_cmp nat_cmp) t s)
    (λ e. ap is_eq (ap (slice_cmp nat_cmp t) (same_of_tie s t e) ∙ tied t))
    (λ e. tie_of_same s t (sym (same_text t s e)))

cond-or : (a x : Bool) → cond a true x ≡ (x || a)
cond-or true true = refl
cond-or true false = refl
cond-or false true = refl
cond-or false false = refl

-- ---- the first names

-- a name stands at a place with its mark
at_place : (m k : ℕ) (t q : Text) → m ≡ mark t → k ≡ mark q → (m == k && bytes_eq t q) ≡ eq_by_cmp (slice_cmp nat_cmp) q t
at_place m k t q marked is =
    same_answer (m == k && bytes_eq t q) (eq_by_cmp (slice_cmp nat_cmp) q t)
    (λ e. ap is_eq (ap (slice_cmp nat_cmp q) ((bytes_eq-Decides t q).0 (and_parts _ _ e).1) ∙ tied q))
    (λ e.
    let same : t ≡ q = sym (same_text q t e) in
    ap₂ (λ (a b : Bool). a && b) (eq-eqb m k (marked ∙ ap mark same ∙ sym is)) ((bytes_eq-Decides t q).1 same))

-- a name is one of the first, or stands behind them
held_split : (ms : List ℕ) (ts : List Text) (k : ℕ) (q : Text) → k ≡ mark q → AreMarks ms ts → is_held ts q ≡ (is_told ms ts k q || is_held (drop (length ms) ts) q)
held_split [] ts k q is h = refl
held_split (m ∷ ms) [] k q is h = absurd h
held_split (m ∷ ms) (t ∷ ts) k q is h =
    ap₂ (λ (a b : Bool). a || b) (sym (at_place m k t q h.0 is)) (held_split ms ts k q is h.1)
    ∙ sym (or_assoc (m == k && bytes_eq t q) (is_told ms ts k q) (is_held (drop (length ms) ts) q))

no_more_marks : (ms : List ℕ) (ts : List Text) → AreMarks ms ts → length ms ≤ length ts
no_more_marks [] ts h = omega arith
no_more_marks (m ∷ ms) [] h = absurd h
no_more_marks (m ∷ ms) (t ∷ ts) h = let n : length ms ≤ length ts = no_more_marks ms ts h.1 in omega (arith, n)

marks_stay : (ms : List ℕ) (ts us : List Text) → AreMarks ms ts → AreMarks ms (ts ++ us)
marks_stay [] ts us h = tt
marks_stay (m ∷ ms) [] us h = absurd h
marks_stay (m ∷ ms) (t ∷ ts) us h = (h.0, marks_stay ms ts us h.1)

marks_push : (ms : List ℕ) (ts : List Text) (m : ℕ) (t : Text) → length ms ≡ length ts → m ≡ mark t → AreMarks ms ts → AreMarks (ms ++ m ∷ []) (ts ++ t ∷ [])
marks_push [] [] m t e is h = (is, tt)
marks_push [] (u ∷ ts) m t e is h = absurd (omega (arith, e))
marks_push (n ∷ ms) [] m t e is h = absurd h
marks_push (n ∷ ms) (u ∷ ts) m t e is h = (h.0, marks_push ms ts m t (omega (arith, e)) is h.1)

-- ---- a look through the first names

-- what is told at a place, and behind it
told_at : (ms : List ℕ) (ts : List Text) (k : ℕ) (q : Text) (i : ℕ) → i < length ms → i < length ts
    → is_told (drop i ms) (drop i ts) k q ≡ ((get_or ms i 0 == k && bytes_eq (get_or ts i []) q) || is_told (drop (i + 1) ms) (drop (i + 1) ts) k q)
told_at ms ts k q i h l =
    ap₂ (λ (xs : List ℕ) (ys : List Text). is_told xs ys k q) (drop-cons ms i 0 h) (drop-cons ts i [] l)
    ∙ ap₂ (λ (xs : List ℕ) (ys : List Text). (get_or ms i 0 == k && bytes_eq (get_or ts i []) q) || is_told xs ys k q)
    (ap (λ (n : ℕ). drop n ms) (sym (add-one i))) (ap (λ (n : ℕ). drop n ts) (sym (add-one i)))

-- nothing is told behind the names
told_none : (ms : List ℕ) (k : ℕ) (q : Text) → is_told ms [] k q ≡ false
told_none [] k q = refl
told_none (m ∷ ms) k q = refl

told_end : (ms : List ℕ) (ts : List Text) (k : ℕ) (q : Text) (i : ℕ) → length ts ≤ i → is_told (drop i ms) (drop i ts) k q ≡ false
told_end ms ts k q i le = ap (λ (ys : List Text). is_told (drop i ms) ys k q) (drop_all i ts le) ∙ told_none (drop i ms) k q

-- what is looked for stands at a place
pub told_here : (ms : List ℕ) (ts : List Text) (k : ℕ) (q : Text) (i : ℕ) → i < length ms → i < length ts → get_or ms i 0 ≡ k → get_or ts i [] ≡ q
    → is_told (drop i ms) (drop i ts) k q ≡ is_told ms ts k q → true ≡ is_told ms ts k q
told_here ms ts k q i h l mark_is name_is before =
    sym (ap (λ (b : Bool). b || is_told (drop (i + 1) ms) (drop (i + 1) ts) k q) (ap₂ (λ (a b : Bool). a && b) (eq-eqb (get_or ms i 0) k mark_is) ((bytes_eq-Decides (get_or ts i []) q).1 name_is)))
    ∙ sym (told_at ms ts k q i h l) ∙ before

-- or it doesn't
pub told_on : (ms : List ℕ) (ts : List Text) (k : ℕ) (q : Text) (i : ℕ) → i < length ms → (i < length ts → (get_or ms i 0 == k && bytes_eq (get_or ts i []) q) ≡ false)
    → is_told (drop i ms) (drop i ts) k q ≡ is_told ms ts k q → is_told (drop (i + 1) ms) (drop (i + 1) ts) k q ≡ is_told ms ts k q
told_on ms ts k q i h other before = elim (cases_lt i (length ts)) [
  | inl l ↦ ap (λ (b : Bool). b || is_told (drop (i + 1) ms) (drop (i + 1) ts) k q) (sym (other l)) ∙ sym (told_at ms ts k q i h l) ∙ before
  | inr le ↦ told_end ms ts k q (i + 1) (omega (arith, le)) ∙ sym (told_end ms ts k q i le) ∙ before
]

-- ---- a name that is added

-- a name that was there
name_stays : (names : List Text) (s n : BTreeSet Text) → n.keys ≡ s.keys → AreFound names s → AreFound names n
name_stays names s n e h q = ap (list_any (λ t. is_eq (marked_cmp q t))) e ∙ h q

-- a name that is new
name_added : (names : List Text) (t : Text) (s n : BTreeSet Text) → Updates marked_cmp s n t true → AreFound names s → AreFound (names ++ t ∷ []) n
name_added names t s n u h q =
    u.0 q ∙ cond-or (eq_by_cmp marked_cmp t q) (contains marked_cmp s q)
    ∙ ap₂ (λ (a b : Bool). a || b) (h q) (alike t q ∙ sym (or-false (eq_by_cmp (slice_cmp nat_cmp) q t)))
    ∙ sym (is_held-append names (t ∷ []) q)

turned : (a b : Bool) → not a ≡ b → a ≡ not b
turned true b e = ap not e
turned false b e = ap not e

-- ---- behind a call that put the name

abbrev pub Borrowed : Type 0
Borrowed = Bor (List ℕ)

-- the name at a place
pub name_at : (names : List Borrowed) (i : ℕ) (d : Borrowed) → i < length names → get_or (texts names) i [] ≡ (get_or names i d).now
name_at names i d within = sym (get_map (λ (n : Borrowed). n.now) names i d [] within)

texts_push : (xs : List Borrowed) (x : Borrowed) → texts (xs ++ x ∷ []) ≡ texts xs ++ x.now ∷ []
texts_push [] x = refl
texts_push (y ∷ xs) x = ap (λ (ts : List Text). y.now ∷ ts) (texts_push xs x)

put : (xs ys zs : List Borrowed) (x : Borrowed) → ys ≡ xs → zs ≡ ys ++ x ∷ [] → texts zs ≡ texts xs ++ x.now ∷ []
put xs ys zs x same more = ap texts more ∙ ap (λ (us : List Borrowed). texts (us ++ x ∷ [])) same ∙ texts_push xs x

-- what a name that is added is told by
module _ (few : ℕ) (xs : List Borrowed) (ms : List ℕ) (s : BTreeSet Text) (x : Borrowed) (k : ℕ) (is : k ≡ mark x.now) (h : AreTold few (texts xs) ms s) where
  held_is : is_held (texts xs) x.now ≡ (is_told ms (texts xs) k x.now || contains marked_cmp s x.now)
  held_is = held_split ms (texts xs) k x.now is h.marked ∙ ap (λ (b : Bool). is_told ms (texts xs) k x.now || b) (sym (h.found x.now))

  -- one of the first
  pub first_there : is_told ms (texts xs) k x.now ≡ true → texts xs ≡ found_all (texts xs) (x.now ∷ [])
  first_there e = sym (found_there (texts xs) x.now (held_is ∙ ap (λ (b : Bool). b || contains marked_cmp s x.now) e))

  -- one of those behind them
  pub behind_there : is_told ms (texts xs) k x.now ≡ false → false ≡ not (contains marked_cmp s x.now) → texts xs ≡ found_all (texts xs) (x.now ∷ [])
  behind_there e o = sym (found_there (texts xs) x.now (held_is ∙ ap₂ (λ (a b : Bool). a || b) e (turned (contains marked_cmp s x.now) false (sym o))))

  pub stays_told : (n : BTreeSet Text) (ys : List Borrowed) → ys ≡ xs → n.keys ≡ s.keys → AreTold few (texts ys) ms n
  stays_told n ys same e =
      subst (λ (zs : List Borrowed). AreTold few (texts zs) ms n) (sym same) (record { marked = h.marked; found = name_stays (drop (length ms) (texts xs)) s n e h.found; first = h.first })

  -- another one, behind them
  pub behind_told : (n : BTreeSet Text) (ys zs : List Borrowed) → few ≤ length ms → ys ≡ xs → zs ≡ ys ++ x ∷ [] → Updates marked_cmp s n x.now true → AreTold few (texts zs) ms n
  behind_told n ys zs all same more u =
      let where_it_is : drop (length ms) (texts xs ++ x.now ∷ []) ≡ drop (length ms) (texts xs) ++ x.now ∷ [] = drop-append-le (length ms) (texts xs) (x.now ∷ []) (no_more_marks ms (texts xs) h.marked) in
      subst (λ (ts : List Text). AreTold few ts ms n) (sym (put xs ys zs x same more))
      (record {
        marked = marks_stay ms (texts xs) (x.now ∷ []) h.marked;
        found = subst (λ (ts : List Text). AreFound ts n) (sym where_it_is) (name_added (drop (length ms) (texts xs)) x.now s n u h.found);
        first = λ lt. absurd (omega (arith, all, lt));
      })

  pub behind_added : (ys zs : List Borrowed) → ys ≡ xs → zs ≡ ys ++ x ∷ [] → is_told ms (texts xs) k x.now ≡ false → true ≡ not (contains marked_cmp s x.now) → texts zs ≡ found_all (texts xs) (x.now ∷ [])
  behind_added ys zs same more e o =
      put xs ys zs x same more
      ∙ sym (found_new (texts xs) x.now (held_is ∙ ap₂ (λ (a b : Bool). a || b) e (turned (contains marked_cmp s x.now) true (sym o))))

  -- another one of the first
  none_behind : length ms < few → drop (length ms) (texts xs) ≡ []
  none_behind lt = drop_all (length ms) (texts xs) (omega (arith, h.first lt))

  pub first_told : (ms' : List ℕ) (ys zs : List Borrowed) → length ms < few → ys ≡ xs → zs ≡ ys ++ x ∷ [] → ms' ≡ ms ++ k ∷ [] → AreTold few (texts zs) ms' s
  first_told ms' ys zs lt same more marks =
      let longer : length ms' ≡ length ms + 1 = ap length marks ∙ length-append ms (k ∷ []) in
      let names : texts zs ≡ texts xs ++ x.now ∷ [] = put xs ys zs x same more in
      let both : length ms' ≡ length (texts zs) = longer ∙ ap (λ (n : ℕ). n + 1) (h.first lt) ∙ sym (length-append (texts xs) (x.now ∷ [])) ∙ ap length (sym names) in
      record {
        marked = subst (λ (ts : List Text). AreMarks ms' ts) (sym names) (subst (λ (ns : List ℕ). AreMarks ns (texts xs ++ x.now ∷ [])) (sym marks) (marks_push ms (texts xs) k x.now (h.first lt) is h.marked));
        found = subst (λ (ts : List Text). AreFound ts s) (none_behind lt ∙ sym (drop_all (length ms') (texts zs) (omega (arith, both)))) h.found;
        first = λ l. both;
      }

  pub first_added : (ys zs : List Borrowed) → length ms < few → ys ≡ xs → zs ≡ ys ++ x ∷ [] → is_told ms (texts xs) k x.now ≡ false → texts zs ≡ found_all (texts xs) (x.now ∷ [])
  first_added ys zs lt same more e =
      put xs ys zs x same more
      ∙ sym (found_new (texts xs) x.now (held_split ms (texts xs) k x.now is h.marked ∙ ap₂ (λ (a : Bool) (ts : List Text). a || is_held ts x.now) e (none_behind lt)))

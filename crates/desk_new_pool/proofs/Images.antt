-- The images that are sought, from the last use to the first.
use mathlib.Core.Bool.{or_self_left}
use Rattle.std.proofs.Common.{◌≡◌, ℕ, zero, suc, ◌-◌, ◌<◌, ◌%◌, Bool, true, false, cond, ◌||◌, List, [], ◌∷◌, map, length, get_or, set, drop, Option, Some, None, refl, ap, ap₂, sym, ◌∙◌, bytes_eq, inl, inr, get_or-set_same, get_or-set_other, arith}
use denote.Ref.{Bor}
use Rattle.std.specs.List.{slice_get, list_any}
use Rattle.std.specs.Option.{option_copied}
use Rattle.std.specs.Ordering.{nat_cmp, is_lt, is_eq, match_ordering}
use Rattle.std.specs.declared.cmp.Ordering.{Ordering}
use Rattle.std.specs.declared.cmp.Ordering.TheVariants.{Less, Equal, Greater}
use Rattle.std.specs.Cmp.Lexicographic.{slice_cmp}
use Rattle.std.specs.BTreeMap.{is_at}
use Rattle.std.specs.BTreeSet.{BTreeSet, contains_by, insert_key}
use Rattle.std.proofs.lemmas.Bool.{cases_order, or_right}
use Rattle.std.proofs.lemmas.List.{length-set}
use Rattle.std.proofs.lemmas.Map.Text.{is_eq-slice_cmp}
use Rattle.std.proofs.lemmas.Cmp.{nat_list_eq_equiv}
use Rattle.std.proofs.lemmas.Slice.Eq.{bytes_eq-Decides}
use Rattle.desk_base.specs.Names.{Text}
use Rattle.desk_format.specs.Split.{add, holds}
use Rattle.desk_new_pool.specs.Places.{not_kept, in_set}
use Rattle.desk_new_pool.specs.Sought.{with_sought, sought_among, has_length, KnowsLengths}
use Rattle.desk_new_pool.specs.declared.wants.WantedText.{WantedText}
use Rattle.desk_new_pool.proofs.Long.{from_place}

-- ---- a text put into a set

put_by : (r : Ordering) (k s : Bor Text) (ks rest : List (Bor Text)) (more : List Text) → is_eq r ≡ bytes_eq s.now k.now → map (λ x. x.now) rest ≡ more
    → map (λ x. x.now) (match_ordering r (k ∷ (s ∷ ks)) (s ∷ ks) (s ∷ rest)) ≡ cond (bytes_eq s.now k.now) (s.now ∷ map (λ x. x.now) ks) (cond (is_lt r) (k.now ∷ (s.now ∷ map (λ x. x.now) ks)) (s.now ∷ more))
put_by Less k s ks rest more e h = rw (← e) refl
put_by Equal k s ks rest more e h = rw (← e) refl
put_by Greater k s ks rest more e h = rw (← e) (ap (λ (l : List Text). s.now ∷ l) h)

put : (ks : List (Bor Text)) (k : Bor Text) → map (λ x. x.now) (insert_key (λ x y. slice_cmp nat_cmp x.now y.now) ks k) ≡ add k.now (map (λ x. x.now) ks)
put [] k = refl
put (s ∷ ks) k =
    put_by (slice_cmp nat_cmp k.now s.now) k s ks (insert_key (λ x y. slice_cmp nat_cmp x.now y.now) ks k) (add k.now (map (λ x. x.now) ks)) (is_eq-slice_cmp k.now s.now ∙ nat_list_eq_equiv.symm k.now s.now) (put ks k)

pub set_put : (s n : BTreeSet (Bor Text)) (k : Bor Text) → n.keys ≡ insert_key (λ x y. slice_cmp nat_cmp x.now y.now) s.keys k → in_set n ≡ add k.now (in_set s)
set_put s n k e = ap (λ (ks : List (Bor Text)). map (λ x. x.now) ks) e ∙ put s.keys k

-- ---- which texts a set has

has_by : (t : Text) (ks : List (Bor Text)) → list_any (is_at (λ (k : Bor Text). slice_cmp nat_cmp t k.now)) ks ≡ holds (map (λ k. k.now) ks) t
has_by t [] = refl
has_by t (k ∷ ks) = ap₂ (λ (x y : Bool). x || y) (is_eq-slice_cmp t k.now ∙ nat_list_eq_equiv.symm t k.now) (has_by t ks)

pub set_has : (s : BTreeSet (Bor Text)) (t : Text) → contains_by (λ k. slice_cmp nat_cmp t k.now) s ≡ holds (in_set s) t
set_has s t = has_by t s.keys

swapped : (a b c : Bool) → (a || (b || c)) ≡ (b || (a || c))
swapped true true c = refl
swapped true false c = refl
swapped false b c = refl

holds_by : (same less : Bool) (t s u : Text) (ss : List Text) → bytes_eq s t ≡ same → holds (add t ss) u ≡ (bytes_eq t u || holds ss u)
    → holds (cond same (s ∷ ss) (cond less (t ∷ (s ∷ ss)) (s ∷ add t ss))) u ≡ (bytes_eq t u || (bytes_eq s u || holds ss u))
holds_by true less t s u ss p h =
    let is : s ≡ t = (bytes_eq-Decides s t).0 p in
    sym (or_self_left (bytes_eq s u) (holds ss u)) ∙ ap (λ (x : Text). bytes_eq x u || (bytes_eq s u || holds ss u)) is
holds_by false true t s u ss p h = refl
holds_by false false t s u ss p h = ap (λ (x : Bool). bytes_eq s u || x) h ∙ swapped (bytes_eq s u) (bytes_eq t u) (holds ss u)

holds-add : (t u : Text) (ss : List Text) → holds (add t ss) u ≡ (bytes_eq t u || holds ss u)
holds-add t u [] = refl
holds-add t u (s ∷ ss) = holds_by (bytes_eq s t) (is_lt (slice_cmp nat_cmp t s)) t s u ss refl (holds-add t u ss)

pub holds_first : (t : Text) (ss : List Text) → holds (t ∷ ss) t ≡ true
holds_first t ss = ap (λ (b : Bool). b || holds ss t) ((bytes_eq-Decides t t).1 refl)

-- ---- lengths

length_by : (table : List Bool) (ts : List Text) (t u : Text) (same : Bool) → KnowsLengths table ts → bytes_eq t u ≡ same → (same || holds ts u) ≡ true → has_length (set table (length t % 256) true) u ≡ true
length_by table ts t u true k e h =
    let is : u ≡ t = sym ((bytes_eq-Decides t u).0 e) in
    ap (has_length (set table (length t % 256) true)) is ∙ get_or-set_same table (length t % 256) true false (omega (arith, k.count))
length_by table ts t u false k e h = elim (cases_order (length u % 256) (length t % 256)) [
  | inl same ↦ ap (λ (n : ℕ). get_or (set table (length t % 256) true) n false) same ∙ get_or-set_same table (length t % 256) true false (omega (arith, k.count))
  | inr apart ↦ get_or-set_other table (length t % 256) (length u % 256) true false (λ e. elim apart [ inl lt ↦ omega arith | inr gt ↦ omega arith ]) ∙ k.known u h
]

pub length_put : (table : List Bool) (ts new : List Text) (t : Text) → new ≡ add t ts → KnowsLengths table ts → KnowsLengths (set table (length t % 256) true) new
length_put table ts new t e k = record {
  count = length-set table (length t % 256) true ∙ k.count;
  known = λ u h. length_by table ts t u (bytes_eq t u) k refl (sym (holds-add t u ts) ∙ sym (ap (λ (l : List Text). holds l u) e) ∙ h);
}

-- ---- one use before the others

-- a text that isn't there
pub never_there : (o : Option (Bor Text)) → ((t : Bor Text) → o ≡ Some t → ⊥) → option_copied o ≡ None
never_there None h = refl
never_there (Some t) h = absurd (h t refl)

module _ (texts : List (Option (Bor Text))) (ws : List WantedText) (p : ℕ) (w : WantedText) (pos : 0 < p) (at : slice_get ws (p - 1) ≡ Some w) where
  sought_step : (o : Option Text) → o ≡ not_kept texts w → sought_among texts (drop (p - 1) ws) ≡ with_sought o (sought_among texts (drop p ws))
  sought_step o is = ap (sought_among texts) (from_place ws p w pos at) ∙ ap (λ (x : Option Text). with_sought x (sought_among texts (drop p ws))) (sym is)

  pub sought_put : (t : Text) (old new : List Text) → Some t ≡ not_kept texts w → old ≡ sought_among texts (drop p ws) → new ≡ add t old → new ≡ sought_among texts (drop (p - 1) ws)
  sought_put t old new is h e = e ∙ ap (add t) h ∙ sym (sought_step (Some t) is)

  -- a use whose entry keeps its image
  pub sought_passed : (old : List Text) → None ≡ not_kept texts w → old ≡ sought_among texts (drop p ws) → old ≡ sought_among texts (drop (p - 1) ws)
  sought_passed old is h = h ∙ sym (sought_step None is)

-- ---- each image of a use whose entry keeps another text

stays : (o : Option Text) (ts : List Text) (t : Text) → holds ts t ≡ true → holds (with_sought o ts) t ≡ true
stays None ts t h = h
stays (Some s) ts t h = holds-add s t ts ∙ or_right (bytes_eq s t) (holds ts t) h

pub sought_there : (texts : List (Option (Bor Text))) (ws : List WantedText) (i : ℕ) (d : WantedText) (t : Text) → i < length ws → not_kept texts (get_or ws i d) ≡ Some t → holds (sought_among texts ws) t ≡ true
sought_there texts [] i d t lt e = absurd (omega arith)
sought_there texts (w ∷ ws) zero d t lt e = ap (λ (o : Option Text). holds (with_sought o (sought_among texts ws)) t) e ∙ holds-add t t (sought_among texts ws) ∙ holds_first t (sought_among texts ws)
sought_there texts (w ∷ ws) (suc i) d t lt e = stays (not_kept texts w) (sought_among texts ws) t (sought_there texts ws i d t (omega arith) e)

-- The missing texts ascend, and are those that are wanted and not kept.
use mathlib.Core.Bool.{and-false, or_self_left}
use Rattle.std.proofs.Common.{◌≡◌, Bool, true, false, not, cond, ◌&&◌, ◌||◌, List, [], ◌∷◌, bytes_eq, refl, sym, ap, ◌∙◌}
use Rattle.std.specs.Ordering.{nat_cmp, is_lt, is_eq, ordering_reverse}
use Rattle.std.specs.declared.cmp.Ordering.{Ordering}
use Rattle.std.specs.declared.cmp.Ordering.TheVariants.{Less, Equal, Greater}
use Rattle.std.specs.Cmp.{IsTotalOrder}
use Rattle.std.specs.Cmp.Lexicographic.{slice_cmp}
use Rattle.std.proofs.lemmas.Cmp.{nat_list_cmp_total}
use Rattle.std.proofs.lemmas.Map.Text.{is_eq-slice_cmp}
use Rattle.std.proofs.lemmas.Slice.Eq.{bytes_eq-Decides}
use Rattle.desk_base.specs.Names.{Text}
use Rattle.desk_base.specs.Entries.{Pool}
use Rattle.desk_base.proofs.Orderings.{less_is}
use Rattle.desk_format.specs.Split.{Want, holds, has_text, kept, add, missing}
use Rattle.desk_format.specs.NewPool.{wants}
use Rattle.desk_laws.specs.Missing.{Before, IsAscending, is_wanted, MissingTexts}

abbrev order : Text → Text → Ordering
order s t = slice_cmp nat_cmp s t

-- ---- order

turned : (r : Ordering) (s t : Text) → order t s ≡ r → is_lt r ≡ false → bytes_eq s t ≡ false → order s t ≡ ordering_reverse r → order s t ≡ Less
turned Less s t e lt ne back = absurd cc
turned Equal s t e lt ne back = let same : is_eq (order s t) ≡ true = ap is_eq back in let no : is_eq (order s t) ≡ false = is_eq-slice_cmp s t ∙ ne in absurd cc
turned Greater s t e lt ne back = back

other_way : (s t : Text) → bytes_eq s t ≡ false → is_lt (order t s) ≡ false → order s t ≡ Less
other_way s t ne lt =
    let total : IsTotalOrder order = nat_list_cmp_total in
    turned (order t s) s t refl lt ne (total.antisymm s t)

before_by : (same less : Bool) (s t u : Text) (us : List Text) → order s t ≡ Less → order s u ≡ Less → Before s (cond same (u ∷ us) (cond less (t ∷ (u ∷ us)) (u ∷ add t us)))
before_by true less s t u us a b = b
before_by false true s t u us a b = a
before_by false false s t u us a b = b

before_add : (s t : Text) (us : List Text) → order s t ≡ Less → Before s us → Before s (add t us)
before_add s t [] a b = a
before_add s t (u ∷ us) a b = before_by (bytes_eq u t) (is_lt (order t u)) s t u us a b

ascending_by : (same less : Bool) (t s : Text) (ss : List Text) → bytes_eq s t ≡ same → is_lt (order t s) ≡ less → Before s ss → IsAscending ss → IsAscending (add t ss) → IsAscending (cond same (s ∷ ss) (cond less (t ∷ (s ∷ ss)) (s ∷ add t ss)))
ascending_by true less t s ss p q b h k = (b, h)
ascending_by false true t s ss p q b h k = (less_is (order t s) q, (b, h))
ascending_by false false t s ss p q b h k = (before_add s t ss (other_way s t p q) b, k)

ascending_add : (t : Text) (ss : List Text) → IsAscending ss → IsAscending (add t ss)
ascending_add t [] h = (tt, tt)
ascending_add t (s ∷ ss) h = ascending_by (bytes_eq s t) (is_lt (order t s)) t s ss refl refl h.0 h.1 (ascending_add t ss h.1)

either : (x : Bool) (a b : List Text) → IsAscending a → IsAscending b → IsAscending (cond x a b)
either true a b h k = h
either false a b h k = k

ascending : (pool : Pool) (ws : List Want) → IsAscending (missing pool ws)
ascending pool [] = tt
ascending pool (w ∷ ws) = either (has_text w.text pool) (missing pool ws) (add w.text (missing pool ws)) (ascending pool ws) (ascending_add w.text (missing pool ws) (ascending pool ws))

-- ---- which texts

swapped : (a b c : Bool) → (a || (b || c)) ≡ (b || (a || c))
swapped true true c = refl
swapped true false c = refl
swapped false b c = refl

holds_by : (same less : Bool) (t s u : Text) (ss : List Text) → bytes_eq s t ≡ same → holds (add t ss) u ≡ (bytes_eq t u || holds ss u)
    → holds (cond same (s ∷ ss) (cond less (t ∷ (s ∷ ss)) (s ∷ add t ss))) u ≡ (bytes_eq t u || (bytes_eq s u || holds ss u))
holds_by true less t s u ss p h =
    let is : s ≡ t = (bytes_eq-Decides s t).0 p in
    sym (or_self_left (bytes_eq s u) (holds ss u)) ∙ ap (λ (x : Text). bytes_eq x u || (bytes_eq s u || holds ss u)) is
holds_by false true t s u ss p h = refl
holds_by false false t s u ss p h = ap (λ (x : Bool). bytes_eq s u || x) h ∙ swapped (bytes_eq s u) (bytes_eq t u) (holds ss u)

holds-add : (t u : Text) (ss : List Text) → holds (add t ss) u ≡ (bytes_eq t u || holds ss u)
holds-add t u [] = refl
holds-add t u (s ∷ ss) = holds_by (bytes_eq s t) (is_lt (order t s)) t s u ss refl (holds-add t u ss)

kept_case : (pool : Pool) (t u : Text) (b w : Bool) → has_text t pool ≡ true → bytes_eq t u ≡ b → (w && not (has_text u pool)) ≡ ((b || w) && not (has_text u pool))
kept_case pool t u true w h e =
    let is : t ≡ u = (bytes_eq-Decides t u).0 e in
    let there : has_text u pool ≡ true = ap (λ (x : Text). has_text x pool) (sym is) ∙ h in
    rw there (and-false w)
kept_case pool t u false w h e = refl

added_case : (pool : Pool) (t u : Text) (b w : Bool) → has_text t pool ≡ false → bytes_eq t u ≡ b → (b || (w && not (has_text u pool))) ≡ ((b || w) && not (has_text u pool))
added_case pool t u true w h e =
    let is : t ≡ u = (bytes_eq-Decides t u).0 e in
    let out : has_text u pool ≡ false = ap (λ (x : Text). has_text x pool) (sym is) ∙ h in
    rw out refl
added_case pool t u false w h e = refl

exact_by : (pool : Pool) (w : Want) (ws : List Want) (u : Text) (x : Bool) → has_text w.text pool ≡ x → holds (missing pool ws) u ≡ (is_wanted ws u && not (has_text u pool))
    → holds (cond x (missing pool ws) (add w.text (missing pool ws))) u ≡ ((bytes_eq w.text u || is_wanted ws u) && not (has_text u pool))
exact_by pool w ws u true p h = h ∙ kept_case pool w.text u (bytes_eq w.text u) (is_wanted ws u) p refl
exact_by pool w ws u false p h =
    holds-add w.text u (missing pool ws) ∙ ap (λ (b : Bool). bytes_eq w.text u || b) h ∙ added_case pool w.text u (bytes_eq w.text u) (is_wanted ws u) p refl

exact : (pool : Pool) (ws : List Want) (u : Text) → holds (missing pool ws) u ≡ (is_wanted ws u && not (has_text u pool))
exact pool [] u = refl
exact pool (w ∷ ws) u = exact_by pool w ws u (has_text w.text pool) refl (exact pool ws u)

pub missing_texts : MissingTexts
missing_texts im old us = record {
  ascending = ascending (kept (wants im old us) 1 old) (wants im old us);
  exact = exact (kept (wants im old us) 1 old) (wants im old us);
}

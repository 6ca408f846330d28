-- Where no refusal stands, no wanted text is too long and the pool has room; and back.
use Rattle.std.proofs.Common.{◌≡◌, ℕ, zero, suc, ◌+◌, ◌<◌, ◌≤◌, Bool, true, false, cond, List, [], ◌∷◌, length, Option, Some, None, nat_eq, nat_lt, refl, sym, ap, ◌∙◌, arith, inl, inr}
use Rattle.std.specs.List.{AllByRecursion}
use Rattle.std.proofs.lemmas.Bool.{ltb-false, le-ltb, or_parts}
use Rattle.std.proofs.lemmas.Bool.Decides.{nat_tests}
use Rattle.desk_base.specs.Names.{Text}
use Rattle.desk_base.specs.declared.kinds.Used.{Used}
use Rattle.desk_base.specs.Entries.{Pool, entry_at, utf8}
use Rattle.desk_format.specs.Resolved.{Images}
use Rattle.desk_format.specs.Split.{Want, wanted}
use Rattle.desk_format.specs.NewPool.{wants, want_in_role}
use Rattle.desk_format.specs.NewClass.{Refusal, is_long, any_long, overlong_from, full_at}
use Rattle.desk_laws.specs.Sound.{IsTwoBytes}
use Rattle.desk_laws.proofs.Split.{IsWant}
use Rattle.desk_laws.proofs.Slots.{in_range}
use Rattle.desk_laws.proofs.Moved.{is_utf8}
use Rattle.desk_laws.proofs.Bodies.{NamesText}

short_is : (t : Text) → is_long t ≡ false → IsTwoBytes (length t)
short_is t h = let le : length t ≤ 65535 = ltb-false 65535 (length t) h in omega arith

is_short : (t : Text) → IsTwoBytes (length t) → is_long t ≡ false
is_short t h = le-ltb 65535 (length t) (omega arith)

-- ---- no text is too long

some_none : (x : Bool) (r : Refusal) (o : Option Refusal) → cond x (Some r) o ≡ None → (x ≡ false) × (o ≡ None)
some_none true r o h = absurd cc
some_none false r o h = (refl, h)

each_short : (ws : List Want) (k : ℕ) (pool : Pool) → overlong_from ws k pool ≡ None → (j : ℕ) → j < length pool → any_long (wanted (k + j) ws) ≡ false
each_short ws k [] h j lt = absurd (omega arith)
each_short ws k (slot ∷ slots) h zero lt =
    let s = some_none (any_long (wanted k ws)) _ (overlong_from ws (suc k) slots) h in
    let same : k + 0 ≡ k = omega arith in ap (λ (i : ℕ). any_long (wanted i ws)) same ∙ s.0
each_short ws k (slot ∷ slots) h (suc j) lt =
    let s = some_none (any_long (wanted k ws)) _ (overlong_from ws (suc k) slots) h in
    let same : k + suc j ≡ suc k + j = omega arith in
    ap (λ (i : ℕ). any_long (wanted i ws)) same ∙ each_short ws (suc k) slots s.1 j (omega arith)

head_short : (x : Bool) (t : Text) (ts : List Text) → x ≡ true → any_long (cond x (t ∷ ts) ts) ≡ false → is_long t ≡ false
head_short true t ts p h = let o = or_parts (is_long t) (any_long ts) h in o.0
head_short false t ts p h = absurd cc

tail_short : (x : Bool) (t : Text) (ts : List Text) → any_long (cond x (t ∷ ts) ts) ≡ false → any_long ts ≡ false
tail_short true t ts h = let o = or_parts (is_long t) (any_long ts) h in o.1
tail_short false t ts h = h

want_short : (ws : List Want) (w : Want) → IsWant ws w → any_long (wanted w.index ws) ≡ false → is_long w.text ≡ false
want_short [] w is h = absurd is
want_short (v ∷ vs) w (inl e) h =
    let same : v.index ≡ w.index = ap (λ (x : Want). x.index) e in
    let it : nat_eq v.index w.index ≡ true = grind (arith, nat_tests) in
    ap (λ (x : Want). is_long x.text) (sym e) ∙ head_short (nat_eq v.index w.index) v.text (wanted w.index vs) it h
want_short (v ∷ vs) w (inr is) h = want_short vs w is (tail_short (nat_eq v.index w.index) v.text (wanted w.index vs) h)

-- an index that names a text is one of the pool's
index_short : (ws : List Want) (pool : Pool) (i : ℕ) (t : Text) → overlong_from ws 1 pool ≡ None → entry_at pool i ≡ Some (utf8 t) → any_long (wanted i ws) ≡ false
index_short ws pool zero t h e = absurd cc
index_short ws pool (suc j) t h e =
    let inside : suc j ≤ length pool = in_range pool (suc j) (utf8 t) e in
    let same : suc j ≡ 1 + j = omega arith in
    ap (λ (i : ℕ). any_long (wanted i ws)) same ∙ each_short ws 1 pool h j (omega arith)

-- the wants of uses that are among all
short_among : (im : Images) (old : Pool) (all : List Want) (us : List Used) → overlong_from all 1 old ≡ None → AllByRecursion (NamesText old) us → ((w : Want) → IsWant (wants im old us) w → IsWant all w)
    → AllByRecursion (λ (w : Want). IsTwoBytes (length w.text)) (wants im old us)
short_among im old all [] h n among = tt
short_among im old all (u ∷ us) h n among =
    let p = is_utf8 (entry_at old u.index) n.0 in
    let w : Want = want_in_role im old u.role u.index in
    let short : is_long (want_in_role im old u.role u.index).text ≡ false = want_short all (want_in_role im old u.role u.index) (among (want_in_role im old u.role u.index) (inl refl)) (index_short all old u.index p.0 h p.1) in
    (short_is (want_in_role im old u.role u.index).text short, short_among im old all us h n.1 (λ v is. among v (inr is)))

pub all_short : (im : Images) (old : Pool) (us : List Used) → overlong_from (wants im old us) 1 old ≡ None → AllByRecursion (NamesText old) us → AllByRecursion (λ (w : Want). IsTwoBytes (length w.text)) (wants im old us)
all_short im old us h n = short_among im old (wants im old us) us h n (λ w is. is)

-- ---- and back

wanted_short : (i : ℕ) (ws : List Want) → AllByRecursion (λ (w : Want). IsTwoBytes (length w.text)) ws → any_long (wanted i ws) ≡ false
wanted_short i [] h = refl
wanted_short i (w ∷ ws) h = kept_short (nat_eq w.index i) w.text (wanted i ws) (is_short w.text h.0) (wanted_short i ws h.1)
  where
    kept_short : (x : Bool) (t : Text) (ts : List Text) → is_long t ≡ false → any_long ts ≡ false → any_long (cond x (t ∷ ts) ts) ≡ false
    kept_short true t ts p q = rw (p, q) refl
    kept_short false t ts p q = q

pub none_overlong : (ws : List Want) (k : ℕ) (pool : Pool) → AllByRecursion (λ (w : Want). IsTwoBytes (length w.text)) ws → overlong_from ws k pool ≡ None
none_overlong ws k [] h = refl
none_overlong ws k (slot ∷ slots) h = rw (wanted_short k ws h) (none_overlong ws (suc k) slots h)

-- ---- room

full_by : (x : Bool) (r : Refusal) → cond x (Some r) None ≡ None → x ≡ false
full_by true r h = absurd cc
full_by false r h = refl

pub has_room : (count needed : ℕ) → full_at count needed ≡ None → IsTwoBytes (count + needed)
has_room count needed h = let le : count + needed ≤ 65535 = ltb-false 65535 (count + needed) (full_by (nat_lt 65535 (count + needed)) _ h) in omega arith

pub not_full : (count needed : ℕ) → IsTwoBytes (count + needed) → full_at count needed ≡ None
not_full count needed h = rw (le-ltb 65535 (count + needed) (omega arith)) refl

-- The contract of the whole, from its parts.
use Rattle.std.proofs.Common.{◌≡◌, ℕ, zero, suc, ◌+◌, ◌<◌, ◌≤◌, Bool, true, false, cond, List, [], ◌∷◌, map, length, Option, Some, None, unwrap_or, Result, Ok, Err, IfOk, IfErr, OnOk, refl, ap, sym, ◌∙◌, nat_eq, ltb, subst, All, arith}
use denote.Ref.{Bor}
use Rattle.std.specs.Option.{option_copied}
use Rattle.std.proofs.lemmas.Bool.{eqb-true, ltb-true, ltb-false}
use Rattle.std.proofs.lemmas.List.Elements.{All-head, All-tail}
use Rattle.desk_base.specs.Names.{Text}
use Rattle.desk_base.specs.Entries.{Entry, utf8, Pool, entry_at, utf8_at, text_at}
use Rattle.desk_base.specs.Misfits.{or_else}
use Rattle.desk_format.specs.Split.{Want, wanted, kept, split, chosen, missing_texts}
use Rattle.desk_format.specs.NewClass.{Refusal, any_long, greatest_length, overlong_from, full_at}
use Rattle.desk_laws.proofs.Slots.{length-kept}
use Rattle.desk_new_pool.specs.Keeps.{TextsAre}
use Rattle.desk_new_pool.specs.Wants.{want_of, wants_of, IsWanted}
use Rattle.desk_new_pool.specs.Places.{missing_among}
use Rattle.desk_new_pool.specs.NewTexts.{Splits}
use Rattle.desk_new_pool.specs.Refusals.{IsLeastLong, pool_refusal, Refuses}
use Rattle.desk_new_pool.specs.declared.wants.WantedText.{WantedText}
use Rattle.desk_new_pool.specs.declared.new_texts.NewTexts.{NewTexts}
use Rattle.desk_new_pool.specs.declared.new_texts.NewPoolFault.{NewPoolFault}
use Rattle.desk_new_pool.proofs.Texts.{text_at-utf8, text_in_range, entry_of_text}
use Rattle.desk_new_pool.proofs.Chosen.{is_split, missed}

-- ---- texts that are too long

record InPool (pool : Pool) (i : ℕ) : Type 0 where
  positive : 1 ≤ i
  within : i ≤ length pool

above_zero : (pool : Pool) (i : ℕ) (e : Entry) → entry_at pool i ≡ Some e → 1 ≤ i
above_zero pool zero e h = absurd cc
above_zero pool (suc i) e h = omega arith

want_in : (pool : Pool) (w : WantedText) → IsWanted pool w → InPool pool w.used.index
want_in pool w h = record {
  positive = above_zero pool w.used.index (utf8 h.names.0) (entry_of_text pool w.used.index h.names.0 h.names.1);
  within = text_in_range pool w.used.index h.names.0 h.names.1;
}

long_by : (pool : Pool) (w : WantedText) (ts : List Text) (i : ℕ) (b : Bool) → nat_eq w.used.index i ≡ b → IsWanted pool w → any_long (cond b ((want_of pool w).text ∷ ts) ts) ≡ true → (any_long ts ≡ true → InPool pool i) → InPool pool i
long_by pool w ts i true e is h k = subst (InPool pool) (eqb-true w.used.index i e) (want_in pool w is)
long_by pool w ts i false e is h k = k h

long_in : (pool : Pool) (ws : List WantedText) (i : ℕ) → All (IsWanted pool) ws → any_long (wanted i (wants_of pool ws)) ≡ true → InPool pool i
long_in pool [] i all h = absurd cc
long_in pool (w ∷ ws) i all h =
    long_by pool w (wanted i (wants_of pool ws)) i (nat_eq w.used.index i) refl (All-head (IsWanted pool) w ws all) h (long_in pool ws i (All-tail (IsWanted pool) w ws all))

overlong_by : (ws : List Want) (k i : ℕ) (slots : Pool) (b : Bool) → ltb k i ≡ b → k ≤ i → any_long (wanted i ws) ≡ true → ((j : ℕ) → j < i → any_long (wanted j ws) ≡ false)
    → (k < i → overlong_from ws (suc k) slots ≡ Some (Refusal.overlong i (greatest_length (wanted i ws))))
    → cond (any_long (wanted k ws)) (Some (Refusal.overlong k (greatest_length (wanted k ws)))) (overlong_from ws (suc k) slots) ≡ Some (Refusal.overlong i (greatest_length (wanted i ws)))
overlong_by ws k i slots true p le here below h =
    let lt : k < i = ltb-true k i p in
    ap (λ (b : Bool). cond b (Some (Refusal.overlong k (greatest_length (wanted k ws)))) (overlong_from ws (suc k) slots)) (below k lt) ∙ h lt
overlong_by ws k i slots false p le here below h =
    let ge : i ≤ k = ltb-false k i p in
    let same : i ≡ k = omega arith in
    ap (λ (b : Bool). cond b (Some (Refusal.overlong k (greatest_length (wanted k ws)))) (overlong_from ws (suc k) slots)) (ap (λ (n : ℕ). any_long (wanted n ws)) (sym same) ∙ here)
    ∙ ap (λ (n : ℕ). Some (Refusal.overlong n (greatest_length (wanted n ws)))) (sym same)

overlong_at : (ws : List Want) (k i : ℕ) (pool : Pool) → k ≤ i → i < k + length pool → any_long (wanted i ws) ≡ true → ((j : ℕ) → j < i → any_long (wanted j ws) ≡ false)
    → overlong_from ws k pool ≡ Some (Refusal.overlong i (greatest_length (wanted i ws)))
overlong_at ws k i [] le lt here below = absurd (omega arith)
overlong_at ws k i (slot ∷ slots) le lt here below = overlong_by ws k i slots (ltb k i) refl le here below (λ less. overlong_at ws (suc k) i slots (omega arith) (omega arith) here below)

overlong_none : (ws : List Want) (k : ℕ) (pool : Pool) → ((i : ℕ) → any_long (wanted i ws) ≡ false) → overlong_from ws k pool ≡ None
overlong_none ws k [] h = refl
overlong_none ws k (slot ∷ slots) h =
    ap (λ (b : Bool). cond b (Some (Refusal.overlong k (greatest_length (wanted k ws)))) (overlong_from ws (suc k) slots)) (h k) ∙ overlong_none ws (suc k) slots h

pub overlong_is : (pool : Pool) (ws : List WantedText) (i n : ℕ) → All (IsWanted pool) ws → IsLeastLong (wants_of pool ws) (Some i) → n ≡ greatest_length (wanted i (wants_of pool ws)) → pool_refusal pool (wants_of pool ws) ≡ Some (Refusal.overlong i n)
overlong_is pool ws i n all least is =
    let within : InPool pool i = long_in pool ws i all least.0 in
    ap (λ (o : Option Refusal). or_else o (full_at (suc (length pool)) (length (missing_texts (wants_of pool ws) pool))))
    (overlong_at (wants_of pool ws) 1 i pool within.positive (omega (arith, within.within)) least.0 least.1)
    ∙ ap (λ (m : ℕ). Some (Refusal.overlong i m)) (sym is)

own_by : (o : Option (Bor Text)) (d : Bor Text) → d.now ≡ [] → unwrap_or (option_copied o) [] ≡ (unwrap_or o d).now
own_by None d h = sym h
own_by (Some t) d h = refl

pub own_text : (pool : Pool) (i : ℕ) (o : Option (Bor Text)) (d r : Bor Text) → d.now ≡ [] → option_copied o ≡ utf8_at pool i → r ≡ unwrap_or o d → text_at pool i ≡ r.now
own_text pool i o d r e is h = text_at-utf8 pool i ∙ ap (λ (x : Option Text). unwrap_or x []) (sym is) ∙ own_by o d e ∙ ap (λ (x : Bor Text). x.now) (sym h)

-- ---- the refusal where no text is too long

none_there : (ws : List Want) (o : Option ℕ) → ((i : ℕ) → o ≡ Some i → ⊥) → IsLeastLong ws o → (i : ℕ) → any_long (wanted i ws) ≡ false
none_there ws None never h = h
none_there ws (Some i) never h = absurd (never i refl)

pub refusal_is : (pool : Pool) (ws : List WantedText) (old : List (Option (Bor Text))) (o : Option ℕ) → All (IsWanted pool) ws → TextsAre (kept (wants_of pool ws) 1 pool) old → ((i : ℕ) → o ≡ Some i → ⊥) → IsLeastLong (wants_of pool ws) o
    → pool_refusal pool (wants_of pool ws) ≡ full_at (length old) (length (missing_among old ws))
refusal_is pool ws old o all are never least =
    ap (λ (r : Option Refusal). or_else r (full_at (suc (length pool)) (length (missing_texts (wants_of pool ws) pool)))) (overlong_none (wants_of pool ws) 1 pool (none_there (wants_of pool ws) o never least))
    ∙ ap (λ (n : ℕ). full_at n (length (missing_texts (wants_of pool ws) pool))) (sym (are.count ∙ ap (λ (n : ℕ). suc n) (length-kept (wants_of pool ws) 1 pool)))
    ∙ ap (λ (ms : List Text). full_at (length old) (length ms)) (sym (missed pool ws old all are))

-- ---- both outcomes

pub texts_ok : (pool : Pool) (ws : List WantedText) (old : List (Option (Bor Text))) (r : Result NewTexts NewPoolFault) → All (IsWanted pool) ws → TextsAre (kept (wants_of pool ws) 1 pool) old → IfOk r (Splits old ws) → IfOk r (λ new. TextsAre (split (wants_of pool ws) pool) new.texts.items)
texts_ok pool ws old (Ok new) all are h = (is_split pool ws old new all are h).texts
texts_ok pool ws old (Err e) all are h = tt

pub indices_ok : (pool : Pool) (ws : List WantedText) (old : List (Option (Bor Text))) (r : Result NewTexts NewPoolFault) → All (IsWanted pool) ws → TextsAre (kept (wants_of pool ws) 1 pool) old → IfOk r (Splits old ws) → IfOk r (λ new. new.indices.items ≡ map (chosen (split (wants_of pool ws) pool)) (wants_of pool ws))
indices_ok pool ws old (Ok new) all are h = (is_split pool ws old new all are h).indices
indices_ok pool ws old (Err e) all are h = tt

pub accepted_ok : (a b : Option Refusal) (r : Result NewTexts NewPoolFault) → a ≡ b → OnOk r (b ≡ None) → OnOk r (a ≡ None)
accepted_ok a b (Ok new) e h = e ∙ h
accepted_ok a b (Err f) e h = tt

pub refused_err : (a b : Option Refusal) (r : Result NewTexts NewPoolFault) → a ≡ b → IfErr r (λ fault. Refuses fault b) → IfErr r (λ fault. Refuses fault a)
refused_err a b (Ok new) e h = tt
refused_err a b (Err f) e h = subst (Refuses f) (sym e) h

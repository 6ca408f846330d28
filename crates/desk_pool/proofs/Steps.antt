-- Reading slots, one at a time.
use Rattle.std.proofs.Common.{◌≡◌, ℕ, zero, suc, ◌+◌, ◌-◌, ◌<◌, ◌≤◌, Bool, true, false, List, [], ◌∷◌, ◌++◌, Option, Some, None, Result, Ok, Err, refl, sym, ap, subst, ◌∙◌, append_assoc, append-nil, arith, length, length-append}
use Rattle.std.proofs.lemmas.List.{map-append}
use Rattle.desk_base.specs.declared.faults.Malformed.{Malformed}
use Rattle.desk_pool.specs.declared.constant.Constant.{Constant}
use Rattle.desk_base.specs.Entries.{Pool, Entry, is_wide, tag_of}
use Rattle.desk_format.specs.PoolReading.{Got, got, more, goes_on, entry_read, read_slots}
use Rattle.desk_pool.specs.Seen.{slot_of, seen, before}

before-more : (xs : Pool) (e : Option Entry) (r : Result (Got Pool) Malformed) → before (xs ++ e ∷ []) r ≡ before xs (more e r)
before-more xs e (Ok rest) = ap (λ (slots : Pool). Ok (got slots rest.at rest.left)) (append_assoc xs (e ∷ []) rest.value)
before-more xs e (Err f) = refl

pushed : (items items' : List (Option Constant)) (slot : Option Constant) (e : Option Entry) (r : Result (Got Pool) Malformed) → items' ≡ items ++ slot ∷ [] → slot_of slot ≡ e → before (seen items') r ≡ before (seen items) (more e r)
pushed items items' slot e r p q =
    ap (λ (xs : List (Option Constant)). before (seen xs) r) p
    ∙ ap (λ (xs : Pool). before xs r) (map-append slot_of items (slot ∷ []) ∙ ap (λ (x : Option Entry). seen items ++ x ∷ []) q)
    ∙ before-more (seen items) e r

pub all_read : (xs : Pool) (n : ℕ) (second : Bool) (at : ℕ) (s : List ℕ) (total : Result (Got Pool) Malformed) → n ≤ 0 → before xs (read_slots n second at s) ≡ total → total ≡ Ok (got xs at s)
unfolding read_slots
all_read xs zero second at s total le h = sym h ∙ ap (λ (slots : Pool). Ok (got slots at s)) (append-nil xs)
all_read xs (suc n) second at s total le h = absurd (omega arith)

less : (n : ℕ) → suc n - 1 ≡ n
less n = omega arith

pub second_read : (items items' : List (Option Constant)) (slot : Option Constant) (n at : ℕ) (s : List ℕ) (second : Bool) (total : Result (Got Pool) Malformed) → 0 < n → second ≡ true → items' ≡ items ++ slot ∷ [] → slot_of slot ≡ None
    → before (seen items) (read_slots n second at s) ≡ total → before (seen items') (read_slots (n - 1) false at s) ≡ total
unfolding read_slots
second_read items items' slot zero at s second total lt two p q h = absurd (omega arith)
second_read items items' slot (suc n) at s second total lt two p q h =
    ap (λ (m : ℕ). before (seen items') (read_slots m false at s)) (less n)
    ∙ pushed items items' slot None (read_slots n false at s) p q
    ∙ sym (ap (λ (b : Bool). before (seen items) (read_slots (suc n) b at s)) two) ∙ h

pub entry_was_read : (items items' : List (Option Constant)) (slot : Option Constant) (n at : ℕ) (s : List ℕ) (second wide : Bool) (e : Entry) (at' : ℕ) (s' : List ℕ) (total : Result (Got Pool) Malformed) → 0 < n → second ≡ false
    → entry_read (n - 1) at s ≡ Ok (got e at' s') → wide ≡ is_wide (tag_of e) → items' ≡ items ++ slot ∷ [] → slot_of slot ≡ Some e
    → before (seen items) (read_slots n second at s) ≡ total → before (seen items') (read_slots (n - 1) wide at' s') ≡ total
unfolding read_slots
entry_was_read items items' slot zero at s second wide e at' s' total lt one r w p q h = absurd (omega arith)
entry_was_read items items' slot (suc n) at s second wide e at' s' total lt one r w p q h =
    let read : entry_read n at s ≡ Ok (got e at' s') = subst (λ (m : ℕ). entry_read m at s ≡ Ok (got e at' s')) (less n) r in
    let step : read_slots (suc n) false at s ≡ more (Some e) (read_slots n (is_wide (tag_of e)) at' s') = ap (λ (x : Result (Got Entry) Malformed). goes_on x (λ f. read_slots n (is_wide (tag_of f)))) read in
    ap (λ (m : ℕ). before (seen items') (read_slots m wide at' s')) (less n)
    ∙ ap (λ (b : Bool). before (seen items') (read_slots n b at' s')) w
    ∙ pushed items items' slot (Some e) (read_slots n (is_wide (tag_of e)) at' s') p q
    ∙ ap (before (seen items)) (sym step)
    ∙ sym (ap (λ (b : Bool). before (seen items) (read_slots (suc n) b at s)) one) ∙ h

pub entry_failed : (xs : Pool) (n at : ℕ) (s : List ℕ) (second : Bool) (f : Malformed) (total : Result (Got Pool) Malformed) → 0 < n → second ≡ false → entry_read (n - 1) at s ≡ Err f → before xs (read_slots n second at s) ≡ total → total ≡ Err f
unfolding read_slots
entry_failed xs zero at s second f total lt one r h = absurd (omega arith)
entry_failed xs (suc n) at s second f total lt one r h =
    let read : entry_read n at s ≡ Err f = subst (λ (m : ℕ). entry_read m at s ≡ Err f) (less n) r in
    sym h ∙ ap (λ (b : Bool). before xs (read_slots (suc n) b at s)) one ∙ ap (λ (x : Result (Got Entry) Malformed). before xs (goes_on x (λ e. read_slots n (is_wide (tag_of e))))) read

pub one_more : (items items' : List (Option Constant)) (slot : Option Constant) (later count : ℕ) → 0 < later → items' ≡ items ++ slot ∷ [] → length items + later ≡ count → length items' + (later - 1) ≡ count
one_more items items' slot later count lt p h = omega (arith, ap length p, length-append items (slot ∷ []), h)

-- Looking up a slot.
use Rattle.std.proofs.Common.{◌≡◌, ℕ, zero, suc, ◌+◌, ◌-◌, ◌<◌, true, List, ◌∷◌, length, drop, get_or, slice_set, Option, None, nat_lt, refl, sym, ap, subst, ◌∙◌, arith}
use Rattle.std.proofs.lemmas.List.{get_or-map, length-map, at_drop_more}
use Rattle.std.proofs.Math.Seq.{map-set_same}
use borrow.Author.Tests.{ltb-true}
use Rattle.desk_pool.specs.declared.constant.Constant.{Constant}
use Rattle.desk_base.specs.Entries.{Pool, Entry, entry_at}
use Rattle.desk_pool.specs.Seen.{slot_of, seen}

less : (n : ℕ) → suc n - 1 ≡ n
less n = omega arith

pub seen_at : (slots : List (Option Constant)) (i : ℕ) (s : Option Constant) → (i ≡ 0 → ⊥) → true ≡ nat_lt (i - 1) (length slots) → s ≡ get_or slots (i - 1) s → slot_of s ≡ entry_at (seen slots) i
seen_at slots zero s n lt is = absurd (n refl)
seen_at slots (suc j) s n lt is =
    let inside : j < length slots = subst (λ (k : ℕ). k < length slots) (less j) (ltb-true (suc j - 1) (length slots) (sym lt)) in
    let it : s ≡ get_or slots j s = is ∙ ap (λ (k : ℕ). get_or slots k s) (less j) in
    ap slot_of it ∙ sym (get_or-map slot_of slots j s None inside)

-- a slot is replaced by one that is seen alike
pub same_seen : (slots : List (Option Constant)) (i : ℕ) (s t : Option Constant) → s ≡ get_or slots i s → slot_of t ≡ slot_of s → seen (slice_set slots i t) ≡ seen slots
same_seen slots i s t is alike = map-set_same slot_of slots i t s (alike ∙ ap slot_of is)

-- what is left of a pool at a place begins with what the slot there is seen as
pub next_slot : {Y : Type 0} (F : Pool → Y) (slots : List (Option Constant)) (pool : Pool) (i : ℕ) (s : Option Constant) (x : Option Entry) → seen slots ≡ pool → i < length slots → s ≡ get_or slots i s → slot_of s ≡ x → F (drop i pool) ≡ F (x ∷ drop (i + 1) pool)
next_slot F slots pool i s x same lt is as_seen =
    let here : get_or pool i None ≡ x = ap (λ (p : Pool). get_or p i None) (sym same) ∙ get_or-map slot_of slots i s None lt ∙ sym (ap slot_of is) ∙ as_seen in
    let inside : i < length pool = subst (λ (p : Pool). i < length p) same (omega (arith, length-map slots slot_of)) in
    at_drop_more F pool i None inside ∙ ap (λ (y : Option Entry). F (y ∷ drop (i + 1) pool)) here

-- Names in the order in which they first stand, each once.
use Rattle.std.proofs.Common.{◌≡◌, ◌⊎◌, inl, inr, ℕ, ◌<◌, length, get_or, Bool, true, false, List, [], ◌∷◌, ◌++◌, refl, ap, subst, ◌∙◌, if◌then◌else◌}
use Rattle.std.proofs.lemmas.Cmp.{eq_by_cmp_equiv, nat_list_cmp_total}
use Rattle.std.proofs.lemmas.List.{get_or_default}
use Rattle.std.proofs.lemmas.Map.Lookups.{exact_bytes}
use Rattle.std.proofs.lemmas.Map.Views.{tells_apart, Contains-from_any, list_any-from_Contains}
use Rattle.desk_base.specs.Names.{Text}
use Rattle.desk_packages.proofs.Picks.{In}
use Rattle.desk_class.specs.Held.{is_held, found_all, each_once, ascending}
use Rattle.desk_class.proofs.Ascending.{from_contains, to_contains, in_front, in_back, in_either, ascending_sorted, in_ascending, from_ascending, is_ascending}

-- ---- whether a name is there

pub from_held : (names : List Text) (q : Text) → is_held names q ≡ true → In names q
from_held names q h = from_contains names q (Contains-from_any (tells_apart exact_bytes) q names h)

pub to_held : (names : List Text) (q : Text) → In names q → is_held names q ≡ true
to_held names q h = list_any-from_Contains (eq_by_cmp_equiv nat_list_cmp_total) q names (to_contains names q h)

-- ---- names that are added

pub found_append : (s xs ys : List Text) → found_all s (xs ++ ys) ≡ found_all (found_all s xs) ys
found_append s [] ys = refl
found_append s (x ∷ xs) ys = found_append (if is_held s x then s else s ++ x ∷ []) xs ys

-- a name that is there isn't added, and another is
pub found_there : (s : List Text) (t : Text) → is_held s t ≡ true → found_all s (t ∷ []) ≡ s
found_there s t h = ap (λ (b : Bool). if b then s else s ++ t ∷ []) h

pub found_new : (s : List Text) (t : Text) → is_held s t ≡ false → found_all s (t ∷ []) ≡ s ++ t ∷ []
found_new s t h = ap (λ (b : Bool). if b then s else s ++ t ∷ []) h

-- no name is added where all are there
pub absorbed : (s ts : List Text) → ((q : Text) → In ts q → In s q) → found_all s ts ≡ s
absorbed s [] h = refl
absorbed s (t ∷ ts) h =
    ap (λ (b : Bool). found_all (if b then s else s ++ t ∷ []) ts) (to_held s t (h t (inl refl)))
    ∙ absorbed s ts (λ q k. h q (inr k))

step_old : (s : List Text) (t q : Text) (b : Bool) → In s q → In (if b then s else s ++ t ∷ []) q
step_old s t q true h = h
step_old s t q false h = in_front s (t ∷ []) q h

step_new : (s : List Text) (t : Text) (b : Bool) → is_held s t ≡ b → In (if b then s else s ++ t ∷ []) t
step_new s t true e = from_held s t e
step_new s t false e = in_back s (t ∷ []) t (inl refl)

step_only : (s : List Text) (t q : Text) (b : Bool) → In (if b then s else s ++ t ∷ []) q → In s q ⊎ (t ≡ q)
step_only s t q true h = inl h
step_only s t q false h = elim (in_either s (t ∷ []) q h) [
  | inl old ↦ inl old
  | inr new ↦ elim new [ inl e ↦ inr e | inr none ↦ absurd none ]
]

-- names stay, and those that are added are there; no other is
pub found_old : (s ts : List Text) (q : Text) → In s q → In (found_all s ts) q
found_old s [] q h = h
found_old s (t ∷ ts) q h = found_old (if is_held s t then s else s ++ t ∷ []) ts q (step_old s t q (is_held s t) h)

pub found_in : (s ts : List Text) (q : Text) → In ts q → In (found_all s ts) q
found_in s [] q h = absurd h
found_in s (t ∷ ts) q (inl e) = found_old (if is_held s t then s else s ++ t ∷ []) ts q (subst (In (if is_held s t then s else s ++ t ∷ [])) e (step_new s t (is_held s t) refl))
found_in s (t ∷ ts) q (inr h) = found_in (if is_held s t then s else s ++ t ∷ []) ts q h

found_only : (s ts : List Text) (q : Text) → In (found_all s ts) q → In s q ⊎ In ts q
found_only s [] q h = inl h
found_only s (t ∷ ts) q h = elim (found_only (if is_held s t then s else s ++ t ∷ []) ts q h) [
  | inl old ↦ elim (step_only s t q (is_held s t) old) [ inl a ↦ inl a | inr e ↦ inr (inl e) ]
  | inr new ↦ inr (inr new)
]

-- each name once, and names in byte order, are the same names
pub in_once : (ts : List Text) (q : Text) → In ts q → In (each_once ts) q
in_once ts q h = found_in [] ts q h

pub from_once : (ts : List Text) (q : Text) → In (each_once ts) q → In ts q
from_once ts q h = elim (found_only [] ts q h) [ inl none ↦ absurd none | inr h ↦ h ]

pub once_ascending : (ts : List Text) → ascending (each_once ts) ≡ ascending ts
once_ascending ts =
    is_ascending (ascending (each_once ts)) ts (ascending_sorted (each_once ts))
    (λ q. (
      λ c. to_contains ts q (from_once ts q (from_ascending (each_once ts) q (from_contains (ascending (each_once ts)) q c))),
      λ c. to_contains (ascending (each_once ts)) q (in_ascending (each_once ts) q (in_once ts q (from_contains ts q c))),
    ))

-- nor is one that stands at a place
pub found_at : (s : List Text) (t : Text) (i : ℕ) → i < length s → get_or s i [] ≡ t → found_all s (t ∷ []) ≡ s
found_at s t i within is = found_there s t (list_any-from_Contains (eq_by_cmp_equiv nat_list_cmp_total) t s (i, within, get_or_default s i t [] within ∙ is))

-- What is picked is one of the renames and fits; and which one is picked.
use Rattle.std.proofs.Common.{◌≡◌, Bool, true, false, cond, not, ◌&&◌, List, [], ◌∷◌, length, Option, Some, None, nat_lt, refl, sym, ap, subst, ◌∙◌, ◌⊎◌, inl, inr}
use Rattle.std.specs.List.{list_all, find, filter}
use Rattle.std.proofs.lemmas.Bool.{and_parts, both_ways, cases_Bool}
use Rattle.desk_base.specs.Names.{Package}
use Rattle.desk_packages.specs.Renames.{Renaming, in_scope, longer, longest, exact, or_else, pick}

-- one of a list
abbrev pub In : {A : Type 0} → List A → A → Type 0
In [] x = ⊥
In (y ∷ ys) x = (y ≡ x) ⊎ In ys x

pub record Found {A : Type 0} (test : A → Bool) (xs : List A) (x : A) : Type 0 where
  pub there : In xs x
  pub passes : test x ≡ true

found_here : {A : Type 0} (test : A → Bool) (y : A) (ys : List A) (x : A) (b : Bool) → test y ≡ b → cond b (Some y) (find test ys) ≡ Some x → (find test ys ≡ Some x → Found test ys x) → Found test (y ∷ ys) x
found_here test y ys x true p e k =
    let same : y ≡ x = cc in
    record { there = inl same; passes = rw (← same) p }
found_here test y ys x false p e k = let f : Found test ys x = k e in record { there = inr f.there; passes = f.passes }

-- what `find` gives is in the list and passes
pub find_Some : {A : Type 0} (test : A → Bool) (ys : List A) (x : A) → find test ys ≡ Some x → Found test ys x
find_Some test [] x e = absurd cc
find_Some test (y ∷ ys) x e = found_here test y ys x (test y) refl e (λ k. find_Some test ys x k)

-- where `find` gives nothing, none passes
pub find_None : {A : Type 0} (test : A → Bool) (ys : List A) (x : A) → find test ys ≡ None → In ys x → test x ≡ false
find_None test [] x e is = absurd is
find_None {A = A} test (y ∷ ys) x e is =
    elim (test y) as (λ (b : Bool). test y ≡ b → cond b (Some y) (find test ys) ≡ None → test x ≡ false) [
      | true ↦ λ p q. absurd cc
      | false ↦ λ p q. elim is [ inl same ↦ rw (← same) p | inr later ↦ find_None test ys x q later ]
    ] refl e

-- what passes a test for all of a list passes at each of its elements
pub all_In : {A : Type 0} (test : A → Bool) (xs : List A) (x : A) → list_all test xs ≡ true → In xs x → test x ≡ true
all_In test [] x h is = absurd is
all_In test (y ∷ ys) x h (inl same) = rw (← same) (and_parts _ _ h).0
all_In test (y ∷ ys) x h (inr later) = all_In test ys x (and_parts _ _ h).1 later

-- what passes and is one of a list is left of it, and what is left is one of it and passes
pub in_filter : {A : Type 0} (test : A → Bool) (xs : List A) (x : A) → In xs x → test x ≡ true → In (filter test xs) x
in_filter test [] x is h = is
in_filter {A} test (y ∷ ys) x is h = elim (cases_Bool (test y)) [
  | inl passes ↦ subst (λ (b : Bool). In (cond b (y ∷ filter test ys) (filter test ys)) x) (sym passes) (elim is [ inl e ↦ inl e | inr later ↦ inr (in_filter test ys x later h) ])
  | inr fails ↦ subst (λ (b : Bool). In (cond b (y ∷ filter test ys) (filter test ys)) x) (sym fails) (elim is [ inl e ↦ absurd (both_ways (test y) fails (ap test e ∙ h)) | inr later ↦ in_filter test ys x later h ])
]

pub from_filter : {A : Type 0} (test : A → Bool) (xs : List A) (x : A) → In (filter test xs) x → In xs x × (test x ≡ true)
from_filter test [] x is = absurd is
from_filter {A} test (y ∷ ys) x is = by (λ later. from_filter test ys x later) (test y) refl is
  where
    by : (In (filter test ys) x → In ys x × (test x ≡ true)) → (b : Bool) → test y ≡ b → In (cond b (y ∷ filter test ys) (filter test ys)) x → In (y ∷ ys) x × (test x ≡ true)
    by rest true q (inl e) = (inl e, ap test (sym e) ∙ q)
    by rest true q (inr later) = let f = rest later in (inr f.0, f.1)
    by rest false q later = let f = rest later in (inr f.0, f.1)

-- a below rename that fits
abbrev pub fits_below : Package → Renaming → Bool
fits_below p r = r.below && in_scope r p

longer_is : (r : Renaming) (o : Option Renaming) (x : Renaming) → longer r o ≡ x → (r ≡ x) ⊎ (o ≡ Some x)
longer_is r None x e = inl e
longer_is r (Some s) x e = elim (nat_lt (length s.source) (length r.source)) as (λ (b : Bool). cond b r s ≡ x → (r ≡ x) ⊎ (Some s ≡ Some x)) [
  | true ↦ λ q. inl q
  | false ↦ λ q. inr (ap (λ (w : Renaming). Some w) q)
] e

pub longest_Some : (rs : List Renaming) (p : Package) (x : Renaming) → longest rs p ≡ Some x → Found (fits_below p) rs x
longest_Some [] p x e = absurd cc
longest_Some (r ∷ rs) p x e =
    elim (fits_below p r) as (λ (b : Bool). fits_below p r ≡ b → cond b (Some (longer r (longest rs p))) (longest rs p) ≡ Some x → Found (fits_below p) (r ∷ rs) x) [
      | true ↦ λ q h.
          let same : longer r (longest rs p) ≡ x = cc in
          elim (longer_is r (longest rs p) x same) [
            | inl here ↦ record { there = inl here; passes = rw (← here) q }
            | inr later ↦ let f : Found (fits_below p) rs x = longest_Some rs p x later in record { there = inr f.there; passes = f.passes }
          ]
      | false ↦ λ q h. let f : Found (fits_below p) rs x = longest_Some rs p x h in record { there = inr f.there; passes = f.passes }
    ] refl e

-- what is picked is one of the renames, and fits
pub pick_Some : (rs : List Renaming) (p : Package) (x : Renaming) → pick rs p ≡ Some x → Found (λ (r : Renaming). in_scope r p) rs x
pick_Some rs p x e =
    elim (exact rs p) as (λ (o : Option Renaming). exact rs p ≡ o → or_else o (longest rs p) ≡ Some x → Found (λ (r : Renaming). in_scope r p) rs x) [
      | None ↦ λ q h. let f : Found (fits_below p) rs x = longest_Some rs p x h in record { there = f.there; passes = (and_parts _ _ f.passes).1 }
      | Some y ↦ λ q h.
          let same : y ≡ x = cc in
          let f : Found (λ (r : Renaming). not r.below && in_scope r p) rs x = find_Some _ rs x (q ∙ ap (λ (w : Renaming). Some w) same) in
          record { there = f.there; passes = (and_parts _ _ f.passes).1 }
    ] refl e

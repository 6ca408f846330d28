-- A package is changed once alone, where the renames are settled.
use Rattle.std.proofs.Common.{◌≡◌, Bool, true, false, ◌&&◌, ◌||◌, List, [], ◌∷◌, Option, Some, None, refl, sym, ap, ◌∙◌, inl, inr}
use Rattle.std.specs.List.{find}
use Rattle.std.proofs.lemmas.Bool.{cases_Bool, and_from, or_left, or_right, not-false, both_ways}
use Rattle.desk_base.specs.Names.{Package, same, begins_with}
use Rattle.desk_packages.specs.Renames.{Renaming, in_scope, in_reach, covers, changes, pick, renamed_by, pkg}
use Rattle.desk_chains.specs.Chains.{meets, rename_then_rename, first_pair}
use Rattle.desk_packages.proofs.Same.{same_is, same_from, begins_is, begins_from, covers_is, covers_moved, nested}
use Rattle.desk_packages.proofs.Picks.{In, Found, find_None, pick_Some}

-- where there is no first pair, no pair is related
pub first_pair_None : {A B : Type 0} (R : A → B → Bool) (xs : List A) (ys : List B) (x : A) (y : B) → first_pair R xs ys ≡ None → In xs x → In ys y → R x y ≡ false
first_pair_None R [] ys x y e is js = absurd is
first_pair_None {A = A} {B = B} R (z ∷ xs) ys x y e is js =
    elim (find (R z) ys) as (λ (o : Option B). find (R z) ys ≡ o → (elim o as (λ (w : Option B). Option (A × B)) [ Some v ↦ Some (z, v) | None ↦ first_pair R xs ys ]) ≡ None → R x y ≡ false) [
      | None ↦ λ q h. elim is [
        | inl here ↦ rw (← here) (find_None (R z) ys y q js)
        | inr later ↦ first_pair_None R xs ys x y h later js
      ]
      | Some v ↦ λ q h. absurd cc
    ] refl e

meets_at : (rb sb : Bool) (to from q : Package) → covers rb to q ≡ true → covers sb from q ≡ true → (same to from || (sb && begins_with to from) || (rb && begins_with from to)) ≡ true
meets_at false false to from q reach scope = or_left _ _ (or_left _ _ (same_from to from (same_is to q reach ∙ sym (same_is from q scope))))
meets_at false true to from q reach scope = or_left _ _ (or_right _ _ (begins_from to from _ (same_is to q reach ∙ begins_is q from scope)))
meets_at true false to from q reach scope = or_right _ _ (begins_from from to _ (same_is from q scope ∙ begins_is q to reach))
meets_at true true to from q reach scope = elim (nested to from _ _ (sym (begins_is q to reach) ∙ begins_is q from scope)) [
  | inl h ↦ or_left _ _ (or_right _ _ h)
  | inr h ↦ or_right _ _ h
]

-- a package in the reach of the one and in the scope of the other: the two meet
pub meets_from : (r s : Renaming) (q : Package) → in_reach r q ≡ true → in_scope s q ≡ true → meets r s ≡ true
meets_from r s q reach scope = meets_at r.below s.below r.target s.source q reach scope

-- what an unpicked or unchanging rename leaves
pub unchanged : (rs : List Renaming) (p : Package) → ((s : Renaming) → In rs s → in_scope s p ≡ true → changes s ≡ false) → pkg rs p ≡ p
unchanged rs p h =
    elim (pick rs p) as (λ (o : Option Renaming). pick rs p ≡ o → renamed_by o p ≡ p) [
      | None ↦ λ q. refl
      | Some s ↦ λ q.
          let f : Found (λ (r : Renaming). in_scope r p) rs s = pick_Some rs p s q in
          let still : s.source ≡ s.target = same_is _ _ (not-false _ (h s f.there f.passes)) in
          rw (← still) (sym (covers_is s.below s.source p f.passes))
    ] refl

-- a rename that fits a package in the reach of a changing one does not change
pub settled_in_reach : (rs : List Renaming) → first_pair rename_then_rename rs rs ≡ None → (r : Renaming) → In rs r → changes r ≡ true → (q : Package) → in_reach r q ≡ true → (s : Renaming) → In rs s → in_scope s q ≡ true → changes s ≡ false
settled_in_reach rs settled r is change q reach s js scope =
    let apart : rename_then_rename r s ≡ false = first_pair_None rename_then_rename rs rs r s settled is js in
    elim (cases_Bool (changes s)) [
      | inl moves ↦ absurd (both_ways _ apart (and_from _ _ (and_from _ _ change moves) (meets_from r s q reach scope)))
      | inr stays ↦ stays
    ]

-- the image of a package is its own image
pub pkg_twice : (rs : List Renaming) → first_pair rename_then_rename rs rs ≡ None → (p : Package) → pkg rs (pkg rs p) ≡ pkg rs p
pkg_twice rs settled p =
    elim (pick rs p) as (λ (o : Option Renaming). pick rs p ≡ o → pkg rs (renamed_by o p) ≡ renamed_by o p) [
      | None ↦ λ q. ap (λ (o : Option Renaming). renamed_by o p) q
      | Some r ↦ λ q.
          let f : Found (λ (r : Renaming). in_scope r p) rs r = pick_Some rs p r q in
          elim (cases_Bool (changes r)) [
            | inl moves ↦ unchanged rs _ (settled_in_reach rs settled r f.there moves _ (covers_moved r.below r.source p r.target f.passes))
            | inr stays ↦
                let still : r.source ≡ r.target = same_is _ _ (not-false _ stays) in
                let same_again : renamed_by (Some r) p ≡ p = rw (← still) (sym (covers_is r.below r.source p f.passes)) in
                ap (pkg rs) same_again ∙ ap (λ (o : Option Renaming). renamed_by o p) q
          ]
    ] refl

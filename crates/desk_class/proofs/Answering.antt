-- Where answers stand.
use Rattle.std.proofs.Common.{◌≡◌, ℕ, zero, suc, ◌<◌, Bool, List, [], ◌∷◌, length, set, replicate, Option, Some, None, refl, ap, sym, ◌∙◌, arith, inl, inr}
use Rattle.std.proofs.lemmas.Bool.{cases_eq}
use Rattle.std.proofs.lemmas.List.{length-set, get_or-set_same}
use Rattle.std.proofs.lemmas.Option.{slice_get-get_or}
use Rattle.std.specs.List.{slice_get}
use Rattle.desk_base.specs.declared.kinds.Role.{Role}
use Rattle.desk_base.specs.declared.kinds.Role.TheVariants as roles
use Rattle.desk_class.specs.Answers.{Keeps, answer_at, answer_in, place_of, role_place}

abbrev role_at : ℕ → Role
role_at zero = roles.Class
role_at (suc zero) = roles.Package
role_at (suc (suc zero)) = roles.Module
role_at (suc (suc (suc zero))) = roles.Descriptor
role_at (suc (suc (suc (suc zero)))) = roles.ClassSig
role_at (suc (suc (suc (suc (suc zero))))) = roles.MethodSig
role_at (suc (suc (suc (suc (suc (suc zero)))))) = roles.FieldSig
role_at (suc (suc (suc (suc (suc (suc (suc zero))))))) = roles.Str
role_at (suc (suc (suc (suc (suc (suc (suc (suc zero)))))))) = roles.Plain
role_at _ = roles.AttrName

role_at-place : (r : Role) → role_at (role_place r) ≡ r
role_at-place roles.Class = refl
role_at-place roles.Package = refl
role_at-place roles.Module = refl
role_at-place roles.Descriptor = refl
role_at-place roles.ClassSig = refl
role_at-place roles.MethodSig = refl
role_at-place roles.FieldSig = refl
role_at-place roles.Str = refl
role_at-place roles.Plain = refl
role_at-place roles.AttrName = refl

small : (r : Role) → role_place r < 10
small roles.Class = omega arith
small roles.Package = omega arith
small roles.Module = omega arith
small roles.Descriptor = omega arith
small roles.ClassSig = omega arith
small roles.MethodSig = omega arith
small roles.FieldSig = omega arith
small roles.Str = omega arith
small roles.Plain = omega arith
small roles.AttrName = omega arith

-- no two have one place
index_same : (i j : ℕ) (r s : Role) → place_of i r ≡ place_of j s → i ≡ j
index_same i j r s e = let a = small r in let b = small s in omega (arith, a, b, e)

role_same : (i j : ℕ) (r s : Role) → place_of i r ≡ place_of j s → r ≡ s
role_same i j r s e =
    let a = small r in
    let b = small s in
    let places : role_place r ≡ role_place s = omega (arith, a, b, e) in
    sym (role_at-place r) ∙ ap role_at places ∙ role_at-place s

get_other : {A : Type 0} (xs : List A) (i j : ℕ) (x : A) → (i ≡ j → ⊥) → slice_get (set xs i x) j ≡ slice_get xs j
get_other [] i j x h = refl
get_other (y ∷ ys) zero zero x h = absurd (h refl)
get_other (y ∷ ys) zero (suc j) x h = refl
get_other (y ∷ ys) (suc i) zero x h = refl
get_other (y ∷ ys) (suc i) (suc j) x h = get_other ys i j x (λ e. h (ap suc e))

get_same : {A : Type 0} (xs : List A) (i : ℕ) (x : A) → i < length xs → slice_get (set xs i x) i ≡ Some x
get_same {A} xs i x lt = slice_get-get_or (set xs i x) i x (let l : length (set xs i x) ≡ length xs = length-set xs i x in omega arith) ∙ ap (λ (y : A). Some y) (get_or-set_same xs i x x lt)

-- one answer more
pub kept : (before : List (Option Bool)) (index : ℕ) (role : Role) (answer : Bool) → place_of index role < length before → Keeps before index role answer (set before (place_of index role) (Some answer))
kept before index role answer lt = λ i r b e.
    elim (cases_eq (place_of index role) (place_of i r)) [
      | inl same ↦
          let here : answer_at (set before (place_of index role) (Some answer)) i r ≡ Some answer =
          ap (λ (n : ℕ). answer_in (slice_get (set before (place_of index role) (Some answer)) n)) (sym same) ∙ ap answer_in (get_same before (place_of index role) (Some answer) lt) in
          let equal : Some b ≡ Some answer = sym e ∙ here in
          inr (sym (index_same index i role r same), (sym (role_same index i role r same), cc))
      | inr other ↦ inl (ap answer_in (sym (get_other before (place_of index role) (place_of i r) (Some answer) other)) ∙ e)
    ]

none_in : (n i : ℕ) → answer_in (slice_get (replicate n None) i) ≡ None
none_in zero i = refl
none_in (suc n) zero = refl
none_in (suc n) (suc i) = none_in n i

-- to begin with there is none
pub none_kept : (n i : ℕ) (r : Role) → answer_at (replicate n None) i r ≡ None
none_kept n i r = none_in n (place_of i r)

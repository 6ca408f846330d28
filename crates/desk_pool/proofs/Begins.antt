-- How descriptors begin, and that a return descriptor is a field descriptor or `V`.
use mathlib.Core.Bool.{or-false}
use Rattle.std.proofs.Common.{◌≡◌, ℕ, ◌+◌, Bool, true, false, cond, ◌&&◌, ◌||◌, nat_eq, nat_lt, [], ◌∷◌, length, bytes_eq, refl, sym, ◌∙◌, ap, suc, ne_eqb, arith}
use Rattle.std.proofs.lemmas.Bool.Decides.{nat_tests}
use Rattle.desk_base.specs.Names.{Text, is_reserved}
use Rattle.desk_base.specs.Descriptors.{DescriptorKind, Position, Awaited, is_base, is_descriptor, run, step, is_over}
use Rattle.desk_pool.specs.Begins.{begins}

-- nothing follows what is none
wrong_is : (t : Text) → is_over (run Awaited.wrong t) ≡ false
unfolding run step
wrong_is [] = refl
wrong_is (b ∷ t) = wrong_is t

over_is : (t : Text) → is_over (run Awaited.over t) ≡ bytes_eq t []
unfolding run step
over_is [] = refl
over_is (b ∷ t) = wrong_is t

-- ---- a field descriptor

-- a letter of a base type and more, and a byte that begins no type
base_then : (b c : ℕ) (t : Text) → nat_eq b 91 ≡ false → nat_eq b 76 ≡ false → is_base b ≡ true → is_descriptor DescriptorKind.field (b ∷ c ∷ t) ≡ false
unfolding is_descriptor run step
base_then b c t p q r = rw (p, q, r) (wrong_is t)

other_then : (b c : ℕ) (t : Text) → nat_eq b 91 ≡ false → nat_eq b 76 ≡ false → is_base b ≡ false → is_descriptor DescriptorKind.field (b ∷ c ∷ t) ≡ false
unfolding is_descriptor run step
other_then b c t p q r = rw (p, q, r) (wrong_is t)

long_field : (b c : ℕ) (t : Text) (array class base : Bool) → nat_eq b 91 ≡ array → nat_eq b 76 ≡ class → is_base b ≡ base
    → ((class || array) && is_descriptor DescriptorKind.field (b ∷ c ∷ t)) ≡ is_descriptor DescriptorKind.field (b ∷ c ∷ t)
long_field b c t true true base p q r = refl
long_field b c t true false base p q r = refl
long_field b c t false true base p q r = refl
long_field b c t false false true p q r = sym (base_then b c t p q r)
long_field b c t false false false p q r = sym (other_then b c t p q r)

two_or_more : (n : ℕ) → nat_eq (suc (suc n)) 1 ≡ false
two_or_more n = ne_eqb (suc (suc n)) 1 (λ e. omega arith)

pub field_begins : (t : Text) → ((nat_eq (length t) 1 || (begins 76 t || begins 91 t)) && is_descriptor DescriptorKind.field t) ≡ is_descriptor DescriptorKind.field t
unfolding is_descriptor run step
field_begins [] = refl
field_begins (b ∷ []) = refl
field_begins (b ∷ c ∷ t) = rw (two_or_more (length t)) (long_field b c t (nat_eq b 91) (nat_eq b 76) (is_base b) refl refl refl)

pub no_field : (t : Text) → (nat_eq (length t) 1 || (begins 76 t || begins 91 t)) ≡ false → is_descriptor DescriptorKind.field t ≡ false
no_field t h = sym (field_begins t) ∙ ap (λ (x : Bool). x && is_descriptor DescriptorKind.field t) h

-- ---- a method descriptor

opening_then : (b : ℕ) (t : Text) (opens : Bool) → nat_eq b 40 ≡ opens → (opens && is_descriptor DescriptorKind.method (b ∷ t)) ≡ is_descriptor DescriptorKind.method (b ∷ t)
unfolding is_descriptor run step
opening_then b t true p = refl
opening_then b t false p = rw p (sym (wrong_is t))

pub method_begins : (t : Text) → (begins 40 t && is_descriptor DescriptorKind.method t) ≡ is_descriptor DescriptorKind.method t
unfolding is_descriptor run step
method_begins [] = refl
method_begins (b ∷ t) = opening_then b t (nat_eq b 40) refl

pub no_method : (t : Text) → begins 40 t ≡ false → is_descriptor DescriptorKind.method t ≡ false
no_method t h = sym (method_begins t) ∙ ap (λ (x : Bool). x && is_descriptor DescriptorKind.method t) h

-- ---- a return descriptor

abbrev ends : Awaited → Text → Bool
ends state t = is_over (run state t)

name_by : (t : Text) (over cut reserved inside : Bool) → ((inside : Bool) → ends (Awaited.name_rest Position.result inside) t ≡ ends (Awaited.name_rest Position.alone inside) t)
    → ends (cond over (cond inside Awaited.over Awaited.wrong) (cond cut (cond inside (Awaited.name_rest Position.result false) Awaited.wrong) (cond reserved Awaited.wrong (Awaited.name_rest Position.result true)))) t
    ≡ ends (cond over (cond inside Awaited.over Awaited.wrong) (cond cut (cond inside (Awaited.name_rest Position.alone false) Awaited.wrong) (cond reserved Awaited.wrong (Awaited.name_rest Position.alone true)))) t
name_by t true cut reserved inside ih = refl
name_by t false true reserved true ih = ih false
name_by t false true reserved false ih = refl
name_by t false false true inside ih = refl
name_by t false false false inside ih = ih true

name_alike : (t : Text) (inside : Bool) → ends (Awaited.name_rest Position.result inside) t ≡ ends (Awaited.name_rest Position.alone inside) t
unfolding run step
name_alike [] inside = refl
name_alike (b ∷ t) inside = name_by t (nat_eq b 59) (nat_eq b 47) (is_reserved b) inside (name_alike t)

array_by : (t : Text) (d : ℕ) (array class base room : Bool) → ends (Awaited.type_behind Position.result (d + 1)) t ≡ ends (Awaited.type_behind Position.alone (d + 1)) t
    → ends (cond array (cond room (Awaited.type_behind Position.result (d + 1)) Awaited.wrong) (cond class (Awaited.name_rest Position.result false) (cond base Awaited.over Awaited.wrong))) t
    ≡ ends (cond array (cond room (Awaited.type_behind Position.alone (d + 1)) Awaited.wrong) (cond class (Awaited.name_rest Position.alone false) (cond base Awaited.over Awaited.wrong))) t
array_by t d true class base true ih = ih
array_by t d true class base false ih = refl
array_by t d false true base room ih = name_alike t false
array_by t d false false true room ih = refl
array_by t d false false false room ih = refl

some_more : (d : ℕ) → nat_eq (d + 1) 0 ≡ false
some_more d = ne_eqb (d + 1) 0 (λ e. omega arith)

-- behind one `[` or more
array_alike : (t : Text) (d : ℕ) → nat_eq d 0 ≡ false → ends (Awaited.type_behind Position.result d) t ≡ ends (Awaited.type_behind Position.alone d) t
unfolding run step
array_alike [] d h = refl
array_alike (b ∷ t) d h = rw h (array_by t d (nat_eq b 91) (nat_eq b 76) (is_base b) (nat_lt d 255) (array_alike t (d + 1) (some_more d)))

-- `V` begins no type
is_v : (b : ℕ) → nat_eq b 86 ≡ true → b ≡ 86
is_v b h = grind (arith, nat_tests)

v_alone : (b : ℕ) → nat_eq b 86 ≡ true → (nat_eq b 91 ≡ false) × (nat_eq b 76 ≡ false) × (is_base b ≡ false)
v_alone b h = rw (is_v b h) (refl, refl, refl)

first_by : (b : ℕ) (t : Text) (array class base void : Bool) → nat_eq b 91 ≡ array → nat_eq b 76 ≡ class → is_base b ≡ base → nat_eq b 86 ≡ void
    → ends (cond array (Awaited.type_behind Position.result 1) (cond class (Awaited.name_rest Position.result false) (cond base Awaited.over (cond void Awaited.over Awaited.wrong)))) t
    ≡ (ends (cond array (Awaited.type_behind Position.alone 1) (cond class (Awaited.name_rest Position.alone false) (cond base Awaited.over Awaited.wrong))) t || (void && bytes_eq t []))
first_by b t true class base true p q r s = let v = v_alone b s in let no : nat_eq b 91 ≡ false = v.0 in absurd cc
first_by b t false true base true p q r s = let v = v_alone b s in let no : nat_eq b 76 ≡ false = v.1 in absurd cc
first_by b t false false true true p q r s = let v = v_alone b s in let no : is_base b ≡ false = v.2 in absurd cc
first_by b t false false false true p q r s = rw (wrong_is t) (over_is t)
first_by b t true class base false p q r s = array_alike t 1 refl ∙ sym (or-false _)
first_by b t false true base false p q r s = name_alike t false ∙ sym (or-false _)
first_by b t false false true false p q r s = sym (or-false _)
first_by b t false false false false p q r s = sym (or-false _)

pub returned_is : (t : Text) → is_descriptor DescriptorKind.return t ≡ (is_descriptor DescriptorKind.field t || bytes_eq t (86 ∷ []))
unfolding is_descriptor run step
returned_is [] = refl
returned_is (b ∷ t) = first_by b t (nat_eq b 91) (nat_eq b 76) (is_base b) (nat_eq b 86) refl refl refl refl

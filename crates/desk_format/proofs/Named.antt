-- A name is that of an attribute whose name has its length.
use Rattle.std.proofs.Common.{◌≡◌, ℕ, Bool, true, false, cond, List, [], ◌∷◌, length, Some, bytes_eq, nat_eq, filter, arith, refl, ap, ◌∙◌}
use Rattle.std.proofs.lemmas.Slice.Eq.{bytes_eq-Decides}
use Rattle.std.proofs.lemmas.Bool.Decides.{nat_tests}
use Rattle.desk_base.specs.Names.{Text}
use Rattle.desk_format.specs.declared.attributes.Attribute.{Attribute}
use Rattle.desk_format.specs.Attributes.{attribute_name, first_named, all_attributes, attribute_named}

-- the attributes whose name has a length
abbrev pub of_length : ℕ → List Attribute → List Attribute
of_length n as' = filter (λ a. nat_eq (length (attribute_name a)) n) as'

same_length : (s t : Text) → bytes_eq s t ≡ true → nat_eq (length t) (length s) ≡ true
same_length s t h = let is : s ≡ t = (bytes_eq-Decides s t).0 h in rw is (grind (arith, nat_tests))

step : (name : Text) (a : Attribute) (more : List Attribute) (found long : Bool) → bytes_eq name (attribute_name a) ≡ found → nat_eq (length (attribute_name a)) (length name) ≡ long
    → first_named name more ≡ first_named name (of_length (length name) more)
    → cond found (Some a) (first_named name more) ≡ first_named name (cond long (a ∷ of_length (length name) more) (of_length (length name) more))
step name a more true true p q h = rw p refl
step name a more false true p q h = rw p h
step name a more true false p q h = let k : nat_eq (length (attribute_name a)) (length name) ≡ true = same_length name (attribute_name a) p in absurd cc
step name a more false false p q h = h

by_length : (name : Text) (as' : List Attribute) → first_named name as' ≡ first_named name (of_length (length name) as')
by_length name [] = refl
by_length name (a ∷ more) = step name a more (bytes_eq name (attribute_name a)) (nat_eq (length (attribute_name a)) (length name)) refl refl (by_length name more)

pub named_by_length : (name : Text) (n : ℕ) → length name ≡ n → attribute_named name ≡ first_named name (of_length n all_attributes)
unfolding attribute_named
named_by_length name n h = by_length name all_attributes ∙ ap (λ (m : ℕ). first_named name (of_length m all_attributes)) h

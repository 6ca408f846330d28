-- Names read byte by byte.
use mathlib.Core.Bool.{and_assoc}
use Rattle.std.proofs.Common.{◌≡◌, ℕ, Bool, true, false, not, ◌&&◌, ◌==◌, cond, List, [], ◌∷◌, refl, sym, ap, ◌∙◌}
use Rattle.std.specs.Prelude.{if◌then◌else◌}
use Rattle.std.specs.List.{list_all, slice_split, onto_first}
use Rattle.desk_base.specs.Names.{Text, is_empty, is_name, is_part, is_reserved, is_class_name, is_identifier, is_identifier_byte, is_digit, is_dotted}
use Rattle.desk_base.specs.Signatures.{is_mark, is_signature_identifier, is_signature_name}

and_true : (a : Bool) → (a && true) ≡ ((a && true) && true)
and_true true = refl
and_true false = refl

-- One or more parts with a separator between each two: the first byte of a part passes a test, and each other byte another.
-- `inside` says whether a part has begun.
abbrev pub part_with : (ℕ → Bool) → (ℕ → Bool) → Text → Bool
part_with starts others [] = false
part_with starts others (b ∷ t) = starts b && list_all others t

unfoldable pub parts_from : (ℕ → Bool) → (ℕ → Bool) → ℕ → Bool → Text → Bool
parts_from starts others separator inside [] = inside
parts_from starts others separator inside (b ∷ t) = if b == separator then inside && parts_from starts others separator false t else (if inside then others b else starts b) && parts_from starts others separator true t

module _ (starts others : ℕ → Bool) (separator : ℕ) where
  parts : Text → List Text
  parts t = slice_split (λ b. b == separator) t

  all : List Text → Bool
  all ps = list_all (part_with starts others) ps

  -- the first part has begun before
  begun : List Text → Bool
  begun [] = true
  begun (p ∷ ps) = list_all others p && all ps

  begun_on : (b : ℕ) (ps : List Text) → (others b && begun ps) ≡ begun (onto_first b ps)
  unfolding begun all
  begun_on b [] = and_true (others b)
  begun_on b (p ∷ ps) = sym (and_assoc (others b) (list_all others p) (all ps))

  all_on : (b : ℕ) (ps : List Text) → (starts b && begun ps) ≡ all (onto_first b ps)
  unfolding begun all
  all_on b [] = and_true (starts b)
  all_on b (p ∷ ps) = sym (and_assoc (starts b) (list_all others p) (all ps))

  inside_by : (b : ℕ) (t : Text) (c : Bool) → parts_from starts others separator false t ≡ all (parts t) → parts_from starts others separator true t ≡ begun (parts t) → (if c then parts_from starts others separator false t else others b && parts_from starts others separator true t) ≡ begun (cond c ([] ∷ parts t) (onto_first b (parts t)))
  unfolding begun
  inside_by b t true e h = e
  inside_by b t false e h = ap (λ (x : Bool). others b && x) h ∙ begun_on b (parts t)

  outside_by : (b : ℕ) (t : Text) (c : Bool) → parts_from starts others separator true t ≡ begun (parts t) → (if c then false else starts b && parts_from starts others separator true t) ≡ all (cond c ([] ∷ parts t) (onto_first b (parts t)))
  unfolding all
  outside_by b t true h = refl
  outside_by b t false h = ap (λ (x : Bool). starts b && x) h ∙ all_on b (parts t)

  mutual
    unfolding parts_from begun all parts

    inside_is : (t : Text) → parts_from starts others separator true t ≡ begun (parts t)
    inside_is [] = refl
    inside_is (b ∷ t) = inside_by b t (b == separator) (outside_is t) (inside_is t)

    outside_is : (t : Text) → parts_from starts others separator false t ≡ all (parts t)
    outside_is [] = refl
    outside_is (b ∷ t) = outside_by b t (b == separator) (inside_is t)

  some_first : (b : ℕ) (ps : List Text) → is_empty (onto_first b ps) ≡ false
  some_first b [] = refl
  some_first b (p ∷ ps) = refl

  some_part : (b : ℕ) (t : Text) (c : Bool) → is_empty (cond c ([] ∷ parts t) (onto_first b (parts t))) ≡ false
  some_part b t true = refl
  some_part b t false = some_first b (parts t)

  all_same : (part : Text → Bool) → ((t : Text) → part t ≡ part_with starts others t) → (ps : List Text) → list_all part ps ≡ all ps
  unfolding all
  all_same part h [] = refl
  all_same part h (p ∷ ps) = ap (λ (x : Bool). x && list_all part ps) (h p) ∙ ap (λ (x : Bool). part_with starts others p && x) (all_same part h ps)

  -- the parts between the separators pass a test exactly where the bytes do
  pub name_is : (part : Text → Bool) → ((t : Text) → part t ≡ part_with starts others t) → (t : Text) → is_name part separator t ≡ parts_from starts others separator false t
  unfolding parts_from parts
  name_is part h [] = refl
  name_is part h (b ∷ t) = ap (λ (x : Bool). not x && list_all part (parts (b ∷ t))) (some_part b t (b == separator)) ∙ all_same part h (parts (b ∷ t)) ∙ sym (outside_is (b ∷ t))

-- Names by one test of their bytes, with `/` between their parts

unfoldable pub name_from : (ℕ → Bool) → Bool → Text → Bool
name_from stop inside [] = inside
name_from stop inside (b ∷ t) = if b == 47 then inside && name_from stop false t else not (stop b) && name_from stop true t

from_parts : (stop : ℕ → Bool) (i : Bool) (t : Text) → name_from stop i t ≡ parts_from (λ b. not (stop b)) (λ b. not (stop b)) 47 i t
unfolding name_from parts_from
from_parts stop i [] = refl
from_parts stop true (b ∷ t) = ap (λ (x : Bool). if b == 47 then x else not (stop b) && name_from stop true t) (from_parts stop false t) ∙ ap (λ (x : Bool). if b == 47 then parts_from (λ b. not (stop b)) (λ b. not (stop b)) 47 false t else not (stop b) && x) (from_parts stop true t)
from_parts stop false (b ∷ t) = ap (λ (x : Bool). if b == 47 then false else not (stop b) && x) (from_parts stop true t)

class_part : (t : Text) → is_part t ≡ part_with (λ b. not (is_reserved b)) (λ b. not (is_reserved b)) t
class_part [] = refl
class_part (b ∷ t) = refl

pub class_name_is : (t : Text) → is_class_name t ≡ name_from is_reserved false t
class_name_is t = name_is (λ b. not (is_reserved b)) (λ b. not (is_reserved b)) 47 is_part class_part t ∙ sym (from_parts is_reserved false t)

signature_part : (t : Text) → is_signature_identifier t ≡ part_with (λ b. not (is_mark b)) (λ b. not (is_mark b)) t
signature_part [] = refl
signature_part (b ∷ t) = refl

pub signature_name_is : (t : Text) → is_signature_name t ≡ name_from is_mark false t
signature_name_is t = name_is (λ b. not (is_mark b)) (λ b. not (is_mark b)) 47 is_signature_identifier signature_part t ∙ sym (from_parts is_mark false t)

-- Dotted names

abbrev pub is_first : ℕ → Bool
is_first b = not (is_digit b) && is_identifier_byte b

identifier_part : (t : Text) → is_identifier t ≡ part_with is_first is_identifier_byte t
identifier_part [] = refl
identifier_part (b ∷ t) = sym (and_assoc (not (is_digit b)) (is_identifier_byte b) (list_all is_identifier_byte t))

pub dotted_is : (t : Text) → is_dotted t ≡ parts_from is_first is_identifier_byte 46 false t
dotted_is t = name_is is_first is_identifier_byte 46 is_identifier identifier_part t

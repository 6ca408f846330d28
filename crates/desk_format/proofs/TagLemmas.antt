-- Which bytes begin a structure, by trying each of the 256.
use Rattle.std.proofs.Common.{◌≡◌, ℕ, zero, suc, ◌<◌, Bool, true, false, ◌&&◌, ◌||◌, nat_eq, nat_le, refl, sym, subst, arith, inl, inr}
use Rattle.std.proofs.lemmas.Bool.{cases_lt, and_parts}
use Rattle.desk_base.specs.Descriptors.{is_base}
use Rattle.desk_format.specs.Reading.{read, number_at, raw_at, index_at, nothing_at, and_then, times}
use Rattle.desk_format.specs.Rows.{row_layout}
use Rattle.desk_format.specs.Frames.{frame, verification_type}
use Rattle.desk_format.specs.Annotations.{element, element_value, target, path_step}
use Rattle.desk_format.specs.PoolReading.{tag_numbered}
use Rattle.desk_format.specs.Tags.{may_begin, is_numbered}

abbrev pub same : Bool → Bool → Bool
same true b = b
same false true = false
same false false = true

same_is : (a b : Bool) → same a b ≡ true → a ≡ b
same_is true b h = sym h
same_is false true h = absurd cc
same_is false false h = refl

abbrev pub all_below : (ℕ → Bool) → ℕ → Bool
all_below p zero = true
all_below p (suc n) = p n && all_below p n

pub at_each : (p : ℕ → Bool) (n : ℕ) → all_below p n ≡ true → (t : ℕ) → t < n → p t ≡ true
at_each p zero h t lt = absurd (omega arith)
at_each p (suc n) h t lt =
    let parts = and_parts (p n) (all_below p n) h in
    elim (cases_lt t n) [
      | inl less ↦ at_each p n parts.1 t less
      | inr more ↦ let is : n ≡ t = omega arith in let P : ℕ → Type 0 = λ m. p m ≡ true in subst P is parts.0
    ]

-- two tests agree on each byte
pub each_byte : (f g : ℕ → Bool) → all_below (λ t. same (f t) (g t)) 256 ≡ true → (t : ℕ) → t < 256 → f t ≡ g t
each_byte f g h t lt = same_is (f t) (g t) (at_each (λ n. same (f n) (g n)) 256 h t lt)

abbrev pub from_to : ℕ → ℕ → ℕ → Bool
from_to first last t = nat_le first t && nat_le t last

pub pool_tags : (t : ℕ) → t < 256 → is_numbered t ≡ (nat_eq t 1 || from_to 3 12 t || from_to 15 20 t)
unfolding tag_numbered
pool_tags t lt = each_byte is_numbered (λ t. nat_eq t 1 || from_to 3 12 t || from_to 15 20 t) refl t lt

pub frame_tags : (t : ℕ) → t < 256 → may_begin frame t ≡ (nat_le t 127 || nat_le 247 t)
unfolding read number_at raw_at index_at nothing_at and_then times row_layout
frame_tags t lt = each_byte (may_begin frame) (λ t. nat_le t 127 || nat_le 247 t) refl t lt

pub verification_tags : (t : ℕ) → t < 256 → may_begin verification_type t ≡ nat_le t 8
unfolding read number_at raw_at index_at nothing_at and_then times row_layout
verification_tags t lt = each_byte (may_begin verification_type) (λ t. nat_le t 8) refl t lt

pub element_tags : (t : ℕ) → t < 256 → may_begin element_value t
    ≡ (is_base t || (nat_eq t 115 || (nat_eq t 101 || (nat_eq t 99 || (nat_eq t 64 || nat_eq t 91)))))
unfolding read number_at raw_at index_at nothing_at and_then times row_layout element
element_tags t lt = each_byte (may_begin element_value)
    (λ t. is_base t || (nat_eq t 115 || (nat_eq t 101 || (nat_eq t 99 || (nat_eq t 64 || nat_eq t 91))))) refl t lt

pub target_types : (t : ℕ) → t < 256 → may_begin target t ≡ (nat_le t 1 || from_to 16 23 t || from_to 64 75 t)
unfolding read number_at raw_at index_at nothing_at and_then times row_layout
target_types t lt = each_byte (may_begin target) (λ t. nat_le t 1 || from_to 16 23 t || from_to 64 75 t) refl t lt

pub path_kinds : (t : ℕ) → t < 256 → may_begin path_step t ≡ nat_le t 3
unfolding read number_at raw_at index_at nothing_at and_then times row_layout
path_kinds t lt = each_byte (may_begin path_step) (λ t. nat_le t 3) refl t lt

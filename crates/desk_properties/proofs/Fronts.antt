-- What stands at the front of what is left of a line.
use Rattle.std.proofs.Common.{◌≡◌, ℕ, ◌+◌, ◌*◌, ◌-◌, ◌^◌, ◌<◌, ◌≤◌, zero, suc, Bool, true, false, cond, ◌==◌, ◌||◌, [], ◌∷◌, length, drop, slice_index, Option, Some, None, refl, sym, ap, subst, ◌∙◌, add-one, arith, tests}
use Rattle.std.proofs.Math.Nat.{pow-succ'}
use Rattle.std.proofs.lemmas.Bool.{eqb-true}
use Rattle.std.proofs.lemmas.List.{length-drop, drop_more}
use Rattle.desk_base.specs.Names.{Text}
use Rattle.desk_properties.specs.Lines.{Placed, Line, is_end_byte}
use Rattle.desk_properties.specs.Entries.{is_hex, hex_value, hex_number}
use Rattle.desk_properties.specs.Reading.{natural_line_from, line_from, lines_behind, begins_break, is_stop, is_stop_byte, here, IsPair, IsResumed, IsNumberRead}
use Rattle.desk_properties.specs.declared.entries.Part.{Part}
use Rattle.desk_properties.proofs.Places.{IsByte, last_at, IsPlain, plain_at, pair_at, ended_at}
use Rattle.desk_properties.proofs.Skips.{ends_at, goes_on_at, backslash_at}

-- nothing is left of the natural line, or a byte stands there
pub data IsFront (file : Text) (at : ℕ) : Type 0 where
  nothing : natural_line_from file at ≡ [] → IsFront file at
  something : at < length file → is_end_byte (slice_index file at) ≡ false → IsByte file at → IsFront file at

pub front_of_byte : (file : Text) (at : ℕ) → at < length file → IsFront file at
front_of_byte file at h = elim (is_end_byte (slice_index file at)) as (λ (x : Bool). is_end_byte (slice_index file at) ≡ x → IsFront file at) [
  | true ↦ λ e. nothing (ends_at file at h e).line
  | false ↦ λ e. something h e (goes_on_at file at h e)
] refl

-- a backslash that is no line break has a byte behind it
pub record IsPairWithin (file : Text) (at : ℕ) : Type 0 where
  pub pair : IsPair file at
  pub inside : at + 2 ≤ length file

second_byte : (file : Text) (at : ℕ) (t : Text) → drop (at + 1) file ≡ t → begins_break (92 ∷ t) ≡ false → (at + 1 < length file) × (is_end_byte (slice_index file (at + 1)) ≡ false)
second_byte file at [] e h = absurd cc
second_byte file at (c ∷ t) e h =
    let within : at + 1 < length file = omega (arith, length-drop (at + 1) file, ap length e) in
    let same : slice_index file (at + 1) ∷ drop (at + 1 + 1) file ≡ c ∷ t = sym (drop_more file (at + 1) 0 within) ∙ e in
    let byte : slice_index file (at + 1) ≡ c = cc in
    (within, subst (λ (n : ℕ). is_end_byte n ≡ false) (sym byte) h)

pub pair_within : (file : Text) (at : ℕ) → at < length file → (slice_index file at == 92) ≡ true → begins_break (drop at file) ≡ false → IsPairWithin file at
pair_within file at h b k =
    let backslash : slice_index file at ≡ 92 = eqb-true (slice_index file at) 92 b in
    let unbroken : begins_break (92 ∷ drop (at + 1) file) ≡ false = subst (λ (n : ℕ). begins_break (n ∷ drop (at + 1) file) ≡ false) backslash (ap begins_break (sym (drop_more file at 0 h)) ∙ k) in
    let second = second_byte file at (drop (at + 1) file) refl unbroken in
    record {
      pair = pair_at file at (backslash_at file at h b) (goes_on_at file (at + 1) second.0 second.1) b;
      inside = omega (arith, second.0);
    }

-- a byte stands at the front of what is left of the logical line
pub record IsLed (file : Text) (at : ℕ) : Type 0 where
  pub rest : Line
  pub line : line_from file at ≡ here file at ∷ rest

pub led_at : (file : Text) (at : ℕ) → at < length file → begins_break (drop at file) ≡ false → IsByte file at → IsLed file at
led_at file at h k byte = elim (slice_index file at == 92) as (λ (x : Bool). (slice_index file at == 92) ≡ x → IsLed file at) [
  | true ↦ λ e. let pair : IsPair file at = (pair_within file at h e k).pair in record { rest = here file (at + 1) ∷ line_from file (at + 2); line = pair.line }
  | false ↦ λ e. let plain : IsPlain file at = plain_at file at byte e in record { rest = line_from file (at + 1); line = plain.line }
] refl

pub stop_at : (file : Text) (at : ℕ) (part : Part) → at < length file → (is_end_byte (slice_index file at) || is_stop_byte part (slice_index file at)) ≡ is_stop part (natural_line_from file at)
stop_at file at part h = elim (is_end_byte (slice_index file at)) as (λ (x : Bool). is_end_byte (slice_index file at) ≡ x → (x || is_stop_byte part (slice_index file at)) ≡ is_stop part (natural_line_from file at)) [
  | true ↦ λ e. sym (ap (is_stop part) (ends_at file at h e).line)
  | false ↦ λ e. sym (ap (is_stop part) (goes_on_at file at h e).line)
] refl

pub stop_last : (file : Text) (at : ℕ) (part : Part) → length file ≤ at → true ≡ is_stop part (natural_line_from file at)
stop_last file at part h = sym (ap (is_stop part) (last_at file at h).line)

-- a hexadecimal digit ends no line, and is no backslash
not_hex : (b n : ℕ) → is_hex n ≡ false → is_hex b ≡ true → (b == n) ≡ false
not_hex b n h k = elim (b == n) as (λ (x : Bool). (b == n) ≡ x → x ≡ false) [
  | true ↦ λ e. absurd (none (sym (subst (λ (m : ℕ). is_hex m ≡ true) (eqb-true b n e) k) ∙ h))
  | false ↦ λ e. refl
] refl
  where
    none : true ≡ false → ⊥
    none e = cc

-- digits of a number were read
pub record IsDigitsRead (file : Text) (from read number to : ℕ) : Type 0 where
  pub forward : from ≤ to
  pub inside : to ≤ length file
  pub small : number < 16 ^ read
  pub number_is : hex_number number (4 - read) (line_from file to) ≡ hex_number 0 4 (line_from file from)
  pub line : drop (4 - read) (line_from file to) ≡ drop 4 (line_from file from)
  pub behind : lines_behind file to ≡ lines_behind file from

-- the line from a place on, where no line break stands, at its end
empty_led : (file : Text) (at : ℕ) → length file ≤ at → line_from file at ≡ []
empty_led file at h = (ended_at file at (last_at file at h).line).line

left_is : (read : ℕ) → read < 4 → (left : ℕ) × (4 - read ≡ suc left) × (4 - (read + 1) ≡ left)
left_is read h = (3 - read, omega arith, omega arith)

pub digits_end : (file : Text) (from read number mid at : ℕ) → IsDigitsRead file from read number mid → read < 4 → IsResumed file mid at → length file ≤ at → hex_number 0 4 (line_from file from) ≡ None
digits_end file from read number mid at so h resumed past =
    let left = left_is read h in
    let line : line_from file mid ≡ [] = sym resumed.line ∙ empty_led file at past in
    sym so.number_is ∙ ap (λ (l : Line). hex_number number (4 - read) l) line ∙ ap (λ (n : ℕ). hex_number number n []) left.1

number_of_other : (number count : ℕ) (p : Placed) (l : Line) → is_hex p.byte ≡ false → hex_number number (suc count) (p ∷ l) ≡ None
number_of_other number count p l h = ap (λ (x : Bool). cond x (hex_number (16 * number + hex_value p.byte) count l) None) h

other_line : (file : Text) (at number count : ℕ) → at < length file → begins_break (drop at file) ≡ false → is_hex (slice_index file at) ≡ false → hex_number number (suc count) (line_from file at) ≡ None
other_line file at number count h k x = elim (front_of_byte file at h) [
  | nothing e ↦ ap (hex_number number (suc count)) (ended_at file at e).line
  | something _ _ byte ↦ let led : IsLed file at = led_at file at h k byte in ap (hex_number number (suc count)) led.line ∙ number_of_other number count (here file at) led.rest x
]

pub digits_other : (file : Text) (from read number mid at : ℕ) → IsDigitsRead file from read number mid → read < 4 → IsResumed file mid at → at < length file → is_hex (slice_index file at) ≡ false → hex_number 0 4 (line_from file from) ≡ None
digits_other file from read number mid at so h resumed within x =
    let left = left_is read h in
    sym so.number_is ∙ ap (λ (l : Line). hex_number number (4 - read) l) (sym resumed.line) ∙ ap (λ (n : ℕ). hex_number number n (line_from file at)) left.1 ∙ other_line file at number left.0 within resumed.unbroken x

digit_plain : (file : Text) (at : ℕ) → at < length file → is_hex (slice_index file at) ≡ true → IsPlain file at
digit_plain file at h x = plain_at file at (goes_on_at file at h (rw (not_hex (slice_index file at) 10 refl x, not_hex (slice_index file at) 13 refl x) refl)) (not_hex (slice_index file at) 92 refl x)

pub hex_small : (b : ℕ) → is_hex b ≡ true → hex_value b < 16
hex_small b h = grind (arith, tests)

power_more : (read number digit : ℕ) → number < 16 ^ read → digit < 16 → 16 * number + digit < 16 ^ (read + 1)
power_more read number digit h k =
    let power : 16 ^ (read + 1) ≡ 16 * 16 ^ read = ap (λ (n : ℕ). 16 ^ n) (add-one read) ∙ pow-succ' 16 read in
    omega arith

pub digits_more : (file : Text) (from read number mid at : ℕ) → IsDigitsRead file from read number mid → read < 4 → IsResumed file mid at → at < length file → is_hex (slice_index file at) ≡ true → IsDigitsRead file from (read + 1) (16 * number + hex_value (slice_index file at)) (at + 1)
digits_more file from read number mid at so h resumed within x =
    let left = left_is read h in
    let plain : IsPlain file at = digit_plain file at within x in
    let line : line_from file mid ≡ here file at ∷ line_from file (at + 1) = sym resumed.line ∙ plain.line in
    record {
      forward = omega (arith, so.forward, resumed.forward);
      inside = omega arith;
      small = power_more read number (hex_value (slice_index file at)) so.small (hex_small (slice_index file at) x);
      number_is = ap (λ (n : ℕ). hex_number (16 * number + hex_value (slice_index file at)) n (line_from file (at + 1))) left.2 ∙ sym (ap (λ (y : Bool). cond y (hex_number (16 * number + hex_value (slice_index file at)) left.0 (line_from file (at + 1))) None) x) ∙ sym (ap (λ (l : Line). hex_number number (4 - read) l) line ∙ ap (λ (n : ℕ). hex_number number n (here file at ∷ line_from file (at + 1))) left.1) ∙ so.number_is;
      line = ap (λ (n : ℕ). drop n (line_from file (at + 1))) left.2 ∙ sym (ap (λ (n : ℕ). drop n (here file at ∷ line_from file (at + 1))) left.1) ∙ sym (ap (drop (4 - read)) line) ∙ so.line;
      behind = sym plain.behind ∙ resumed.behind ∙ so.behind;
    }

pub power_small : (read : ℕ) → read < 4 → 16 ^ read ≤ 4096
power_small zero h = omega arith
power_small (suc zero) h = omega arith
power_small (suc (suc zero)) h = omega arith
power_small (suc (suc (suc zero))) h = omega arith
power_small (suc (suc (suc (suc n)))) h = absurd (omega arith)

pub number_end : (file : Text) (from read number to : ℕ) → IsDigitsRead file from read number to → read ≡ 4 → IsNumberRead file from number to
number_end file from read number to so e = record {
  forward = so.forward;
  inside = so.inside;
  small = subst (λ (n : ℕ). number < 16 ^ n) e so.small;
  number_is = sym so.number_is ∙ ap (λ (n : ℕ). hex_number number (4 - n) (line_from file to)) e;
  line = ap (λ (n : ℕ). drop (4 - n) (line_from file to)) (sym e) ∙ so.line;
  behind = so.behind;
}

-- a digit's value, as it was asked for
pub hex_none : (b : ℕ) → ◌≡◌ {A = Option ℕ} None (cond (is_hex b) (Some (hex_value b)) None) → is_hex b ≡ false
hex_none b h = elim (is_hex b) as (λ (x : Bool). ◌≡◌ {A = Option ℕ} None (cond x (Some (hex_value b)) None) → x ≡ false) [ true ↦ λ k. absurd cc | false ↦ λ _. refl ] h

pub hex_some : (b value : ℕ) → Some value ≡ cond (is_hex b) (Some (hex_value b)) None → (is_hex b ≡ true) × (value ≡ hex_value b)
hex_some b value h = elim (is_hex b) as (λ (x : Bool). Some value ≡ cond x (Some (hex_value b)) None → (x ≡ true) × (value ≡ hex_value b)) [ true ↦ λ k. (refl, cc) | false ↦ λ k. absurd cc ] h

pub digit_fits : (read number value : ℕ) → read < 4 → number < 16 ^ read → value < 16 → 16 * number + value < 65536
digit_fits read number value h k v = omega (arith, power_small read h)

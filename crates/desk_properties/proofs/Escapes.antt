-- Escapes within a key or a value, as they are written.
use Rattle.std.proofs.Common.{◌≡◌, ℕ, ◌+◌, ◌*◌, zero, suc, Bool, true, false, cond, ◌==◌, ◌||◌, [], ◌∷◌, drop, Option, Some, None, Result, Ok, Err, refl, sym, ap, subst, ◌∙◌, append-nil}
use Rattle.std.proofs.lemmas.Bool.{eqb-true}
use Rattle.std.specs.Prelude.{encode_utf8}
use Rattle.desk_base.specs.Names.{Text}
use Rattle.desk_properties.specs.Lines.{Placed, Line, is_backslash}
use Rattle.desk_properties.specs.Entries.{is_sign_byte, is_key_end, written_key, behind_key, is_hex, hex_value, hex_number, Escape, escape_of, escape_of_number, is_surrogate, escaped, before, unescaped}
use Rattle.desk_properties.specs.Reading.{written, beyond, is_stop_byte}
use Rattle.desk_properties.specs.declared.entries.Part.{Part}
use Rattle.desk_properties.specs.declared.entries.Part.TheVariants.{Key, Value}

other_byte : (b n : ℕ) → is_hex n ≡ false → is_hex b ≡ true → (b == n) ≡ false
other_byte b n h k = elim (b == n) as (λ (x : Bool). (b == n) ≡ x → x ≡ false) [
  | true ↦ λ e. absurd (none (sym (subst (λ (m : ℕ). is_hex m ≡ true) (eqb-true b n e) k) ∙ h))
  | false ↦ λ e. refl
] refl
  where
    none : true ≡ false → ⊥
    none e = cc

-- a hexadecimal digit ends no key, and is no backslash
hex_no_end : (p : Placed) → is_hex p.byte ≡ true → is_key_end p ≡ false
hex_no_end p h = rw (other_byte p.byte 61 refl h, other_byte p.byte 58 refl h, other_byte p.byte 32 refl h, other_byte p.byte 9 refl h, other_byte p.byte 12 refl h) refl

hex_no_backslash : (p : Placed) → is_hex p.byte ≡ true → is_backslash p ≡ false
hex_no_backslash p h = other_byte p.byte 92 refl h

key_front : (p : Placed) (l : Line) (end slash : Bool) → is_key_end p ≡ end → is_backslash p ≡ slash → written_key false (p ∷ l) ≡ cond end [] (p ∷ written_key slash l)
key_front p l end slash h k = ap (λ (x : Bool). cond x [] (p ∷ written_key (is_backslash p) l)) h ∙ ap (λ (x : Bool). cond end [] (p ∷ written_key x l)) k

behind_front : (p : Placed) (l : Line) (end slash : Bool) → is_key_end p ≡ end → is_backslash p ≡ slash → behind_key false (p ∷ l) ≡ cond end (p ∷ l) (behind_key slash l)
behind_front p l end slash h k = ap (λ (x : Bool). cond x (p ∷ l) (behind_key (is_backslash p) l)) h ∙ ap (λ (x : Bool). cond end (p ∷ l) (behind_key x l)) k

number_front : (number count : ℕ) (p : Placed) (l : Line) → is_hex p.byte ≡ true → hex_number number (suc count) (p ∷ l) ≡ hex_number (16 * number + hex_value p.byte) count l
number_front number count p l h = ap (λ (x : Bool). cond x (hex_number (16 * number + hex_value p.byte) count l) None) h

number_none : (number count : ℕ) (p : Placed) (l : Line) → is_hex p.byte ≡ false → hex_number number (suc count) (p ∷ l) ≡ None
number_none number count p l h = ap (λ (x : Bool). cond x (hex_number (16 * number + hex_value p.byte) count l) None) h

-- the digits at the front of a line are those at the front of its key
number_in_key : (number count : ℕ) (l : Line) → hex_number number count (written_key false l) ≡ hex_number number count l
number_in_key number zero l = refl
number_in_key number (suc count) [] = refl
number_in_key number (suc count) (p ∷ l) = elim (is_hex p.byte) as (λ (x : Bool). is_hex p.byte ≡ x → hex_number number (suc count) (written_key false (p ∷ l)) ≡ hex_number number (suc count) (p ∷ l)) [
  | true ↦ λ h. ap (hex_number number (suc count)) (key_front p l false false (hex_no_end p h) (hex_no_backslash p h)) ∙ number_front number count p (written_key false l) h ∙ number_in_key (16 * number + hex_value p.byte) count l ∙ sym (number_front number count p l h)
  | false ↦ λ h. (elim (is_key_end p) as (λ (x : Bool). hex_number number (suc count) (cond x [] (p ∷ written_key (is_backslash p) l)) ≡ None) [
    | true ↦ refl
    | false ↦ number_none number count p (written_key (is_backslash p) l) h
  ]) ∙ sym (number_none number count p l h)
] refl

none_some : (A : Type 0) → {n : ℕ} → ◌≡◌ {A = Option ℕ} None (Some n) → A
none_some A e = absurd cc

-- they stand within the key
drop_in_key : (number count value : ℕ) (l : Line) → hex_number number count l ≡ Some value → drop count (written_key false l) ≡ written_key false (drop count l)
drop_in_key number zero value l h = refl
drop_in_key number (suc count) value [] h = refl
drop_in_key number (suc count) value (p ∷ l) h = elim (is_hex p.byte) as (λ (x : Bool). is_hex p.byte ≡ x → drop (suc count) (written_key false (p ∷ l)) ≡ written_key false (drop count l)) [
  | true ↦ λ k. ap (drop (suc count)) (key_front p l false false (hex_no_end p k) (hex_no_backslash p k)) ∙ drop_in_key (16 * number + hex_value p.byte) count value l (sym (number_front number count p l k) ∙ h)
  | false ↦ λ k. none_some _ (sym (number_none number count p l k) ∙ h)
] refl

behind_digits : (number count value : ℕ) (l : Line) → hex_number number count l ≡ Some value → behind_key false l ≡ behind_key false (drop count l)
behind_digits number zero value l h = refl
behind_digits number (suc count) value [] h = refl
behind_digits number (suc count) value (p ∷ l) h = elim (is_hex p.byte) as (λ (x : Bool). is_hex p.byte ≡ x → behind_key false (p ∷ l) ≡ behind_key false (drop count l)) [
  | true ↦ λ k. behind_front p l false false (hex_no_end p k) (hex_no_backslash p k) ∙ behind_digits (16 * number + hex_value p.byte) count value l (sym (number_front number count p l k) ∙ h)
  | false ↦ λ k. none_some _ (sym (number_none number count p l k) ∙ h)
] refl

number_in : (part : Part) (l : Line) → hex_number 0 4 (written part l) ≡ hex_number 0 4 l
number_in Key l = number_in_key 0 4 l
number_in Value l = refl

drop_in : (part : Part) (value : ℕ) (l : Line) → hex_number 0 4 l ≡ Some value → drop 4 (written part l) ≡ written part (drop 4 l)
drop_in Key value l h = drop_in_key 0 4 value l h
drop_in Value value l h = refl

beyond_in : (part : Part) (value : ℕ) (l : Line) → hex_number 0 4 l ≡ Some value → beyond part l ≡ beyond part (drop 4 l)
beyond_in Key value l h = behind_digits 0 4 value l h
beyond_in Value value l h = refl

-- an escape in what is written of a line is that of the line
escape_in : (part : Part) (q : Placed) (l : Line) → escape_of (q ∷ written part l) ≡ escape_of (q ∷ l)
escape_in part q l = ap (λ (n : Option ℕ). cond (q.byte == 117) (escape_of_number n) (Some (record { text = escaped q.byte ∷ []; size = 1 }))) (number_in part l)

-- the bytes that belong to an escape
record IsSized (part : Part) (q : Placed) (l : Line) (escape : Escape) : Type 0 where
  kept : drop escape.size (q ∷ written part l) ≡ written part (drop escape.size (q ∷ l))
  past : beyond part l ≡ beyond part (drop escape.size (q ∷ l))

sized_number : (part : Part) (q : Placed) (l : Line) (escape : Escape) (n : Option ℕ) → hex_number 0 4 l ≡ n → escape_of_number n ≡ Some escape → IsSized part q l escape
sized_number part q l escape None e h = absurd cc
sized_number part q l escape (Some n) e h = elim (is_surrogate n) as (λ (x : Bool). cond x None (Some (record { text = encode_utf8 n; size = 5 })) ≡ Some escape → IsSized part q l escape) [
  | true ↦ λ k. absurd cc
  | false ↦ λ k. let size : escape.size ≡ 5 = cc in record {
    kept = ap (λ (m : ℕ). drop m (q ∷ written part l)) size ∙ drop_in part n l e ∙ ap (written part) (sym (ap (λ (m : ℕ). drop m (q ∷ l)) size));
    past = beyond_in part n l e ∙ ap (beyond part) (sym (ap (λ (m : ℕ). drop m (q ∷ l)) size));
  }
] h

sized_in : (part : Part) (q : Placed) (l : Line) (escape : Escape) → escape_of (q ∷ l) ≡ Some escape → IsSized part q l escape
sized_in part q l escape h = elim (q.byte == 117) as (λ (x : Bool). cond x (escape_of_number (hex_number 0 4 l)) (Some (record { text = escaped q.byte ∷ []; size = 1 })) ≡ Some escape → IsSized part q l escape) [
  | true ↦ λ k. sized_number part q l escape (hex_number 0 4 l) refl k
  | false ↦ λ k. let size : escape.size ≡ 1 = cc in record {
    kept = ap (λ (m : ℕ). drop m (q ∷ written part l)) size ∙ ap (written part) (sym (ap (λ (m : ℕ). drop m (q ∷ l)) size));
    past = ap (beyond part) (sym (ap (λ (m : ℕ). drop m (q ∷ l)) size));
  }
] h

-- bytes that belong to an escape are passed over
unescaped_past : (count : ℕ) (l : Line) → unescaped count l ≡ unescaped 0 (drop count l)
unescaped_past zero l = refl
unescaped_past (suc count) [] = refl
unescaped_past (suc count) (p ∷ l) = unescaped_past count l

backslash_no_end : (p : Placed) → is_backslash p ≡ true → is_key_end p ≡ false
backslash_no_end p h = subst (λ (n : ℕ). (is_sign_byte n || (n == 32 || n == 9 || n == 12)) ≡ false) (sym (eqb-true p.byte 92 h)) refl

written_pair : (part : Part) (p q : Placed) (l : Line) → is_backslash p ≡ true → written part (p ∷ q ∷ l) ≡ p ∷ q ∷ written part l
written_pair Key p q l h = key_front p (q ∷ l) false true (backslash_no_end p h) h
written_pair Value p q l h = refl

beyond_pair : (part : Part) (p q : Placed) (l : Line) → is_backslash p ≡ true → beyond part (p ∷ q ∷ l) ≡ beyond part l
beyond_pair Key p q l h = behind_front p (q ∷ l) false true (backslash_no_end p h) h
beyond_pair Value p q l h = refl

abbrev escape_case : ℕ → Line → Option Escape → Result Text ℕ
escape_case at l None = Err at
escape_case at l (Some escape) = before escape.text (unescaped escape.size l)

unescaped_backslash : (p : Placed) (l : Line) → is_backslash p ≡ true → unescaped 0 (p ∷ l) ≡ escape_case p.at l (escape_of l)
unescaped_backslash p l h = ap (λ (x : Bool). cond x (elim (escape_of l) [ Some escape ↦ before escape.text (unescaped escape.size l) | None ↦ Err p.at ]) (before (p.byte ∷ []) (unescaped 0 l))) h ∙ same (escape_of l)
  where
    same : (e : Option Escape) → elim e as (λ _. Result Text ℕ) [ Some escape ↦ before escape.text (unescaped escape.size l) | None ↦ Err p.at ] ≡ escape_case p.at l e
    same None = refl
    same (Some e) = refl

-- an escape in a key or value
pub record IsEscaped (part : Part) (line : Line) (text : Text) (rest : Line) : Type 0 where
  pub unescaped_is : unescaped 0 (written part line) ≡ before text (unescaped 0 (written part rest))
  pub beyond_is : beyond part line ≡ beyond part rest

pub escape_step : (part : Part) (p q : Placed) (l : Line) (escape : Escape) → is_backslash p ≡ true → escape_of (q ∷ l) ≡ Some escape → IsEscaped part (p ∷ q ∷ l) escape.text (drop escape.size (q ∷ l))
escape_step part p q l escape h e =
    let sized : IsSized part q l escape = sized_in part q l escape e in
    record {
      unescaped_is = ap (unescaped 0) (written_pair part p q l h) ∙ unescaped_backslash p (q ∷ written part l) h ∙ ap (escape_case p.at (q ∷ written part l)) (escape_in part q l ∙ e) ∙ ap (before escape.text) (unescaped_past escape.size (q ∷ written part l) ∙ ap (unescaped 0) sized.kept);
      beyond_is = beyond_pair part p q l h ∙ sized.past;
    }

pub escape_fault : (part : Part) (p q : Placed) (l : Line) → is_backslash p ≡ true → escape_of (q ∷ l) ≡ None → unescaped 0 (written part (p ∷ q ∷ l)) ≡ Err p.at
escape_fault part p q l h e = ap (unescaped 0) (written_pair part p q l h) ∙ unescaped_backslash p (q ∷ written part l) h ∙ ap (escape_case p.at (q ∷ written part l)) (escape_in part q l ∙ e)

plain_front : (p : Placed) (l : Line) → is_backslash p ≡ false → unescaped 0 (p ∷ l) ≡ before (p.byte ∷ []) (unescaped 0 l)
plain_front p l h = ap (λ (x : Bool). cond x (elim (escape_of l) [ Some escape ↦ before escape.text (unescaped escape.size l) | None ↦ Err p.at ]) (before (p.byte ∷ []) (unescaped 0 l))) h

-- a byte that is no backslash and ends nothing
pub plain_step : (part : Part) (p : Placed) (l : Line) → is_backslash p ≡ false → is_stop_byte part p.byte ≡ false → IsEscaped part (p ∷ l) (p.byte ∷ []) l
plain_step Key p l h k = record {
  unescaped_is = ap (unescaped 0) (key_front p l false false k h) ∙ plain_front p (written_key false l) h;
  beyond_is = behind_front p l false false k h;
}
plain_step Value p l h k = record { unescaped_is = plain_front p l h; beyond_is = refl }

-- the end of a key or value
pub record IsStopped (part : Part) (line : Line) : Type 0 where
  pub unescaped_is : unescaped 0 (written part line) ≡ Ok []
  pub beyond_is : beyond part line ≡ line

pub stop_none : (part : Part) → IsStopped part []
stop_none Key = record { unescaped_is = refl; beyond_is = refl }
stop_none Value = record { unescaped_is = refl; beyond_is = refl }

pub stop_byte : (part : Part) (p : Placed) (l : Line) → is_stop_byte part p.byte ≡ true → IsStopped part (p ∷ l)
stop_byte Key p l h = record { unescaped_is = ap (λ (x : Bool). unescaped 0 (cond x [] (p ∷ written_key (is_backslash p) l))) h; beyond_is = ap (λ (x : Bool). cond x (p ∷ l) (behind_key (is_backslash p) l)) h }
stop_byte Value p l h = absurd cc

pub before_end : (text : Text) → ◌≡◌ {A = Result Text ℕ} (before text (Ok [])) (Ok text)
before_end text = ap Ok (append-nil text)

-- Keys and values of a logical line, and what stands between them.
use Rattle.std.proofs.Common.{◌≡◌, ◌≢◌, ℕ, ◌+◌, ◌<◌, ◌≤◌, inl, inr, Bool, true, false, cond, ◌==◌, [], ◌∷◌, ◌++◌, length, drop, slice_index, Some, None, Result, Ok, Err, refl, sym, ap, subst, ◌∙◌, arith, tests}
use Rattle.std.proofs.lemmas.Bool.{eqb-true}
use Rattle.std.specs.Prelude.{encode_utf8}
use Rattle.std.specs.Char.{InScalarRange}
use Rattle.desk_base.specs.Names.{Text}
use Rattle.desk_properties.specs.Lines.{Placed, Line, is_backslash, is_white, is_white_byte, unindented}
use Rattle.desk_properties.specs.Entries.{is_sign_byte, unsigned, written_value, hex_number, is_surrogate, escaped, Escape, escape_of, escape_of_number, before, unescaped}
use Rattle.desk_properties.specs.Properties.{entry_from}
use Rattle.desk_properties.specs.Reading.{natural_line_from, line_from, lines_behind, begins_break, is_stop, is_stop_byte, written, beyond, behind_byte, here, IsPair, IsResumed, IsNextLine, IsNumberRead, IsEscapeRead, IsEscapeFault, IsNextRead, IsNextFault, IsPartRead, IsGapRead, IsSignRead, IsEntryRead}
use Rattle.desk_properties.specs.declared.PropFault.TheVariants.{NotUtf8, Escape as BadEscape}
use Rattle.desk_properties.specs.declared.PropError.{PropError}
use Rattle.desk_properties.specs.declared.PropError.TheVariants.{Fault, Memory}
use Rattle.desk_properties.specs.declared.entries.Part.{Part}
use Rattle.desk_properties.specs.declared.entries.Part.TheVariants.{Key, Value}
use Rattle.desk_properties.proofs.Places.{last_at, IsPlain, plain_at, ended_at}
use Rattle.desk_properties.proofs.Skips.{goes_on_at}
use Rattle.desk_properties.proofs.Escapes.{escape_step, escape_fault, plain_step, IsStopped, stop_none, stop_byte, before_end}
use Rattle.desk_properties.proofs.Fronts.{nothing, something, front_of_byte, IsLed, led_at}

-- bytes of a key or value were read
pub record IsPartSoFar (file : Text) (part : Part) (from : ℕ) (text : Text) (to : ℕ) : Type 0 where
  pub forward : from ≤ to
  pub inside : to ≤ length file
  pub unbroken : begins_break (drop to file) ≡ false
  pub text_is : before text (unescaped 0 (written part (line_from file to))) ≡ unescaped 0 (written part (line_from file from))
  pub line : beyond part (line_from file to) ≡ beyond part (line_from file from)
  pub behind : lines_behind file to ≡ lines_behind file from

pub lt_from : (a b : ℕ) → a ≤ b → (a == b) ≡ false → a < b
lt_from a b h e = grind (arith, tests)

-- where a key or value ends
stopped_line : (file : Text) (part : Part) (at : ℕ) → at ≤ length file → begins_break (drop at file) ≡ false → is_stop part (natural_line_from file at) ≡ true → IsStopped part (line_from file at)
stopped_line file part at h k stop = elim (at == length file) as (λ (x : Bool). (at == length file) ≡ x → IsStopped part (line_from file at)) [
  | true ↦ λ e. subst (IsStopped part) (sym (ended_at file at (last_at file at (omega (arith, eqb-true at (length file) e))).line).line) (stop_none part)
  | false ↦ λ e. elim (front_of_byte file at (lt_from at (length file) h e)) [
    | nothing line ↦ subst (IsStopped part) (sym (ended_at file at line).line) (stop_none part)
    | something _ _ byte ↦
        let led : IsLed file at = led_at file at (lt_from at (length file) h e) k byte in
        subst (IsStopped part) (sym led.line) (stop_byte part (here file at) led.rest (sym (ap (is_stop part) byte.line) ∙ stop))
  ]
] refl

pub part_end : (file : Text) (part : Part) (from : ℕ) (text : Text) (at : ℕ) → IsPartSoFar file part from text at → is_stop part (natural_line_from file at) ≡ true → IsPartRead file part from text at
part_end file part from text at so stop =
    let stopped : IsStopped part (line_from file at) = stopped_line file part at so.inside so.unbroken stop in
    record {
      forward = so.forward;
      inside = so.inside;
      text_is = sym so.text_is ∙ ap (before text) stopped.unescaped_is ∙ before_end text;
      line = sym stopped.beyond_is ∙ so.line;
      behind = so.behind;
      stopped = stop;
    }

-- white space of a logical line was skipped
pub record IsGapSoFar (file : Text) (from to : ℕ) : Type 0 where
  pub forward : from ≤ to
  pub inside : to ≤ length file
  pub unbroken : begins_break (drop to file) ≡ false
  pub line : unindented (line_from file to) ≡ unindented (line_from file from)
  pub behind : lines_behind file to ≡ lines_behind file from

pub gap_none : (file : Text) (from to : ℕ) → IsResumed file from to → IsGapSoFar file from to
gap_none file from to resumed = record { forward = resumed.forward; inside = resumed.inside; unbroken = resumed.unbroken; line = ap unindented resumed.line; behind = resumed.behind }

not_white : (b n : ℕ) → is_white_byte n ≡ false → is_white_byte b ≡ true → (b == n) ≡ false
not_white b n h k = elim (b == n) as (λ (x : Bool). (b == n) ≡ x → x ≡ false) [
  | true ↦ λ e. absurd (none (sym (subst (λ (m : ℕ). is_white_byte m ≡ true) (eqb-true b n e) k) ∙ h))
  | false ↦ λ e. refl
] refl
  where
    none : true ≡ false → ⊥
    none e = cc

white_at : (file : Text) (at : ℕ) → at < length file → is_white_byte (slice_index file at) ≡ true → IsPlain file at
white_at file at h x = plain_at file at (goes_on_at file at h (rw (not_white (slice_index file at) 10 refl x, not_white (slice_index file at) 13 refl x) refl)) (not_white (slice_index file at) 92 refl x)

pub gap_more : (file : Text) (from at to : ℕ) → IsGapSoFar file from at → at < length file → is_white_byte (slice_index file at) ≡ true → IsResumed file (at + 1) to → IsGapSoFar file from to
gap_more file from at to so h x resumed =
    let plain : IsPlain file at = white_at file at h x in
    record {
      forward = omega (arith, so.forward, resumed.forward);
      inside = resumed.inside;
      unbroken = resumed.unbroken;
      line = ap unindented resumed.line ∙ sym (ap unindented plain.line ∙ ap (λ (y : Bool). cond y (unindented (line_from file (at + 1))) (here file at ∷ line_from file (at + 1))) x) ∙ so.line;
      behind = resumed.behind ∙ sym plain.behind ∙ so.behind;
    }

-- a logical line that a byte leads, or nothing
data IsLedOrEnded (file : Text) (at : ℕ) : Type 0 where
  ended : line_from file at ≡ [] → IsLedOrEnded file at
  led : IsLed file at → IsLedOrEnded file at

led_or_ended : (file : Text) (at : ℕ) → at < length file → begins_break (drop at file) ≡ false → IsLedOrEnded file at
led_or_ended file at h k = elim (front_of_byte file at h) [
  | nothing line ↦ ended (ended_at file at line).line
  | something _ _ byte ↦ led (led_at file at h k byte)
]

stays_unindented : (file : Text) (at : ℕ) → at < length file → begins_break (drop at file) ≡ false → is_white_byte (slice_index file at) ≡ false → line_from file at ≡ unindented (line_from file at)
stays_unindented file at h k x = elim (led_or_ended file at h k) [
  | ended e ↦ e ∙ sym (ap unindented e)
  | led l ↦ l.line ∙ sym (ap unindented l.line ∙ ap (λ (y : Bool). cond y (unindented l.rest) (here file at ∷ l.rest)) x)
]

pub gap_end_byte : (file : Text) (from at : ℕ) → IsGapSoFar file from at → at < length file → is_white_byte (slice_index file at) ≡ false → IsGapRead file from at
gap_end_byte file from at so h x = record { forward = so.forward; inside = so.inside; unbroken = so.unbroken; line = stays_unindented file at h so.unbroken x ∙ so.line; behind = so.behind }

pub gap_end_last : (file : Text) (from at : ℕ) → IsGapSoFar file from at → length file ≤ at → IsGapRead file from at
gap_end_last file from at so h =
    let none : line_from file at ≡ [] = (ended_at file at (last_at file at h).line).line in
    record { forward = so.forward; inside = so.inside; unbroken = so.unbroken; line = none ∙ sym (ap unindented none) ∙ so.line; behind = so.behind }

not_sign : (b n : ℕ) → is_sign_byte n ≡ false → is_sign_byte b ≡ true → (b == n) ≡ false
not_sign b n h k = elim (b == n) as (λ (x : Bool). (b == n) ≡ x → x ≡ false) [
  | true ↦ λ e. absurd (none (sym (subst (λ (m : ℕ). is_sign_byte m ≡ true) (eqb-true b n e) k) ∙ h))
  | false ↦ λ e. refl
] refl
  where
    none : true ≡ false → ⊥
    none e = cc

sign_at : (file : Text) (at : ℕ) → at < length file → is_sign_byte (slice_index file at) ≡ true → IsPlain file at
sign_at file at h x = plain_at file at (goes_on_at file at h (rw (not_sign (slice_index file at) 10 refl x, not_sign (slice_index file at) 13 refl x) refl)) (not_sign (slice_index file at) 92 refl x)

pub sign_read : (file : Text) (from at to : ℕ) → IsGapRead file from at → at < length file → is_sign_byte (slice_index file at) ≡ true → IsGapRead file (at + 1) to → IsSignRead file from to
sign_read file from at to gap h x next =
    let plain : IsPlain file at = sign_at file at h x in
    record {
      forward = omega (arith, gap.forward, next.forward);
      inside = next.inside;
      line = next.line ∙ ap unindented (sym (ap unsigned (sym gap.line ∙ plain.line) ∙ ap (λ (y : Bool). cond y (line_from file (at + 1)) (here file at ∷ line_from file (at + 1))) x));
      behind = next.behind ∙ sym plain.behind ∙ gap.behind;
    }

unindented_twice : (l : Line) → unindented (unindented l) ≡ unindented l
unindented_twice [] = refl
unindented_twice (p ∷ l) = elim (is_white p) as (λ (x : Bool). is_white p ≡ x → unindented (cond x (unindented l) (p ∷ l)) ≡ cond x (unindented l) (p ∷ l)) [
  | true ↦ λ _. unindented_twice l
  | false ↦ λ e. ap (λ (y : Bool). cond y (unindented l) (p ∷ l)) e
] refl

no_sign : (file : Text) (from at : ℕ) → IsGapRead file from at → unsigned (line_from file at) ≡ line_from file at → IsSignRead file from at
no_sign file from at gap e = record {
  forward = gap.forward;
  inside = gap.inside;
  line = gap.line ∙ sym (unindented_twice (line_from file from)) ∙ ap unindented (sym gap.line ∙ sym e ∙ ap unsigned gap.line);
  behind = gap.behind;
}

pub sign_none_byte : (file : Text) (from at : ℕ) → IsGapRead file from at → at < length file → is_sign_byte (slice_index file at) ≡ false → IsSignRead file from at
sign_none_byte file from at gap h x = no_sign file from at gap (elim (led_or_ended file at h gap.unbroken) [
  | ended e ↦ ap unsigned e ∙ sym e
  | led l ↦ ap unsigned l.line ∙ ap (λ (y : Bool). cond y l.rest (here file at ∷ l.rest)) x ∙ sym l.line
])

pub sign_none_last : (file : Text) (from at : ℕ) → IsGapRead file from at → length file ≤ at → IsSignRead file from at
sign_none_last file from at gap h =
    let none : line_from file at ≡ [] = (ended_at file at (last_at file at h).line).line in
    no_sign file from at gap (ap unsigned none ∙ sym none)

-- the escape of a pair of bytes
pub escape_plain : (file : Text) (from b : ℕ) (old new : Text) → IsPair file from → from + 2 ≤ length file → (slice_index file (from + 1) == 117) ≡ false → b ≡ escaped (slice_index file (from + 1)) → new ≡ old ++ b ∷ [] → IsEscapeRead file from old new (from + 2)
escape_plain file from b old new pair h x e text =
    let q : Placed = here file (from + 1) in
    let l : Line = line_from file (from + 2) in
    let escape : Escape = record { text = escaped q.byte ∷ []; size = 1 } in
    record {
      forward = omega arith;
      inside = h;
      escape = escape;
      escape_is = ap (λ (m : Line). escape_of (behind_byte m)) pair.line ∙ ap (λ (y : Bool). cond y (escape_of_number (hex_number 0 4 l)) (Some escape)) x;
      text_is = text ∙ ap (λ (n : ℕ). old ++ n ∷ []) e;
      line = sym (ap (λ (m : Line). drop 1 (behind_byte m)) pair.line);
      behind = sym pair.behind;
    }

escape_of_u : (file : Text) (from : ℕ) → slice_index file (from + 1) ≡ 117 → escape_of (here file (from + 1) ∷ line_from file (from + 2)) ≡ escape_of_number (hex_number 0 4 (line_from file (from + 2)))
escape_of_u file from letter = ap (λ (n : ℕ). cond (n == 117) (escape_of_number (hex_number 0 4 (line_from file (from + 2)))) (Some (record { text = escaped n ∷ []; size = 1 }))) letter

pub escape_number : (file : Text) (from number next : ℕ) (old new : Text) → IsPair file from → slice_index file (from + 1) ≡ 117 → IsNumberRead file (from + 2) number next → is_surrogate number ≡ false → new ≡ old ++ encode_utf8 number → IsEscapeRead file from old new next
escape_number file from number next old new pair letter read scalar text =
    let q : Placed = here file (from + 1) in
    let l : Line = line_from file (from + 2) in
    let escape : Escape = record { text = encode_utf8 number; size = 5 } in
    record {
      forward = omega (arith, read.forward);
      inside = read.inside;
      escape = escape;
      escape_is = ap (λ (m : Line). escape_of (behind_byte m)) pair.line ∙ escape_of_u file from letter ∙ ap escape_of_number read.number_is ∙ ap (λ (y : Bool). cond y None (Some escape)) scalar;
      text_is = text;
      line = read.line ∙ sym (ap (λ (m : Line). drop 5 (behind_byte m)) pair.line);
      behind = read.behind ∙ sym pair.behind;
    }

pub next_escape : (file : Text) (from : ℕ) (old new : Text) (to : ℕ) → IsPair file from → IsEscapeRead file from old new to → IsNextRead file from old new to
next_escape file from old new to pair read =
    let q : Placed = here file (from + 1) in
    let l : Line = line_from file (from + 2) in
    let slash : is_backslash (here file from) ≡ true = ap (λ (n : ℕ). n == 92) pair.backslash in
    let found : escape_of (q ∷ l) ≡ Some read.escape = sym (ap (λ (m : Line). escape_of (behind_byte m)) pair.line) ∙ read.escape_is in
    let rest : drop read.escape.size (q ∷ l) ≡ line_from file to = sym (ap (λ (m : Line). drop read.escape.size (behind_byte m)) pair.line) ∙ sym read.line in
    record {
      forward = read.forward;
      inside = read.inside;
      piece = read.escape.text;
      text_is = read.text_is;
      unescaped_is = λ part _. ap (λ (m : Line). unescaped 0 (written part m)) pair.line ∙ (escape_step part (here file from) q l read.escape slash found).unescaped_is ∙ ap (λ (m : Line). before read.escape.text (unescaped 0 (written part m))) rest;
      beyond_is = λ part _. ap (beyond part) pair.line ∙ (escape_step part (here file from) q l read.escape slash found).beyond_is ∙ ap (beyond part) rest;
      behind = read.behind;
    }

pub next_fault : (file : Text) (from : ℕ) (error : PropError) → IsPair file from → IsEscapeFault file from error → IsNextFault file from error
next_fault file from (Fault (BadEscape at)) pair fault =
    let slash : is_backslash (here file from) ≡ true = ap (λ (n : ℕ). n == 92) pair.backslash in
    λ part _. ap (λ (m : Line). unescaped 0 (written part m)) pair.line ∙ escape_fault part (here file from) (here file (from + 1)) (line_from file (from + 2)) slash (sym (ap (λ (m : Line). escape_of (behind_byte m)) pair.line) ∙ fault.1) ∙ ap Err (sym fault.0)
next_fault file from (Fault (NotUtf8 at)) pair fault = absurd fault
next_fault file from Memory pair fault = tt

pub next_plain : (file : Text) (from : ℕ) (old new : Text) → from < length file → natural_line_from file from ≢ [] → (slice_index file from == 92) ≡ false → new ≡ old ++ slice_index file from ∷ [] → IsNextRead file from old new (from + 1)
next_plain file from old new h some x text = elim (front_of_byte file from h) [
  | nothing line ↦ absurd (some line)
  | something _ _ byte ↦
      let plain : IsPlain file from = plain_at file from byte x in
      let stops : (part : Part) → is_stop part (natural_line_from file from) ≡ false → is_stop_byte part (slice_index file from) ≡ false = λ part go. sym (ap (is_stop part) byte.line) ∙ go in
      record {
        forward = omega arith;
        inside = omega arith;
        piece = slice_index file from ∷ [];
        text_is = text;
        unescaped_is = λ part go. ap (λ (m : Line). unescaped 0 (written part m)) plain.line ∙ (plain_step part (here file from) (line_from file (from + 1)) x (stops part go)).unescaped_is;
        beyond_is = λ part go. ap (beyond part) plain.line ∙ (plain_step part (here file from) (line_from file (from + 1)) x (stops part go)).beyond_is;
        behind = sym plain.behind;
      }
]

pub goes_within : (file : Text) (part : Part) (at : ℕ) → at ≤ length file → is_stop part (natural_line_from file at) ≡ false → at < length file
goes_within file part at h go = elim (at == length file) as (λ (x : Bool). (at == length file) ≡ x → at < length file) [
  | true ↦ λ e. absurd (stops (sym (ap (is_stop part) (last_at file at (omega (arith, eqb-true at (length file) e))).line) ∙ go))
  | false ↦ λ e. lt_from at (length file) h e
] refl
  where
    stops : true ≡ false → ⊥
    stops k = cc

value_stops : (l : Line) → is_stop Value l ≡ true → l ≡ []
value_stops [] h = refl
value_stops (p ∷ l) h = absurd cc

entry_further : (from behind at end to size : ℕ) → from < size → from ≤ behind → behind ≤ at → at ≤ end → end ≤ to → (end < size → end < to) → end ≤ size → from < to
entry_further from behind at end to size a b c d e f g = elim (end == size) as (λ (x : Bool). (end == size) ≡ x → from < to) [
  | true ↦ λ k. omega (arith, eqb-true end size k)
  | false ↦ λ k. omega (arith, f (lt_from end size g k))
] refl

pub entry_read : (file : Text) (from : ℕ) (key value : Text) (behind at end to : ℕ) → from < length file → IsPartRead file Key from key behind → IsSignRead file behind at → IsPartRead file Value at value end → IsNextLine file end to → IsEntryRead file from key value to
entry_read file from key value behind at end to h first sign second next =
    let value_line : line_from file at ≡ written_value (line_from file from) = sign.line ∙ ap (λ (l : Line). unindented (unsigned (unindented l))) first.line in
    let value_is : unescaped 0 (written_value (line_from file from)) ≡ Ok value = sym (ap (unescaped 0) value_line) ∙ second.text_is in
    record {
      further = entry_further from behind at end to (length file) h first.forward sign.forward second.forward next.forward next.further second.inside;
      inside = next.inside;
      entry_is = ap (λ (r : Result Text ℕ). entry_from r (unescaped 0 (written_value (line_from file from)))) first.text_is ∙ ap (entry_from (Ok key)) value_is;
      lines = next.lines ∙ sym (ended_at file end (value_stops (natural_line_from file end) second.stopped)).behind ∙ second.behind ∙ sign.behind ∙ first.behind;
    }

pub scalar_is : (n : ℕ) → InScalarRange n → is_surrogate n ≡ false
scalar_is n (inl low) = grind (arith, tests)
scalar_is n (inr high) = grind (arith, tests)

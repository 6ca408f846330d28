-- Loops that go on within a file.
use Rattle.std.proofs.Common.{◌≡◌, ℕ, ◌+◌, ◌<◌, ◌≤◌, ◌⊎◌, inl, inr, zero, suc, Bool, true, false, cond, ◌==◌, ◌||◌, List, [], ◌∷◌, length, drop, get_or, refl, sym, ap, subst, ◌∙◌, arith}
use Rattle.std.proofs.lemmas.Bool.{eqb-true, and_parts, or_parts}
use Rattle.std.proofs.lemmas.List.{length-drop, drop_more}
use Rattle.desk_base.specs.Names.{Text}
use Rattle.desk_properties.specs.Lines.{Line, is_white_byte, is_end_byte, is_comment_byte, unindented, logical_lines}
use Rattle.desk_properties.specs.Reading.{natural_from, natural_line_from, natural_behind, lines_from, end_size, begins_break, is_passed, here, IsUnindented, IsNextLine}
use Rattle.desk_properties.proofs.Places.{IsByte, byte_at, IsEnd, end_at, IsLast, last_at, IsSame, same_trans, break_line, break_last, natural_parts}

-- the byte at an offset, as the front of what is left of the file
pub size_at : (file : Text) (at : ℕ) → at < length file → end_size (drop at file) ≡ end_size (get_or file at 0 ∷ drop (at + 1) file)
size_at file at h = ap end_size (drop_more file at 0 h)

-- a byte other than LF and CR ends no line
pub size_plain : (b : ℕ) (t : Text) → (b == 10) ≡ false → (b == 13) ≡ false → end_size (b ∷ t) ≡ 0
size_plain b [] h k = rw (h, k) refl
size_plain b (c ∷ t) h k = rw (h, k) refl

-- LF and CR end a line
pub size_lf : (t : Text) → 0 < end_size (10 ∷ t)
size_lf [] = omega arith
size_lf (c ∷ t) = omega arith

pub size_cr : (t : Text) → 0 < end_size (13 ∷ t)
size_cr [] = omega arith
size_cr (c ∷ t) = elim (c == 10) as (λ (x : Bool). 0 < cond {A = ℕ} x 2 1) [ true ↦ omega arith | false ↦ omega arith ]

pub size_end : (b : ℕ) (t : Text) → (b == 10 || b == 13) ≡ true → 0 < end_size (b ∷ t)
size_end b t h = elim (b == 10) as (λ (x : Bool). (b == 10) ≡ x → (x || b == 13) ≡ true → 0 < end_size (b ∷ t)) [
  | true ↦ λ e _. subst (λ (n : ℕ). 0 < end_size (n ∷ t)) (sym (eqb-true b 10 e)) (size_lf t)
  | false ↦ λ _ k. subst (λ (n : ℕ). 0 < end_size (n ∷ t)) (sym (eqb-true b 13 k)) (size_cr t)
] refl h

white_ends_none : (b : ℕ) (t : Text) → is_white_byte b ≡ true → end_size (b ∷ t) ≡ 0
white_ends_none b t h = elim (b == 10) as (λ (x : Bool). (b == 10) ≡ x → end_size (b ∷ t) ≡ 0) [
  | true ↦ λ e. absurd (none (subst (λ (n : ℕ). is_white_byte n ≡ true) (eqb-true b 10 e) h))
  | false ↦ λ e. elim (b == 13) as (λ (x : Bool). (b == 13) ≡ x → end_size (b ∷ t) ≡ 0) [
    | true ↦ λ g. absurd (none (subst (λ (n : ℕ). is_white_byte n ≡ true) (eqb-true b 13 g) h))
    | false ↦ λ g. size_plain b t e g
  ] refl
] refl
  where
    none : false ≡ true → ⊥
    none k = cc

-- white space was skipped from one offset to another
pub record IsSkipped (file : Text) (from to : ℕ) : Type 0 where
  pub forward : from ≤ to
  pub inside : to ≤ length file
  pub line : unindented (natural_line_from file to) ≡ unindented (natural_line_from file from)
  pub behind : natural_behind file to ≡ natural_behind file from

pub skip_none : (file : Text) (from : ℕ) → from ≤ length file → IsSkipped file from from
skip_none file from h = record { forward = omega arith; inside = h; line = refl; behind = refl }

pub skip_more : (file : Text) (from at : ℕ) → IsSkipped file from at → at < length file → is_white_byte (get_or file at 0) ≡ true → IsSkipped file from (at + 1)
skip_more file from at so h w =
    let byte : IsByte file at = byte_at file at h (size_at file at h ∙ white_ends_none (get_or file at 0) (drop (at + 1) file) w) in
    record {
      forward = omega (arith, so.forward);
      inside = omega arith;
      line = sym (ap unindented byte.line ∙ ap (λ (x : Bool). cond x (unindented (natural_line_from file (at + 1))) (here file at ∷ natural_line_from file (at + 1))) w) ∙ so.line;
      behind = sym byte.behind ∙ so.behind;
    }

pub skip_at_byte : (file : Text) (from at : ℕ) → IsSkipped file from at → at < length file → is_white_byte (get_or file at 0) ≡ false → IsUnindented file from at
skip_at_byte file from at so h w = elim (end_size (drop at file)) as (λ (n : ℕ). end_size (drop at file) ≡ n → IsUnindented file from at) [
  | zero ↦ λ e.
      let byte : IsByte file at = byte_at file at h e in
      record { forward = so.forward; inside = so.inside; line = sym (ap unindented byte.line ∙ ap (λ (x : Bool). cond x (unindented (natural_line_from file (at + 1))) (here file at ∷ natural_line_from file (at + 1))) w ∙ sym byte.line) ∙ so.line; behind = so.behind }
  | suc n ↦ λ e.
      let end : IsEnd file at = end_at file at (omega arith) in
      record { forward = so.forward; inside = so.inside; line = end.line ∙ sym (ap unindented end.line) ∙ so.line; behind = so.behind }
] refl

pub skip_at_last : (file : Text) (from at : ℕ) → IsSkipped file from at → length file ≤ at → IsUnindented file from at
skip_at_last file from at so h =
    let last : IsLast file at = last_at file at h in
    record { forward = so.forward; inside = so.inside; line = last.line ∙ sym (ap unindented last.line) ∙ so.line; behind = so.behind }

-- bytes of a natural line were passed over
pub record IsPassedOver (file : Text) (from to : ℕ) : Type 0 where
  pub forward : from ≤ to
  pub inside : to ≤ length file
  pub behind : natural_behind file to ≡ natural_behind file from

pub pass_none : (file : Text) (from : ℕ) → from ≤ length file → IsPassedOver file from from
pass_none file from h = record { forward = omega arith; inside = h; behind = refl }

pub pass_more : (file : Text) (from at : ℕ) → IsPassedOver file from at → at < length file → end_size (drop at file) ≡ 0 → IsPassedOver file from (at + 1)
pass_more file from at so h e =
    let byte : IsByte file at = byte_at file at h e in
    record { forward = omega (arith, so.forward); inside = omega arith; behind = sym byte.behind ∙ so.behind }

pub pass_end : (file : Text) (from at size : ℕ) → IsPassedOver file from at → at < length file → size ≡ end_size (drop at file) → 0 < size → at + size ≤ length file → IsNextLine file from (at + size)
unfolding lines_from
pass_end file from at size so h e some inside =
    let end : IsEnd file at = end_at file at (omega arith) in
    record {
      forward = omega (arith, so.forward);
      further = λ _. omega (arith, so.forward);
      inside = inside;
      lines = ap (logical_lines false) (ap (λ (n : ℕ). natural_from file (at + n)) e ∙ sym end.behind ∙ so.behind);
    }

pub pass_last : (file : Text) (from at : ℕ) → IsPassedOver file from at → length file ≤ at → IsNextLine file from at
unfolding lines_from
pass_last file from at so h =
    let last : IsLast file at = last_at file at h in
    record {
      forward = so.forward;
      further = λ k. omega (arith, so.forward);
      inside = so.inside;
      lines = ap (logical_lines false) (natural_parts file at) ∙ ap (λ (l : Line). logical_lines false (l ∷ natural_behind file at)) last.line ∙ ap (λ (ls : List Line). logical_lines false ls) so.behind;
    }

-- the same logical line goes on at both offsets
pub record IsResumedSoFar (file : Text) (from to : ℕ) : Type 0 where
  pub forward : from ≤ to
  pub inside : to ≤ length file
  pub same : IsSame file from to

pub resume_none : (file : Text) (from : ℕ) → from ≤ length file → IsResumedSoFar file from from
resume_none file from h = record { forward = omega arith; inside = h; same = record { line = refl; behind = refl } }

-- what a line break that continues a line is made of
record IsBreak (b : ℕ) (t : Text) : Type 0 where
  backslash : (b == 92) ≡ true
  ends : (t ≡ []) ⊎ (0 < end_size t)

break_parts : (b : ℕ) (t : Text) → begins_break (b ∷ t) ≡ true → IsBreak b t
break_parts b [] h = record { backslash = h; ends = inl refl }
break_parts b (c ∷ t) h = record { backslash = (and_parts _ _ h).0; ends = inr (size_end c t (and_parts _ _ h).1) }

backslash_ends_none : (b : ℕ) (t : Text) → (b == 92) ≡ true → end_size (b ∷ t) ≡ 0
backslash_ends_none b t h = subst (λ (n : ℕ). end_size (n ∷ t) ≡ 0) (sym (eqb-true b 92 h)) (size_plain 92 t refl refl)

-- a backslash is a byte of its natural line
pub backslash_at : (file : Text) (at : ℕ) → at < length file → (get_or file at 0 == 92) ≡ true → IsByte file at
backslash_at file at h b = byte_at file at h (size_at file at h ∙ backslash_ends_none (get_or file at 0) (drop (at + 1) file) b)

break_at : (file : Text) (at : ℕ) → at < length file → begins_break (drop at file) ≡ true → IsBreak (get_or file at 0) (drop (at + 1) file)
break_at file at h k = break_parts (get_or file at 0) (drop (at + 1) file) (ap begins_break (sym (drop_more file at 0 h)) ∙ k)

-- a break stands within the file
pub break_within : (file : Text) (at : ℕ) → begins_break (drop at file) ≡ true → at < length file
break_within file at h = elim (drop at file) as (λ (t : Text). drop at file ≡ t → begins_break t ≡ true → at < length file) [
  | [] ↦ λ _ k. absurd (none k)
  | b ∷ t ↦ λ e _. omega (arith, length-drop at file, ap length e)
] refl h
  where
    none : false ≡ true → ⊥
    none k = cc

pub resume_more : (file : Text) (from at size to : ℕ) → IsResumedSoFar file from at → begins_break (drop at file) ≡ true → size ≡ end_size (drop (at + 1) file) → IsUnindented file (at + 1 + size) to → IsResumedSoFar file from to
resume_more file from at size to so h e white =
    let within : at < length file = break_within file at h in
    let parts : IsBreak (get_or file at 0) (drop (at + 1) file) = break_at file at within h in
    let byte : IsByte file at = backslash_at file at within parts.backslash in
    let same : IsSame file at to = elim parts.ends [
      | inl empty ↦
          let past : length file ≤ at + 1 = omega (arith, length-drop (at + 1) file, ap length empty) in
          let none : size ≡ 0 = e ∙ ap end_size empty in
          break_last file at to byte parts.backslash (last_at file (at + 1) past) (subst (λ (n : ℕ). IsUnindented file n to) (omega (arith, none)) white)
      | inr some ↦ break_line file at to byte parts.backslash (end_at file (at + 1) some) (subst (λ (n : ℕ). IsUnindented file (at + 1 + n) to) e white)
    ] in
    record { forward = omega (arith, so.forward, white.forward); inside = white.inside; same = same_trans file from at to so.same same }

-- whether a natural line goes on is told by the byte there
pub ends_at : (file : Text) (at : ℕ) → at < length file → is_end_byte (get_or file at 0) ≡ true → IsEnd file at
ends_at file at h e = end_at file at (subst (λ (n : ℕ). 0 < n) (sym (size_at file at h)) (size_end (get_or file at 0) (drop (at + 1) file) e))

pub goes_on_at : (file : Text) (at : ℕ) → at < length file → is_end_byte (get_or file at 0) ≡ false → IsByte file at
goes_on_at file at h e =
    let parts : ((get_or file at 0 == 10) ≡ false) × ((get_or file at 0 == 13) ≡ false) = or_parts _ _ e in
    byte_at file at h (size_at file at h ∙ size_plain (get_or file at 0) (drop (at + 1) file) parts.0 parts.1)

pub passed_at : (file : Text) (at : ℕ) → at < length file → (is_end_byte (get_or file at 0) || is_comment_byte (get_or file at 0)) ≡ is_passed (natural_line_from file at)
passed_at file at h = elim (is_end_byte (get_or file at 0)) as (λ (x : Bool). is_end_byte (get_or file at 0) ≡ x → (x || is_comment_byte (get_or file at 0)) ≡ is_passed (natural_line_from file at)) [
  | true ↦ λ e. sym (ap is_passed (ends_at file at h e).line)
  | false ↦ λ e. sym (ap is_passed (goes_on_at file at h e).line)
] refl

pub passed_last : (file : Text) (at : ℕ) → length file ≤ at → true ≡ is_passed (natural_line_from file at)
passed_last file at h = sym (ap is_passed (last_at file at h).line)

-- Bytes that a reader of clauses passes without any change of its state.
use Rattle.std.proofs.Common.{◌≡◌, ℕ, Bool, true, false, cond, not, ◌&&◌, ◌==◌, [], ◌∷◌, refl, sym, ap, ◌∙◌, inl, inr}
use Rattle.std.specs.List.{list_all}
use Rattle.std.proofs.lemmas.Bool.{cases_Bool, and_parts, and_from, or_from, not-true, not_from_false, both_ways, eqb-true}
use Rattle.desk_base.specs.Names.{Text, is_identifier_byte}
use Rattle.desk_lines.specs.Blanks.{is_blank, not_blank}
use Rattle.desk_entries.specs.Forms.{is_symbolic_byte, is_version_byte}
use Rattle.desk_clauses.specs.Quotes.{next, is_outside}
use Rattle.desk_clauses.specs.declared.quotes.Quoting.{Quoting}
use Rattle.desk_clauses.specs.declared.quotes.Quoting.TheVariants.{Outside, Quoted, Escaped}
use Rattle.desk_manifest_laws.proofs.Bare.{after, bare}

-- no quote, mark, backslash or line end
abbrev pub is_mild : ℕ → Bool
is_mild b = not (b == 34) && (not (b == 92) && (not (b == 44) && (not (b == 59) && (not (b == 61) && (not (b == 10) && not (b == 13))))))

-- what such a byte is not
pub record MildParts (b : ℕ) : Type 0 where
  pub quote : not (b == 34) ≡ true
  pub backslash : not (b == 92) ≡ true
  pub no_comma : not (b == 44) ≡ true
  pub no_semicolon : not (b == 59) ≡ true
  pub no_equals : not (b == 61) ≡ true
  pub line : (not (b == 10) && not (b == 13)) ≡ true

pub mild_parts : (b : ℕ) → is_mild b ≡ true → MildParts b
mild_parts b h =
    let one = and_parts (not (b == 34)) (not (b == 92) && (not (b == 44) && (not (b == 59) && (not (b == 61) && (not (b == 10) && not (b == 13)))))) h in
    let two = and_parts (not (b == 92)) (not (b == 44) && (not (b == 59) && (not (b == 61) && (not (b == 10) && not (b == 13))))) one.1 in
    let three = and_parts (not (b == 44)) (not (b == 59) && (not (b == 61) && (not (b == 10) && not (b == 13)))) two.1 in
    let four = and_parts (not (b == 59)) (not (b == 61) && (not (b == 10) && not (b == 13))) three.1 in
    let five = and_parts (not (b == 61)) (not (b == 10) && not (b == 13)) four.1 in
    record { quote = one.0; backslash = two.0; no_comma = three.0; no_semicolon = four.0; no_equals = five.0; line = five.1 }

-- and no blank
abbrev pub is_plain : ℕ → Bool
is_plain b = is_mild b && not_blank b

-- a byte that passes a test is none that fails it
pub no_byte : (p : ℕ → Bool) (c : ℕ) → p c ≡ false → (b : ℕ) → p b ≡ true → not (b == c) ≡ true
no_byte p c odd b h = elim (cases_Bool (b == c)) [
  | inl e ↦ absurd (both_ways (p c) odd (ap p (sym (eqb-true b c e)) ∙ h))
  | inr e ↦ not_from_false _ e
]

no_blank : (p : ℕ → Bool) → p 32 ≡ false → p 9 ≡ false → (b : ℕ) → p b ≡ true → not_blank b ≡ true
no_blank p space tab b h = ap not (or_from (b == 32) (b == 9) (not-true _ (no_byte p 32 space b h)) (not-true _ (no_byte p 9 tab b h)))

mild_by : (p : ℕ → Bool) → p 34 ≡ false → p 92 ≡ false → p 44 ≡ false → p 59 ≡ false → p 61 ≡ false → p 10 ≡ false → p 13 ≡ false → (b : ℕ) → p b ≡ true → is_mild b ≡ true
mild_by p quote slash comma semi equals lf cr b h =
    and_from _ _ (no_byte p 34 quote b h) (and_from _ _ (no_byte p 92 slash b h) (and_from _ _ (no_byte p 44 comma b h) (and_from _ _ (no_byte p 59 semi b h)
    (and_from _ _ (no_byte p 61 equals b h) (and_from _ _ (no_byte p 10 lf b h) (no_byte p 13 cr b h))))))

pub identifier_plain : (b : ℕ) → is_identifier_byte b ≡ true → is_plain b ≡ true
identifier_plain b h = and_from _ _ (mild_by is_identifier_byte refl refl refl refl refl refl refl b h) (no_blank is_identifier_byte refl refl b h)

pub symbolic_plain : (b : ℕ) → is_symbolic_byte b ≡ true → is_plain b ≡ true
symbolic_plain b h = and_from _ _ (mild_by is_symbolic_byte refl refl refl refl refl refl refl b h) (no_blank is_symbolic_byte refl refl b h)

pub blank_mild : (b : ℕ) → is_blank b ≡ true → is_mild b ≡ true
blank_mild = mild_by is_blank refl refl refl refl refl refl refl

pub plain_mild : (b : ℕ) → is_plain b ≡ true → is_mild b ≡ true
plain_mild b h = (and_parts _ _ h).0

pub plain_unblank : (b : ℕ) → is_plain b ≡ true → not_blank b ≡ true
plain_unblank b h = (and_parts _ _ h).1

-- a byte that may stand in a version in quotes
abbrev pub is_quotable : ℕ → Bool
is_quotable b = not (b == 34) && (not (b == 92) && (not (b == 10) && not (b == 13)))

pub version_quotable : (b : ℕ) → is_version_byte b ≡ true → is_quotable b ≡ true
version_quotable b h =
    and_from _ _ (no_byte is_version_byte 34 refl b h) (and_from _ _ (no_byte is_version_byte 92 refl b h) (and_from _ _ (no_byte is_version_byte 10 refl b h) (no_byte is_version_byte 13 refl b h)))

-- ---- a reader

-- outside quotes, or inside without a backslash right before
abbrev pub is_calm : Quoting → Bool
is_calm Outside = true
is_calm Quoted = true
is_calm Escaped = false

next_mild : (at : Quoting) (b : ℕ) → is_calm at ≡ true → is_mild b ≡ true → next at b ≡ at
next_mild Outside b c h = ap (λ (k : Bool). cond k Quoted Outside) (not-true _ (and_parts _ _ h).0)
next_mild Quoted b c h =
    ap (λ (k : Bool). cond k Outside (cond (b == 92) Escaped Quoted)) (not-true _ (and_parts _ _ h).0)
    ∙ ap (λ (k : Bool). cond k Escaped Quoted) (not-true _ (and_parts _ _ (and_parts _ _ h).1).0)
next_mild Escaped b c h = absurd cc

pub after_mild : (at : Quoting) (t : Text) → is_calm at ≡ true → list_all is_mild t ≡ true → after at t ≡ at
after_mild at [] c h = refl
after_mild at (b ∷ t) c h = ap (λ (r : Quoting). after r t) (next_mild at b c (and_parts _ _ h).0) ∙ after_mild at t c (and_parts _ _ h).1

-- a mark of clauses
pub data IsMark : ℕ → Type 0 where
  comma : IsMark 44
  semicolon : IsMark 59
  equals : IsMark 61

no_mark : (mark : ℕ) → IsMark mark → (b : ℕ) → is_mild b ≡ true → not (b == mark) ≡ true
no_mark mark comma b h = (mild_parts b h).no_comma
no_mark mark semicolon b h = (mild_parts b h).no_semicolon
no_mark mark equals b h = (mild_parts b h).no_equals

outside_other : (at : Quoting) (k : Bool) → not k ≡ true → not (is_outside at && k) ≡ true
outside_other Outside k h = h
outside_other Quoted k h = refl
outside_other Escaped k h = refl

pub bare_mild : (mark : ℕ) → IsMark mark → (at : Quoting) (t : Text) → is_calm at ≡ true → list_all is_mild t ≡ true → bare mark at t ≡ true
bare_mild mark is at [] c h = refl
bare_mild mark is at (b ∷ t) c h =
    and_from _ _ (outside_other at (b == mark) (no_mark mark is b (and_parts _ _ h).0))
    (ap (λ (r : Quoting). bare mark r t) (next_mild at b c (and_parts _ _ h).0) ∙ bare_mild mark is at t c (and_parts _ _ h).1)

-- text that can stand in quotes, inside them
pub after_quoted : (t : Text) → list_all is_quotable t ≡ true → after Quoted t ≡ Quoted
after_quoted [] h = refl
after_quoted (b ∷ t) h =
    let one = (and_parts _ _ h).0 in
    ap (λ (r : Quoting). after r t) (ap (λ (k : Bool). cond k Outside (cond (b == 92) Escaped Quoted)) (not-true _ (and_parts _ _ one).0) ∙ ap (λ (k : Bool). cond k Escaped Quoted) (not-true _ (and_parts _ _ (and_parts _ _ one).1).0))
    ∙ after_quoted t (and_parts _ _ h).1

pub bare_quoted : (mark : ℕ) (t : Text) → list_all is_quotable t ≡ true → bare mark Quoted t ≡ true
bare_quoted mark [] h = refl
bare_quoted mark (b ∷ t) h =
    let one = (and_parts _ _ h).0 in
    ap (λ (r : Quoting). bare mark r t) (ap (λ (k : Bool). cond k Outside (cond (b == 92) Escaped Quoted)) (not-true _ (and_parts _ _ one).0) ∙ ap (λ (k : Bool). cond k Escaped Quoted) (not-true _ (and_parts _ _ (and_parts _ _ one).1).0))
    ∙ bare_quoted mark t (and_parts _ _ h).1

-- ---- a text in place of another

-- a reader cannot tell the one from the other: it finds no mark in both, and stands the same behind them
pub record Passes (mark : ℕ) (at : Quoting) (old new : Text) : Type 0 where
  pub unmarked : bare mark at old ≡ true → bare mark at new ≡ true
  pub state : after at new ≡ after at old

pub passes_same : (mark : ℕ) (at : Quoting) (t : Text) → Passes mark at t t
passes_same mark at t = record { unmarked = λ h. h; state = refl }

pub passes_mild : (mark : ℕ) → IsMark mark → (at : Quoting) (old new : Text) → is_calm at ≡ true → list_all is_mild old ≡ true → list_all is_mild new ≡ true → Passes mark at old new
passes_mild mark is at old new c h g = record {
  unmarked = λ k. bare_mild mark is at new c g;
  state = after_mild at new c g ∙ sym (after_mild at old c h);
}

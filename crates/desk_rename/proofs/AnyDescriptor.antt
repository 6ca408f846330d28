-- Descriptors of any kind, told by their first byte.
use mathlib.Core.Bool.{or-false}
use Rattle.std.proofs.Common.{◌≡◌, ℕ, Bool, true, false, cond, ◌||◌, ◌==◌, List, [], ◌∷◌, refl, sym, ap, ◌∙◌, inl, inr, Option, Some, None, MatchOption}
use Rattle.std.specs.Prelude.{is_some, IfSome}
use Rattle.desk_names.specs.Pieces.{Piece, pieces, joined, AreCut}
use Rattle.desk_rename.specs.Drafts.{IsReadDescriptor}
use Rattle.std.proofs.lemmas.Bool.{cases_Bool, eqb-true}
use Rattle.desk_base.specs.Names.{Text}
use Rattle.desk_base.specs.Descriptors.{Awaited, Position, DescriptorKind, is_descriptor, as_is, run, step, is_over}
use Rattle.desk_names.proofs.FieldDescriptors.{field_returned}
use Rattle.desk_rename.specs.Images.{is_any_descriptor}

wrong_stays : (t : Text) → run Awaited.wrong t ≡ Awaited.wrong
unfolding run step
wrong_stays [] = refl
wrong_stays (b ∷ t) = wrong_stays t

-- a text that begins with `(` is no field or return descriptor
no_field : (t : Text) → is_descriptor DescriptorKind.field (40 ∷ t) ≡ false
unfolding is_descriptor run step
no_field t = ap is_over (wrong_stays t)

no_return : (t : Text) → is_descriptor DescriptorKind.return (40 ∷ t) ≡ false
unfolding is_descriptor run step
no_return t = ap is_over (wrong_stays t)

pub any_method : (t : Text) → is_any_descriptor (40 ∷ t) ≡ is_descriptor DescriptorKind.method (40 ∷ t)
any_method t = ap (λ (b : Bool). b || is_descriptor DescriptorKind.method (40 ∷ t) || is_descriptor DescriptorKind.return (40 ∷ t)) (no_field t)
    ∙ ap (λ (b : Bool). is_descriptor DescriptorKind.method (40 ∷ t) || b) (no_return t)
    ∙ or-false (is_descriptor DescriptorKind.method (40 ∷ t))

-- any other text is no method descriptor
no_method_step : (b : ℕ) (t : Text) → (b == 40) ≡ false → is_descriptor DescriptorKind.method (b ∷ t) ≡ false
unfolding is_descriptor run step
no_method_step b t h = ap (λ (x : Bool). is_over (run (cond x (Awaited.type_behind (Position.parameter 0) 0) Awaited.wrong) t)) h ∙ ap is_over (wrong_stays t)

no_method_none : is_descriptor DescriptorKind.method [] ≡ false
unfolding is_descriptor run
no_method_none = refl

or_last : (a b c : Bool) → (a ≡ true → c ≡ true) → b ≡ false → (a || b || c) ≡ c
or_last true b c f e = sym (f refl)
or_last false b c f e = ap (λ (x : Bool). x || c) e

pub any_return : (text : Text) → is_descriptor DescriptorKind.method text ≡ false → is_any_descriptor text ≡ is_descriptor DescriptorKind.return text
any_return text none = or_last (is_descriptor DescriptorKind.field text) (is_descriptor DescriptorKind.method text) (is_descriptor DescriptorKind.return text) (field_returned text) none

pub no_method : (text : Text) → ((rest : Text) → text ≡ 40 ∷ rest → ⊥) → is_descriptor DescriptorKind.method text ≡ false
no_method [] h = no_method_none
no_method (b ∷ t) h = elim (cases_Bool (b == 40)) [
  | inl e ↦ absurd (h t (ap (λ (x : ℕ). x ∷ t) (eqb-true b 40 e)))
  | inr e ↦ no_method_step b t e
]

-- what is answered of a text, by its first byte
pub read_by : (text : Text) (kind : DescriptorKind) (o : Option (List Piece)) → is_any_descriptor text ≡ is_descriptor kind text → is_some o ≡ is_descriptor kind text → IfSome o (λ ps. ps ≡ pieces text) → IfSome o (λ ps. joined as_is ps ≡ text) → IfSome o AreCut
    → MatchOption o (is_any_descriptor text ≡ false) (IsReadDescriptor text)
read_by text kind None any some parts joins cut = any ∙ sym some
read_by text kind (Some ps) any some parts joins cut = record { read = any ∙ sym some; parts = parts; joins = joins; cut = cut }

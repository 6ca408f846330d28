-- A text between its blanks.
use Rattle.std.proofs.Common.{◌≡◌, ◌≤◌, ◌+◌, ℕ, [], ◌∷◌, ◌++◌, length, take, drop, refl, sym, ap, ap₂, ◌∙◌, arith, append_assoc, get_or}
use Rattle.std.proofs.lemmas.List.{drop_at, take_more, drop_more}
use Rattle.desk_base.specs.Names.{Text}
use Rattle.desk_lines.specs.Cuts.{onward}
use Rattle.desk_lines.specs.Blanks.{not_blank, leading_blanks, trailing_blanks, trimmed_end, trimmed}
use Rattle.desk_lines.proofs.Cuts.{take_until, drop_until, until-onward}
use Rattle.desk_lines.proofs.Trimming.{trimmed-trailing, trimmed_end_within}
use Rattle.desk_lines.specs.Lines.{rest}
use Rattle.desk_clauses.specs.Quotes.{before_mark}
use Rattle.desk_clauses.specs.Grammar.{between_blanks, with_argument, argument}
use Rattle.desk_clauses.specs.Cuts.{IsMarkPlace}
use Rattle.desk_clauses.specs.declared.quotes.Quoting.TheVariants.{Outside}
use Rattle.desk_clauses.proofs.Firsts.{from_begins}

pub behind_trimmed : (t : Text) → drop (length (trimmed_end t)) t ≡ trailing_blanks t
behind_trimmed t = ap (drop (length (trimmed_end t))) (sym (trimmed-trailing t)) ∙ drop_at (trimmed_end t) (trailing_blanks t) (length (trimmed_end t)) refl

pub trimmed_in : (text more core : Text) → core ≡ trimmed_end more → length core ≤ length more
trimmed_in text more core e = let within : length (trimmed_end more) ≤ length more = trimmed_end_within more in let size : length core ≡ length (trimmed_end more) = ap length e in omega (arith, within, size)

pub parts_are : (text more core : Text) (lead : ℕ) → lead ≡ length (leading_blanks text) → more ≡ drop lead text → core ≡ trimmed_end more
    → (take lead text ≡ leading_blanks text) × (drop (length core) more ≡ trailing_blanks (onward not_blank text))
parts_are text more core lead lead_is more_is core_is =
    let inner : more ≡ onward not_blank text = more_is ∙ ap (λ (n : ℕ). drop n text) lead_is ∙ drop_until not_blank text in (
      ap (λ (n : ℕ). take n text) lead_is ∙ take_until not_blank text,
      ap (λ (t : Text). drop (length t) more) core_is ∙ behind_trimmed more ∙ ap trailing_blanks inner,
    )

pub three_parts : (out a b c x y z w : Text) → x ≡ out ++ a → y ≡ x ++ b → z ≡ y ++ c → z ≡ out ++ (a ++ (b ++ c))
three_parts out a b c x y z w p q r = r ∙ ap (λ (t : Text). t ++ c) (q ∙ ap (λ (t : Text). t ++ b) p) ∙ append_assoc (out ++ a) b c ∙ append_assoc out a (b ++ c)

-- a text is its trimmed part between its blanks
pub between_own : (text : Text) → between_blanks (trimmed text) text ≡ text
between_own text = ap (λ (t : Text). leading_blanks text ++ t) (trimmed-trailing (onward not_blank text)) ∙ until-onward not_blank text

-- a parameter's argument, behind its `=`
pub argument_at : (part : Text) (place : ℕ) → IsMarkPlace part place → (take (place + 1) part ≡ before_mark 61 Outside part ++ 61 ∷ []) × (drop (place + 1) part ≡ argument part)
argument_at part place k =
    let b = get_or part place 0 in
    let more : drop place part ≡ b ∷ drop (place + 1) part = drop_more part place 0 k.inside in
    let mark : b ≡ 61 = from_begins 61 Outside part b (drop (place + 1) part) (sym k.from ∙ more) in (
      take_more part place 0 k.inside ∙ ap₂ (λ (t : Text) (x : ℕ). t ++ x ∷ []) k.before mark,
      sym (ap rest (sym k.from ∙ more)),
    )

pub with_argument_is : (part new : Text) (place : ℕ) → IsMarkPlace part place → take (place + 1) part ++ between_blanks new (drop (place + 1) part) ≡ with_argument (between_blanks new (argument part)) part
with_argument_is part new place k =
    let at = argument_at part place k in
    ap₂ (λ (x y : Text). x ++ between_blanks new y) at.0 at.1 ∙ append_assoc (before_mark 61 Outside part) (61 ∷ []) (between_blanks new (argument part))

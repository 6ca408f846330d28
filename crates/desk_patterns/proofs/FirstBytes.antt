-- Which bytes texts begin with, as bytes are added.
use Rattle.std.proofs.Common.{◌≡◌, ◌+◌, ◌-◌, ℕ, zero, suc, Bool, true, false, List, length, take, drop, get_or, set, slice_index, replicate, refl, sym, ap, ◌∙◌, inl, inr, arith}
use Rattle.std.proofs.lemmas.Bool.{cases_order}
use Rattle.std.proofs.lemmas.List.{take_all, length-drop, get_or-drop, get_or-set_other, length-replicate}
use Rattle.desk_base.specs.Names.{Text}
use Rattle.desk_patterns.specs.FirstBytes.{is_first, NoneFirst, IsCovered}
use Rattle.desk_patterns.specs.declared.first_bytes.Few.TheVariants.{Nothing}

none_there : (n byte : ℕ) → get_or (replicate n false) byte false ≡ false
none_there zero byte = refl
none_there (suc n) zero = refl
none_there (suc n) (suc byte) = none_there n byte

pub covered_none : (table : List Bool) → table ≡ replicate 256 false → IsCovered table Nothing
covered_none table e = record {
  count = ap length e ∙ length-replicate {A = Bool} 256 false;
  covered = λ byte h. absurd (let gone : is_first table byte ≡ false = ap (λ (t : List Bool). get_or t byte false) e ∙ none_there 256 byte in cc (h, gone));
}

-- a byte stays where another is added
pub first_kept : (table : List Bool) (byte other : ℕ) → is_first (set table byte true) byte ≡ true → is_first table other ≡ true → is_first (set table byte true) other ≡ true
first_kept table byte other added h = elim (cases_order other byte) [
  | inl same ↦ ap (is_first (set table byte true)) same ∙ added
  | inr apart ↦ get_or-set_other table byte other true false (λ e. elim apart [ inl lt ↦ omega arith | inr gt ↦ omega arith ]) ∙ h
]

-- what holds of the rest of a text
pub rest_first : (table : List Bool) (text : Text) (from to : ℕ) → NoneFirst table (take (length text - from) (drop from text)) 0 to → NoneFirst table text from (from + to)
rest_first table text from to h k l r =
    let rest : take (length text - from) (drop from text) ≡ drop from text = take_all (length text - from) (drop from text) (omega (arith, length-drop from text)) in
    let place : from + (k - from) ≡ k = omega arith in
    let same : slice_index (take (length text - from) (drop from text)) (k - from) ≡ slice_index text k =
    ap (λ (t : Text). slice_index t (k - from)) rest ∙ get_or-drop from text (k - from) 0 ∙ ap (slice_index text) place in
    sym (ap (is_first table) same) ∙ h (k - from) (omega arith) (omega arith)

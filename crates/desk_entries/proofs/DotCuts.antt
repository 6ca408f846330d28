-- Cutting a text at its dots.
use Rattle.std.proofs.Common.{◌≡◌, ◌≤◌, ◌<◌, ◌+◌, ◌-◌, ℕ, true, not, ◌==◌, [], ◌∷◌, ◌++◌, length, take, drop, get_or, refl, sym, ap, ◌∙◌, arith, length-drop}
use Rattle.std.proofs.lemmas.Bool.{and_from, not_from_false, ne_eqb}
use Rattle.std.proofs.lemmas.List.{take_more, get_or-drop, append_assoc, take_all}
use Rattle.std.proofs.lemmas.List.Folds.{list_all-append}
use Rattle.std.specs.List.{slice_split}
use Rattle.std.proofs.lemmas.List.Splits.{slice_split_at, slice_split_none}
use Rattle.desk_base.specs.Names.{Text, Package, is_whole}
use Rattle.desk_base.proofs.Lists.{rest_at}
use Rattle.desk_base.proofs.Separated.{none_is}

-- the parts of a text between dots
abbrev pub parts_of : Text → Package
parts_of text = slice_split (λ b. b == 46) text

-- how far a text is cut
pub record IsCutTo (text : Text) (parts : Package) (from i : ℕ) : Type 0 where
  pub order : from ≤ i
  pub cut : parts ++ parts_of (drop from text) ≡ parts_of text
  pub clear : is_whole 46 (take (i - from) (drop from text)) ≡ true

pub cut_dot : (text : Text) (parts : Package) (from i : ℕ) → IsCutTo text parts from i → i < length text → get_or text i 0 ≡ 46 → (x : Text) → x ≡ take (i - from) (drop from text) → IsCutTo text (parts ++ x ∷ []) (i + 1) (i + 1)
cut_dot text parts from i so_far within dot x is =
    let rest : parts_of (drop from text) ≡ x ∷ parts_of (drop (i + 1) text) =
    ap parts_of (rest_at text from i so_far.order within ∙ ap (λ (b : ℕ). take (i - from) (drop from text) ++ b ∷ drop (i + 1) text) dot)
    ∙ slice_split_at (λ b. b == 46) (take (i - from) (drop from text)) 46 (drop (i + 1) text) (none_is 46 (take (i - from) (drop from text)) so_far.clear) refl
    ∙ ap (λ (t : Text). t ∷ parts_of (drop (i + 1) text)) (sym is) in
    let none : (i + 1) - (i + 1) ≡ 0 = omega arith in
    record {
      order = omega arith;
      cut = append_assoc parts (x ∷ []) (parts_of (drop (i + 1) text)) ∙ ap (λ (p : Package). parts ++ p) (sym rest) ∙ so_far.cut;
      clear = ap (λ (n : ℕ). is_whole 46 (take n (drop (i + 1) text))) none;
    }

pub cut_on : (text : Text) (parts : Package) (from i : ℕ) → IsCutTo text parts from i → i < length text → (get_or text i 0 ≡ 46 → ⊥) → IsCutTo text parts from (i + 1)
cut_on text parts from i so_far within other =
    let next : (i + 1) - from ≡ (i - from) + 1 = omega (arith, so_far.order) in
    let there : from + (i - from) ≡ i = omega (arith, so_far.order) in
    let inside : i - from < length (drop from text) = omega (arith, so_far.order, length-drop from text) in
    let byte : get_or (drop from text) (i - from) 0 ≡ get_or text i 0 = get_or-drop from text (i - from) 0 ∙ ap (λ (n : ℕ). get_or text n 0) there in
    let longer : take ((i + 1) - from) (drop from text) ≡ take (i - from) (drop from text) ++ get_or text i 0 ∷ [] =
    ap (λ (n : ℕ). take n (drop from text)) next ∙ take_more (drop from text) (i - from) 0 inside ∙ ap (λ (b : ℕ). take (i - from) (drop from text) ++ b ∷ []) byte in
    record {
      order = omega (arith, so_far.order);
      cut = so_far.cut;
      clear = ap (is_whole 46) longer ∙ list_all-append (λ b. not (b == 46)) (take (i - from) (drop from text)) (get_or text i 0 ∷ []) ∙ and_from _ _ so_far.clear (and_from _ _ (not_from_false _ (ne_eqb (get_or text i 0) 46 other)) refl);
    }

pub cut_end : (text : Text) (parts : Package) (from i : ℕ) → IsCutTo text parts from i → length text ≤ i → (x : Text) → x ≡ drop from text → parts ++ x ∷ [] ≡ parts_of text
cut_end text parts from i so_far done x is =
    let all : take (i - from) (drop from text) ≡ drop from text = take_all (i - from) (drop from text) (omega (arith, length-drop from text)) in
    ap (λ (t : Text). parts ++ t ∷ []) is
    ∙ ap (λ (p : Package). parts ++ p) (sym (slice_split_none (λ b. b == 46) (drop from text) (none_is 46 (drop from text) (ap (is_whole 46) (sym all) ∙ so_far.clear))))
    ∙ so_far.cut

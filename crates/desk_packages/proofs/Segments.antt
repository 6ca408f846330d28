-- Texts cut at a separator.
use Rattle.std.proofs.Common.{◌≡◌, ◌<◌, ◌+◌, ℕ, Bool, true, false, ◌==◌, [], ◌∷◌, ◌++◌, length, take, drop, refl, sym, ap, ◌∙◌, inl, inr, arith}
use Rattle.std.specs.List.{list_all, slice_split, onto_first}
use Rattle.std.proofs.lemmas.Bool.{and_parts, eq-eqb, both_ways}
use Rattle.std.proofs.lemmas.List.{take-append-drop, drop_more}
use Rattle.std.proofs.lemmas.List.Splits.{slice_split_at, slice_split_none, slice_split-cons_yes, slice_split-cons_no, length-slice_split}
use Rattle.desk_base.specs.Names.{Text, Package, segments, front, is_name, is_whole}
use Rattle.desk_base.proofs.Separated.{none_is, split_whole, front-push}
use Rattle.desk_packages.specs.Fronts.{IsLastAt, IsFrontEnd}

onto_first_push : (b : ℕ) (ps : Package) (more : Text) → 0 < length ps → onto_first b (ps ++ more ∷ []) ≡ onto_first b ps ++ more ∷ []
onto_first_push b [] more h = absurd (omega arith)
onto_first_push b (p ∷ ps) more h = refl

-- the parts of a text whose last separator is known
split_last : (s : ℕ) (a more : Text) → is_whole s more ≡ true → slice_split (λ b. b == s) (a ++ s ∷ more) ≡ slice_split (λ b. b == s) a ++ more ∷ []
split_last s [] more h = slice_split_at (λ b. b == s) [] s more (none_is s [] refl) (eq-eqb s s refl) ∙ ap (λ (ps : Package). [] ∷ ps) (slice_split_none (λ b. b == s) more (none_is s more h))
split_last s (b ∷ a) more h =
    elim (b == s) as (λ (t : Bool). (b == s) ≡ t → slice_split (λ b. b == s) ((b ∷ a) ++ s ∷ more) ≡ slice_split (λ b. b == s) (b ∷ a) ++ more ∷ []) [
      | true ↦ λ e.
          slice_split-cons_yes (λ b. b == s) b (a ++ s ∷ more) e ∙ ap (λ (ps : Package). [] ∷ ps) (split_last s a more h)
          ∙ sym (ap (λ (ps : Package). ps ++ more ∷ []) (slice_split-cons_yes (λ b. b == s) b a e))
      | false ↦ λ e.
          let some : 0 < length (slice_split (λ b. b == s) a) = omega (arith, length-slice_split (λ b. b == s) a) in
          slice_split-cons_no (λ b. b == s) b (a ++ s ∷ more) e ∙ ap (onto_first b) (split_last s a more h) ∙ onto_first_push b (slice_split (λ b. b == s) a) more some
          ∙ sym (ap (λ (ps : Package). ps ++ more ∷ []) (slice_split-cons_no (λ b. b == s) b a e))
    ] refl

-- a package that is not empty, a separator and a last part
pub behind_last : (s b : ℕ) (a more : Text) → is_whole s more ≡ true → segments s ((b ∷ a) ++ s ∷ more) ≡ segments s (b ∷ a) ++ more ∷ []
behind_last s b a more h = split_last s (b ∷ a) more h

-- a text without separators
pub whole_alone : (s b : ℕ) (t : Text) → is_whole s (b ∷ t) ≡ true → segments s (b ∷ t) ≡ (b ∷ t) ∷ []
whole_alone s b t h = slice_split_none (λ b. b == s) (b ∷ t) (none_is s (b ∷ t) h)

-- the parts of a name whose last separator is known
named_last : (s : ℕ) (part : Text → Bool) → part [] ≡ false → (a more : Text) → is_name part s (a ++ s ∷ more) ≡ true → is_whole s more ≡ true → segments s (a ++ s ∷ more) ≡ segments s a ++ more ∷ []
named_last s part filled [] more named h =
    let cut : segments s (s ∷ more) ≡ [] ∷ slice_split (λ b. b == s) more = slice_split_at (λ b. b == s) [] s more (none_is s [] refl) (eq-eqb s s refl) in
    absurd (both_ways (part []) filled (and_parts _ _ (ap (list_all part) (sym cut) ∙ (and_parts _ _ named).1)).0)
named_last s part filled (b ∷ a) more named h = behind_last s b a more h

-- a text around its last separator
pub cut_last : (s : ℕ) (text : Text) (n : ℕ) → IsLastAt s text n → text ≡ take n text ++ s ∷ drop (n + 1) text
cut_last s text n cut = sym (take-append-drop n text) ∙ ap (λ (w : Text). take n text ++ w) (drop_more text n 0 cut.within ∙ ap (λ (c : ℕ). c ∷ drop (n + 1) text) cut.there)

pub parts_last : (s : ℕ) (part : Text → Bool) → part [] ≡ false → (text : Text) (n : ℕ) → is_name part s text ≡ true → IsLastAt s text n → segments s text ≡ segments s (take n text) ++ drop (n + 1) text ∷ []
parts_last s part filled text n named cut = ap (segments s) (cut_last s text n cut) ∙ named_last s part filled (take n text) (drop (n + 1) text) (ap (is_name part s) (sym (cut_last s text n cut)) ∙ named) cut.last

whole_parts : (s : ℕ) (text : Text) → is_whole s text ≡ true → front (segments s text) ≡ []
whole_parts s [] h = refl
whole_parts s (b ∷ text) h = ap front (whole_alone s b text h)

-- the front of a name is what stands before its last separator
pub front_parts : (s : ℕ) (part : Text → Bool) → part [] ≡ false → (text : Text) (n : ℕ) → is_name part s text ≡ true → IsFrontEnd s text n → front (segments s text) ≡ segments s (take n text)
front_parts s part filled text n named (inl cut) = ap front (parts_last s part filled text n named cut) ∙ front-push (segments s (take n text)) (drop (n + 1) text)
front_parts s part filled text n named (inr none) = whole_parts s text none.1 ∙ ap (λ (m : ℕ). segments s (take m text)) (sym none.0)

pub segments_whole : (s : ℕ) (t : Text) → list_all (is_whole s) (segments s t) ≡ true
segments_whole s [] = refl
segments_whole s (b ∷ t) = split_whole s (b ∷ t)

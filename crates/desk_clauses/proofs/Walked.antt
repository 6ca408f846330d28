-- A text, gone over part by part, each exchanged for its image.
use Rattle.std.proofs.Common.{◌≡◌, ◌≢◌, ◌≤◌, ◌+◌, ◌-◌, ℕ, suc, Bool, true, false, cond, ◌&&◌, ◌==◌, [], ◌∷◌, ◌++◌, List, length, take, drop, map, Option, Some, None, refl, sym, ap, ◌∙◌, arith, append_assoc, append-nil, length-append}
use Rattle.std.specs.Prelude.{MatchOption, unwrap_or}
use Rattle.std.specs.List.{slice_split, onto_first as onto}
use Rattle.std.proofs.lemmas.List.{drop-drop, take_at, drop_at}
use Rattle.desk_base.specs.Names.{Text, is_empty}
use Rattle.desk_clauses.specs.Edits.{edited, between, IsEdited}
use Rattle.desk_clauses.specs.declared.edits.Edits.{Edits}
use Rattle.desk_clauses.specs.declared.quotes.Quoting.{Quoting}
use Rattle.desk_clauses.specs.Quotes.{next, is_outside, onto_first, cut, with_marks}
use Rattle.desk_clauses.specs.Cuts.{behind, IsFirst}
use Rattle.desk_clauses.proofs.Edited.{kept}

pub cut_filled : (mark : ℕ) (at : Quoting) (t : Text) → is_empty (cut mark at t) ≡ false
cut_filled mark at [] = refl
cut_filled mark at (b ∷ t) = elim (is_outside at && b == mark) as (λ (c : Bool). is_empty (cond c ([] ∷ cut mark at t) (onto_first b (cut mark (next at b) t))) ≡ false) [
  | true ↦ refl
  | false ↦ filled b (cut mark (next at b) t)
]
  where
    filled : (b : ℕ) (ps : List Text) → is_empty (onto_first b ps) ≡ false
    filled b [] = refl
    filled b (p ∷ ps) = refl

pub split_filled : (p : ℕ → Bool) (t : Text) → is_empty (slice_split p t) ≡ false
split_filled p [] = refl
split_filled p (b ∷ t) = elim (p b) as (λ (c : Bool). is_empty (cond c ([] ∷ slice_split p t) (onto b (slice_split p t))) ≡ false) [
  | true ↦ refl
  | false ↦ filled b (slice_split p t)
]
  where
    filled : (b : ℕ) (ps : List Text) → is_empty (onto b ps) ≡ false
    filled b [] = refl
    filled b (q ∷ ps) = refl

marks_more : (mark : ℕ) (f : Text → Text) (p : Text) (ps : List Text) → is_empty ps ≡ false → with_marks mark (map f (p ∷ ps)) ≡ f p ++ (mark ∷ with_marks mark (map f ps))
marks_more mark f p [] h = absurd cc
marks_more mark f p (q ∷ ps) h = refl

-- the images of all parts
abbrev pub imaged : (Text → List Text) → ℕ → (Text → Text) → Text → Text
imaged cutter mark f text = with_marks mark (map f (cutter text))

-- what is left of a text begins at a place
pub record IsAhead (cutter : Text → List Text) (mark : ℕ) (f : Text → Text) (text : Text) (edits : Edits) (from : ℕ) (t : Text) : Type 0 where
  pub copied : edits.copied ≤ from
  pub place : from + length t ≡ length text
  pub ahead : drop from text ≡ t
  pub same : edited text edits from ++ imaged cutter mark f t ≡ imaged cutter mark f text

-- all of a text was gone over
pub record IsOver (cutter : Text → List Text) (mark : ℕ) (f : Text → Text) (text : Text) (edits : Edits) : Type 0 where
  pub copied : edits.copied ≤ length text
  pub same : edited text edits (length text) ≡ imaged cutter mark f text

abbrev pub IsGone : (Text → List Text) → ℕ → (Text → Text) → Text → Edits → ℕ → Option Text → Type 0
IsGone cutter mark f text edits from None = IsOver cutter mark f text edits
IsGone cutter mark f text edits from (Some t) = IsAhead cutter mark f text edits from t

-- the part at the front of what is left
pub record AtPart (text : Text) (from to : ℕ) (part : Text) : Type 0 where
  pub inside : to ≤ length text
  pub is : between from to text ≡ part

pub part_at : (cutter : Text → List Text) (mark : ℕ) (f : Text → Text) (text : Text) (edits : Edits) (from : ℕ) (t part : Text) (more : Option Text) → IsAhead cutter mark f text edits from t → IsFirst cutter mark t part more → (to : ℕ) → to ≡ from + length part → AtPart text from to part
part_at cutter mark f text edits from t part more k first to to_is =
    let size : length t ≡ length part + length (behind mark more) = ap length first.whole ∙ length-append part (behind mark more) in
    let width : to - from ≡ length part = omega (arith, to_is) in
    record {
      inside = omega (arith, k.place, size, to_is);
      is = ap (take (to - from)) (k.ahead ∙ first.whole) ∙ take_at part (behind mark more) (to - from) (sym width);
    }

-- an answer for a part, as what takes its place
pub image_of : (part image old : Text) (answer : Option Text) → MatchOption answer (image ≡ part) (λ (t : Text). (t ≡ image) × (image ≢ part)) → old ≡ part → unwrap_or answer old ≡ image
image_of part image old None h e = e ∙ sym h
image_of part image old (Some t) h e = h.0

gone_last : (cutter : Text → List Text) (mark : ℕ) (f : Text → Text) (text : Text) (edits new : Edits) (from to : ℕ) (t part image : Text) → IsAhead cutter mark f text edits from t → IsFirst cutter mark t part None → to ≡ from + length part → IsEdited text edits new from to image → image ≡ f part → IsOver cutter mark f text new
gone_last cutter mark f text edits new from to t part image k first to_is e image_is =
    let size : length t ≡ length part = ap length (first.whole ∙ append-nil part) in
    let end : to ≡ length text = omega (arith, to_is, size, k.place) in
    record {
      copied = omega (arith, e.order, end);
      same = ap (edited text new) (sym end) ∙ e.stands
          ∙ ap (λ (s : Text). edited text edits from ++ s) (image_is ∙ ap (λ (ps : List Text). with_marks mark (map f ps)) (sym first.parts))
          ∙ k.same;
    }

gone_on : (cutter : Text → List Text) (mark : ℕ) (f : Text → Text) (text : Text) (edits new : Edits) (from to after : ℕ) (t part image r : Text) → ((s : Text) → is_empty (cutter s) ≡ false) → IsAhead cutter mark f text edits from t → IsFirst cutter mark t part (Some r) → to ≡ from + length part → after ≡ to + 1 → IsEdited text edits new from to image → image ≡ f part → IsAhead cutter mark f text new after r
gone_on cutter mark f text edits new from to after t part image r filled k first to_is after_is e image_is =
    let size : length t ≡ length part + suc (length r) = ap length first.whole ∙ length-append part (mark ∷ r) in
    let at_mark : drop to text ≡ mark ∷ r =
    ap (λ (n : ℕ). drop n text) to_is ∙ sym (drop-drop (length part) from text) ∙ ap (drop (length part)) (k.ahead ∙ first.whole) ∙ drop_at part (mark ∷ r) (length part) refl in
    let one : after - to ≡ 1 = omega (arith, after_is) in
    let mark_is : between to after text ≡ mark ∷ [] = ap (λ (n : ℕ). take n (drop to text)) one ∙ ap (take 1) at_mark in
    let through : IsEdited text new new to after (between to after text) = kept text new to after e.order (omega (arith, after_is)) in
    let step : to + 1 ≡ after = sym after_is in
    record {
      copied = through.order;
      place = omega (arith, to_is, after_is, size, k.place);
      ahead = ap (λ (n : ℕ). drop n text) (sym step) ∙ sym (drop-drop 1 to text) ∙ ap (drop 1) at_mark;
      same = ap (λ (s : Text). s ++ imaged cutter mark f r) (through.stands ∙ ap (λ (s : Text). edited text new to ++ s) mark_is ∙ ap (λ (s : Text). s ++ mark ∷ []) (e.stands ∙ ap (λ (s : Text). edited text edits from ++ s) image_is))
          ∙ append_assoc (edited text edits from ++ f part) (mark ∷ []) (imaged cutter mark f r)
          ∙ append_assoc (edited text edits from) (f part) (mark ∷ imaged cutter mark f r)
          ∙ ap (λ (s : Text). edited text edits from ++ s) (sym (marks_more mark f part (cutter r) (filled r)) ∙ ap (λ (ps : List Text). with_marks mark (map f ps)) (sym first.parts))
          ∙ k.same;
    }

-- one more part was gone over
pub one_part : (cutter : Text → List Text) (mark : ℕ) (f : Text → Text) (text : Text) (edits new : Edits) (from to after : ℕ) (t part image : Text) (more : Option Text) → ((s : Text) → is_empty (cutter s) ≡ false) → IsAhead cutter mark f text edits from t → IsFirst cutter mark t part more → to ≡ from + length part → after ≡ to + 1 → IsEdited text edits new from to image → image ≡ f part → IsGone cutter mark f text new after more
one_part cutter mark f text edits new from to after t part image None filled k first to_is after_is e image_is = gone_last cutter mark f text edits new from to t part image k first to_is e image_is
one_part cutter mark f text edits new from to after t part image (Some r) filled k first to_is after_is e image_is = gone_on cutter mark f text edits new from to after t part image r filled k first to_is after_is e image_is

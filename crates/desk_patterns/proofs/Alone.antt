-- A text under one rule alone: its source is found as a needle.
use Rattle.std.proofs.Common.{◌≡◌, ◌<◌, ◌≤◌, ◌+◌, ◌-◌, ℕ, zero, suc, true, List, [], ◌∷◌, length, take, drop, slice_index, None, sym, ap, subst, ◌∙◌, inl, inr, arith}
use Rattle.std.proofs.lemmas.Bool.{cases_Bool, and_parts, eqb-true}
use Rattle.std.proofs.lemmas.List.{take_all, length-drop, get_or-drop, drop-drop}
use Rattle.memchr.specs.Find.{OccursAt, Nowhere}
use Rattle.desk_base.specs.Names.{Text}
use Rattle.desk_patterns.specs.TextRules.{TextRule, longest, source_at}
use Rattle.desk_patterns.specs.Tables.{starts}
use Rattle.desk_patterns.specs.Seen.{NoHits}
use Rattle.desk_patterns.proofs.Sizes.{start_within}
use Rattle.desk_patterns.proofs.Tables.{last_skips, longest_none}

start_reads : (s t : Text) (j : ℕ) → starts t s ≡ true → j < length s → slice_index t j ≡ slice_index s j
start_reads [] t j h l = absurd (omega arith)
start_reads (b ∷ s) [] j h l = absurd cc
start_reads (b ∷ s) (c ∷ t) zero h l = sym (eqb-true b c (and_parts _ _ h).0)
start_reads (b ∷ s) (c ∷ t) (suc j) h l = start_reads s t j (and_parts _ _ h).1 (omega arith)

start_occurs : (text s : Text) (k : ℕ) → k ≤ length text → starts (drop k text) s ≡ true → OccursAt text s k
start_occurs text s k h is = record {
  fits = omega (arith, start_within s (drop k text) is, length-drop k text);
  reads = λ j l. sym (get_or-drop k text j 0) ∙ start_reads s (drop k text) j is l;
}

none_at : (rules : List TextRule) (text : Text) (k : ℕ) → length rules ≡ 1 → k ≤ length text → (OccursAt text (source_at rules 0) k → ⊥) → longest rules (drop k text) ≡ None
none_at rules text k one h gone =
    longest_none (drop k text) rules (last_skips (drop k text) rules 0 (length rules) (omega arith) (λ j l r. elim (cases_Bool (starts (drop k text) (source_at rules j))) [
      | inl is ↦
          let first : j ≡ 0 = omega arith in
          absurd (gone (start_occurs text (source_at rules 0) k h (subst (λ (n : ℕ). starts (drop k text) (source_at rules n) ≡ true) first is)))
      | inr isnt ↦ isnt
    ]))

-- where the source of the one rule doesn't occur in the rest of a text, none stands there
pub alone_none : (rules : List TextRule) (text needle : Text) (from count to : ℕ) → length rules ≡ 1 → needle ≡ source_at rules 0 → from ≤ length text → to ≤ length text → to ≤ from + count → Nowhere (OccursAt (take (length text - from) (drop from text)) needle) 0 count → NoHits rules text from to
alone_none rules text needle from count to one e within high bound none k l r =
    let rest : take (length text - from) (drop from text) ≡ drop from text = take_all (length text - from) (drop from text) (omega (arith, length-drop from text)) in
    let place : from + (k - from) ≡ k = omega arith in
    let gone : OccursAt (drop from text) needle (k - from) → ⊥ = subst (λ (t : Text). OccursAt t needle (k - from) → ⊥) rest (none (k - from) (omega arith) (omega arith)) in
    ap (λ (n : ℕ). longest rules (drop n text)) (sym place)
    ∙ ap (longest rules) (sym (drop-drop (k - from) from text))
    ∙ none_at rules (drop from text) (k - from) one (omega (arith, length-drop from text)) (subst (λ (s : Text). OccursAt (drop from text) s (k - from) → ⊥) e gone)

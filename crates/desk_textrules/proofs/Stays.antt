-- A text whose sources are exchanged for themselves alone is its own image.
use Rattle.std.proofs.Common.{◌≡◌, ◌<◌, ◌≤◌, ◌+◌, ◌-◌, ℕ, zero, suc, Bool, true, false, cond, List, [], ◌∷◌, ◌++◌, length, take, drop, Option, Some, None, Ok, refl, ap, ◌∙◌, arith}
use Rattle.std.specs.Str.{bytes_eq}
use Rattle.std.proofs.lemmas.Slice.Eq.{bytes_eq-Decides}
use Rattle.desk_base.specs.Names.{Text}
use Rattle.desk_patterns.specs.TextRules.{TextRule, Hit, longest, HaveSources}
use Rattle.desk_patterns.proofs.Sizes.{Sized, longest_sized}
use Rattle.desk_textrules.specs.TextImages.{Piece, cut_at, pieces_behind, pieces, written, count_changed, first_changed, replaced, unsettled, unless_unsettled, TextStays}
use Rattle.desk_textrules.specs.TextImages.Piece.{stays, exchanged}

-- the text that was cut
abbrev cut_from : List Piece → Text
cut_from [] = []
cut_from (stays b ∷ ps) = b ∷ cut_from ps
cut_from (exchanged source target ∷ ps) = source ++ cut_from ps

take_drop : (n : ℕ) (t : Text) → take n t ++ drop n t ≡ t
take_drop zero t = refl
take_drop (suc n) [] = refl
take_drop (suc n) (b ∷ t) = ap (λ (s : Text). b ∷ s) (take_drop n t)

joined : (taken : ℕ) (b : ℕ) (t rest : Text) → 0 < taken → rest ≡ drop (taken - 1) t → take taken (b ∷ t) ++ rest ≡ b ∷ t
joined zero b t rest h e = absurd (omega arith)
joined (suc n) b t rest h e =
    let less : suc n - 1 ≡ n = omega arith in
    ap (λ (s : Text). b ∷ (take n t ++ s)) (e ∙ ap (λ (m : ℕ). drop m t) less) ∙ ap (λ (s : Text). b ∷ s) (take_drop n t)

cut_back : (rules : List TextRule) → HaveSources rules → (n : ℕ) (t : Text) → n ≤ length t → cut_from (pieces_behind rules n t) ≡ drop n t
cut_back rules some zero [] h = refl
cut_back rules some (suc n) [] h = absurd (omega arith)
cut_back rules some (suc n) (b ∷ t) h = cut_back rules some n t (omega arith)
cut_back rules some zero (b ∷ t) h =
    elim (longest rules (b ∷ t)) as (λ (o : Option Hit). Sized (b ∷ t) o → cut_from (cut_at o b t (λ n. pieces_behind rules n t)) ≡ b ∷ t) [
      | None ↦ λ sized. ap (λ (s : Text). b ∷ s) (cut_back rules some 0 t (omega arith))
      | Some hit ↦ λ sized. joined hit.taken b t (cut_from (pieces_behind rules (hit.taken - 1) t)) sized.some (cut_back rules some (hit.taken - 1) t (omega (arith, sized.inside, sized.some)))
    ] (longest_sized rules (b ∷ t) some)

record IsSame (ps : List Piece) : Type 0 where
  bytes : written ps ≡ cut_from ps
  count : count_changed ps ≡ 0

unchanged : (ps : List Piece) (at : ℕ) → first_changed at ps ≡ None → IsSame ps
unchanged [] at h = record { bytes = refl; count = refl }
unchanged (stays b ∷ ps) at h =
    let rest : IsSame ps = unchanged ps (at + 1) h in
    record { bytes = ap (λ (t : Text). b ∷ t) rest.bytes; count = rest.count }
unchanged (exchanged source target ∷ ps) at h =
    elim (bytes_eq target source) as (λ (x : Bool). bytes_eq target source ≡ x → cond x (first_changed (at + length source) ps) (Some at) ≡ None → IsSame (exchanged source target ∷ ps)) [
      | true ↦ λ e k.
          let rest : IsSame ps = unchanged ps (at + length source) k in
          record {
            bytes = ap (λ (t : Text). t ++ written ps) ((bytes_eq-Decides target source).0 e) ∙ ap (λ (t : Text). source ++ t) rest.bytes;
            count = ap (λ (x : Bool). cond x 0 1 + count_changed ps) e ∙ omega (arith, rest.count);
          }
      | false ↦ λ e k. absurd cc
    ] refl h

pub text_stays : (rules : List TextRule) (text : Text) → HaveSources rules → unsettled rules text ≡ None → TextStays rules text
text_stays rules text some h =
    let so : IsSame (pieces rules text) = unchanged (pieces rules text) 0 h in
    let same : replaced rules text ≡ text = so.bytes ∙ cut_back rules some 0 text (omega arith) in
    ap (λ (t : Text). unless_unsettled (unsettled rules t) (record { bytes = t; changed = count_changed (pieces rules text) })) same
    ∙ ap (λ (o : Option ℕ). unless_unsettled o (record { bytes = text; changed = count_changed (pieces rules text) })) h
    ∙ ap (λ (n : ℕ). Ok (record { bytes = text; changed = n })) so.count

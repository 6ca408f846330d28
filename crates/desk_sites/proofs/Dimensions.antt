-- The `[`s at the start of a text.
use Rattle.std.proofs.Common.{◌≡◌, ℕ, zero, suc, ◌<◌, ◌≤◌, Bool, cond, List, [], ◌∷◌, length, drop, get_or, refl, sym, ap, ◌∙◌, arith}
use Rattle.std.proofs.lemmas.Bool.{ne_eqb, eq-eqb}
use Rattle.desk_sites.specs.Packages.{behind_dimensions}

pub dimensions_end : (t : List ℕ) (i : ℕ) → i ≤ length t → ((k : ℕ) → k < i → get_or t k 0 ≡ 91) → (i < length t → get_or t i 0 ≡ 91 → ⊥) → drop i t ≡ behind_dimensions t
dimensions_end [] zero within before there = refl
dimensions_end [] (suc i) within before there = absurd (omega arith)
dimensions_end (b ∷ t) zero within before there = sym (ap (λ (x : Bool). cond x (behind_dimensions t) (b ∷ t)) (ne_eqb b 91 (there (omega arith))))
dimensions_end (b ∷ t) (suc i) within before there =
    dimensions_end t i (omega arith) (λ k h. before (suc k) (omega arith)) (λ h. there (omega arith))
    ∙ sym (ap (λ (x : Bool). cond x (behind_dimensions t) (b ∷ t)) (eq-eqb b 91 (before 0 (omega arith))))

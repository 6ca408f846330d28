-- Where a text is cut lies within its share of a line.
use Rattle.std.proofs.Common.{◌≡◌, ℕ, zero, suc, ◌≤◌, Bool, true, false, cond, ◌==◌, drop, refl, arith}
use Rattle.desk_base.specs.Names.{Text}
use Rattle.desk_sections.specs.Folding.{begins_character, last_start, cut_place}

last_start_to : (limit : ℕ) (t : Text) → last_start limit t ≤ limit
last_start_to zero t = omega arith
last_start_to (suc limit) t = elim (begins_character (drop (suc limit) t)) as (λ (c : Bool). cond c (suc limit) (last_start limit t) ≤ suc limit) [
  | true ↦ omega arith
  | false ↦ omega (arith, last_start_to limit t)
]

pub cut_to : (limit : ℕ) (t : Text) → 1 ≤ limit → (1 ≤ cut_place limit t) × (cut_place limit t ≤ limit)
cut_to limit t h = elim (last_start limit t == 0) as (λ (c : Bool). (last_start limit t == 0) ≡ c → (1 ≤ cond c limit (last_start limit t)) × (cond c limit (last_start limit t) ≤ limit)) [
  | true ↦ λ e. (h, omega arith)
  | false ↦ λ e. (positive (last_start limit t) e, last_start_to limit t)
] refl
  where
    positive : (m : ℕ) → (m == 0) ≡ false → 1 ≤ m
    positive zero e = absurd cc
    positive (suc m) e = omega arith

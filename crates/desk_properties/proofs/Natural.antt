-- Natural lines from an offset on.
use Rattle.std.proofs.Common.{◌≡◌, ℕ, ◌+◌, ◌<◌, ◌≤◌, Bool, true, false, cond, ◌==◌, List, [], ◌∷◌, length, drop, get_or, refl, sym, ap, subst, ◌∙◌, arith}
use Rattle.std.proofs.lemmas.Bool.{eqb-true}
use Rattle.std.proofs.lemmas.List.{drop_all, drop_more}
use Rattle.std.proofs.Math.Seq.{drop-drop}
use Rattle.desk_base.specs.Names.{Text}
use Rattle.desk_properties.specs.Lines.{Placed, placed, Line, natural_lines, behind}
use Rattle.desk_properties.specs.Reading.{natural_from, at_offset, first_of, behind_first, end_size}

lone_cr : (at c : ℕ) (t : Text) → (c == 10) ≡ false → natural_lines (placed at (13 ∷ c ∷ t)) ≡ [] ∷ natural_lines (placed (at + end_size (13 ∷ c ∷ t)) (drop (end_size (13 ∷ c ∷ t)) (13 ∷ c ∷ t)))
lone_cr at c t k =
    let rest : List Line = natural_lines (placed (at + 1) (c ∷ t)) in
    let size : end_size (13 ∷ c ∷ t) ≡ 1 = ap (λ (x : Bool). cond x 2 1) k in
    let split : natural_lines (placed at (13 ∷ c ∷ t)) ≡ [] ∷ rest = ap (λ (x : Bool). cond x rest ([] ∷ rest)) k in
    split ∙ ap (λ (n : ℕ). [] ∷ natural_lines (placed (at + n) (drop n (13 ∷ c ∷ t)))) (sym size)

end_past : (at : ℕ) (t : Text) → 0 < end_size t → natural_lines (placed at t) ≡ [] ∷ natural_lines (placed (at + end_size t) (drop (end_size t) t))
end_past at [] h = absurd (omega arith)
end_past at (b ∷ []) h = elim (b == 10) as (λ (x : Bool). (b == 10) ≡ x → natural_lines (at_offset b at ∷ []) ≡ [] ∷ natural_lines (placed (at + end_size (b ∷ [])) (drop (end_size (b ∷ [])) (b ∷ [])))) [
  | true ↦ λ e. rw (eqb-true b 10 e) refl
  | false ↦ λ e. elim (b == 13) as (λ (x : Bool). (b == 13) ≡ x → natural_lines (at_offset b at ∷ []) ≡ [] ∷ natural_lines (placed (at + end_size (b ∷ [])) (drop (end_size (b ∷ [])) (b ∷ [])))) [
    | true ↦ λ g. rw (eqb-true b 13 g) refl
    | false ↦ λ g. absurd (omega (arith, rw (e, g) at h))
  ] refl
] refl
end_past at (b ∷ c ∷ t) h = elim (b == 10) as (λ (x : Bool). (b == 10) ≡ x → natural_lines (placed at (b ∷ c ∷ t)) ≡ [] ∷ natural_lines (placed (at + end_size (b ∷ c ∷ t)) (drop (end_size (b ∷ c ∷ t)) (b ∷ c ∷ t)))) [
  | true ↦ λ e. rw (eqb-true b 10 e) refl
  | false ↦ λ e. elim (b == 13) as (λ (x : Bool). (b == 13) ≡ x → natural_lines (placed at (b ∷ c ∷ t)) ≡ [] ∷ natural_lines (placed (at + end_size (b ∷ c ∷ t)) (drop (end_size (b ∷ c ∷ t)) (b ∷ c ∷ t)))) [
    | true ↦ λ g. rw (eqb-true b 13 g) (elim (c == 10) as (λ (x : Bool). (c == 10) ≡ x → natural_lines (placed at (13 ∷ c ∷ t)) ≡ [] ∷ natural_lines (placed (at + end_size (13 ∷ c ∷ t)) (drop (end_size (13 ∷ c ∷ t)) (13 ∷ c ∷ t)))) [
      | true ↦ λ k. rw (eqb-true c 10 k) (ap (λ (n : ℕ). [] ∷ natural_lines (placed n t)) (omega arith))
      | false ↦ λ k. lone_cr at c t k
    ] refl)
    | false ↦ λ g. absurd (omega (arith, rw (e, g) at h))
  ] refl
] refl

-- behind a line end a new natural line begins
pub natural_end : (file : Text) (at : ℕ) → 0 < end_size (drop at file) → natural_from file at ≡ [] ∷ natural_from file (at + end_size (drop at file))
unfolding natural_from
natural_end file at h = end_past at (drop at file) h ∙ ap (λ (t : Text). [] ∷ natural_lines (placed (at + end_size (drop at file)) t)) (drop-drop _ _ file)

-- a line end lies within its text
pub end_within : (t : Text) → end_size t ≤ length t
end_within [] = omega arith
end_within (b ∷ []) = elim (b == 10) as (λ (x : Bool). cond x 1 (cond (b == 13) 1 0) ≤ 1) [
  | true ↦ omega arith
  | false ↦ elim (b == 13) as (λ (x : Bool). cond x 1 0 ≤ 1) [ true ↦ omega arith | false ↦ omega arith ]
]
end_within (b ∷ c ∷ t) = elim (b == 10) as (λ (x : Bool). cond x 1 (cond (b == 13) (cond (c == 10) 2 1) 0) ≤ length (b ∷ c ∷ t)) [
  | true ↦ omega arith
  | false ↦ elim (b == 13) as (λ (x : Bool). cond x (cond (c == 10) 2 1) 0 ≤ length (b ∷ c ∷ t)) [
    | true ↦ elim (c == 10) as (λ (x : Bool). cond x 2 1 ≤ length (b ∷ c ∷ t)) [ true ↦ omega arith | false ↦ omega arith ]
    | false ↦ omega arith
  ]
]

no_end : (at b : ℕ) (t : Text) → end_size (b ∷ t) ≡ 0 → natural_lines (placed at (b ∷ t)) ≡ behind (at_offset b at) (natural_lines (placed (at + 1) t))
no_end at b t h = elim (b == 10) as (λ (x : Bool). (b == 10) ≡ x → natural_lines (placed at (b ∷ t)) ≡ behind (at_offset b at) (natural_lines (placed (at + 1) t))) [
  | true ↦ λ e. absurd (omega (arith, sized (subst (λ (n : ℕ). end_size (n ∷ t) ≡ 0) (eqb-true b 10 e) h)))
  | false ↦ λ e. elim (b == 13) as (λ (x : Bool). (b == 13) ≡ x → natural_lines (placed at (b ∷ t)) ≡ behind (at_offset b at) (natural_lines (placed (at + 1) t))) [
    | true ↦ λ g. absurd (omega (arith, sized_cr t (subst (λ (n : ℕ). end_size (n ∷ t) ≡ 0) (eqb-true b 13 g) h)))
    | false ↦ λ g. rw (e, g) refl
  ] refl
] refl
  where
    sized : end_size (10 ∷ t) ≡ 0 → 1 ≤ 0
    sized k = elim t as (λ (u : Text). end_size (10 ∷ u) ≡ 0 → 1 ≤ 0) [ [] ↦ λ k. omega (arith, k) | c ∷ u ↦ λ k. omega (arith, k) ] k

    sized_cr : (u : Text) → end_size (13 ∷ u) ≡ 0 → 1 ≤ 0
    sized_cr [] k = omega (arith, k)
    sized_cr (c ∷ u) k = elim (c == 10) as (λ (x : Bool). cond {A = ℕ} x 2 1 ≡ 0 → 1 ≤ 0) [ true ↦ λ k. omega (arith, k) | false ↦ λ k. omega (arith, k) ] k

-- a byte that begins no line end belongs to the natural line
pub natural_byte : (file : Text) (at : ℕ) → at < length file → end_size (drop at file) ≡ 0 → natural_from file at ≡ behind (at_offset (get_or file at 0) at) (natural_from file (at + 1))
unfolding natural_from
natural_byte file at h k = ap (λ (t : Text). natural_lines (placed at t)) (drop_more file at 0 h) ∙ no_end at (get_or file at 0) (drop (at + 1) file) (ap end_size (sym (drop_more file at 0 h)) ∙ k)

-- at the end of the file stands an empty line
pub natural_last : (file : Text) (at : ℕ) → length file ≤ at → natural_from file at ≡ [] ∷ []
unfolding natural_from
natural_last file at h = ap (λ (t : Text). natural_lines (placed at t)) (drop_all at file h)

pub is_some_behind : (p : Placed) (ls : List Line) → behind p ls ≡ (p ∷ first_of ls) ∷ behind_first ls
is_some_behind p [] = refl
is_some_behind p (l ∷ ls) = refl

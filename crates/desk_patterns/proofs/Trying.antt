-- A pattern is tried from place to place.
use mathlib.Core.Bool.{or-false, or_self}
use Rattle.std.proofs.Common.{◌≡◌, ◌≢◌, ℕ, ◌+◌, ◌<◌, ◌≤◌, Bool, true, false, cond, ◌==◌, ◌&&◌, ◌||◌, [], ◌∷◌, length, drop, slice_index, Option, Some, None, refl, sym, ap, subst, ◌∙◌, inl, inr, arith, add-one}
use Rattle.std.proofs.lemmas.Bool.{or_cases, and_parts, or_right, or_left, eq-eqb, ne_eqb}
use Rattle.std.proofs.lemmas.List.{drop_all, length-drop}
use Rattle.std.proofs.Math.Seq.{drop-cons}
use Rattle.std.specs.List.{list_all}
use Rattle.desk_base.specs.Names.{Text, is_empty}
use Rattle.desk_patterns.specs.Patterns.{any_end, leads, fits}
use Rattle.desk_patterns.specs.Tries.{fits_later, IsRetry, IsTry}
use Rattle.desk_patterns.specs.declared.patterns.Retry.{Retry}
use Rattle.desk_patterns.specs.declared.patterns.Try.{Try}

front : (t : Text) (at : ℕ) → at < length t → drop at t ≡ slice_index t at ∷ drop (at + 1) t
front t at h = drop-cons t at 0 h ∙ ap (λ (n : ℕ). slice_index t at ∷ drop n t) (sym (add-one at))

-- a text is one of its own ends
end_self : (p : Text → Bool) (t : Text) → p t ≡ true → any_end p t ≡ true
end_self p [] h = h
end_self p (b ∷ t) h = or_left (p (b ∷ t)) (any_end p t) h

-- an end of an end is an end
end_twice : (p : Text → Bool) (t : Text) → any_end (any_end p) t ≡ true → any_end p t ≡ true
end_twice p [] h = h
end_twice p (b ∷ t) h = elim (or_cases (any_end p (b ∷ t)) (any_end (any_end p) t) h) [
  | inl now ↦ now
  | inr later ↦ or_right (p (b ∷ t)) (any_end p t) (end_twice p t later)
]

abbrev rest : Text → Text
rest [] = []
rest (b ∷ t) = t

end_rest : (p : Text → Bool) (t : Text) → any_end p (rest t) ≡ true → any_end p t ≡ true
end_rest p [] h = h
end_rest p (b ∷ t) h = or_right (p (b ∷ t)) (any_end p t) h

-- where a byte leads an end, the rest of that end is an end of the rest
end_leads : (byte : ℕ) (p : Text → Bool) (t : Text) → any_end (leads byte p) t ≡ true → any_end p (rest t) ≡ true
end_leads byte p [] h = absurd cc
end_leads byte p (b ∷ t) h = elim (or_cases (b == byte && p t) (any_end (leads byte p) t) h) [
  | inl now ↦ end_self p t (and_parts (b == byte) (p t) now).1
  | inr later ↦ end_rest p t (end_leads byte p t later)
]

fits_star : (b : ℕ) (pattern path : Text) → (b == 42) ≡ true → fits (b ∷ pattern) path ≡ any_end (fits pattern) path
fits_star b pattern path h = ap (λ (x : Bool). cond x (any_end (fits pattern) path) (leads b (fits pattern) path)) h

fits_byte : (b : ℕ) (pattern path : Text) → (b == 42) ≡ false → fits (b ∷ pattern) path ≡ leads b (fits pattern) path
fits_byte b pattern path h = ap (λ (x : Bool). cond x (any_end (fits pattern) path) (leads b (fits pattern) path)) h

end_star : (b : ℕ) (pattern path : Text) → (b == 42) ≡ true → any_end (fits (b ∷ pattern)) path ≡ any_end (any_end (fits pattern)) path
end_star b pattern [] h = fits_star b pattern [] h
end_star b pattern (c ∷ path) h = ap (λ (x : Bool). x || any_end (fits (b ∷ pattern)) path) (fits_star b pattern (c ∷ path) h) ∙ ap (λ (x : Bool). any_end (fits pattern) (c ∷ path) || x) (end_star b pattern path h)

end_byte : (b : ℕ) (pattern path : Text) → (b == 42) ≡ false → any_end (fits (b ∷ pattern)) path ≡ any_end (leads b (fits pattern)) path
end_byte b pattern [] h = fits_byte b pattern [] h
end_byte b pattern (c ∷ path) h = ap (λ (x : Bool). x || any_end (fits (b ∷ pattern)) path) (fits_byte b pattern (c ∷ path) h) ∙ ap (λ (x : Bool). leads b (fits pattern) (c ∷ path) || x) (end_byte b pattern path h)

-- at the end of the path only stars are left
pub fits_nothing : (pattern : Text) → fits pattern [] ≡ list_all (λ b. b == 42) pattern
fits_nothing [] = refl
fits_nothing (b ∷ pattern) = elim (b == 42) as (λ (x : Bool). cond x (fits pattern []) false ≡ (x && list_all (λ c. c == 42) pattern)) [ true ↦ fits_nothing pattern | false ↦ refl ]

pub try_none : (pattern path : Text) → IsTry pattern path (record { pattern = 0; path = 0; retry = None })
try_none pattern path = record {
  pattern_inside = omega arith;
  path_inside = omega arith;
  retry_inside = tt;
  same = sym (or-false (fits pattern path));
  covered = λ h. absurd (none h);
}
  where
    none : false ≡ true → ⊥
    none k = cc

absorbed : (x y : Bool) → (y ≡ true → x ≡ true) → (x || y) ≡ x
absorbed true y h = refl
absorbed false true h = sym (h refl)
absorbed false false h = refl

-- a star is passed
pub try_star : (pattern path : Text) (at : Try) → IsTry pattern path at → at.path < length path → at.pattern < length pattern → (slice_index pattern at.pattern == 42) ≡ true → IsTry pattern path (record { pattern = at.pattern + 1; path = at.path; retry = Some (record { pattern = at.pattern + 1; path = at.path }) })
try_star pattern path at tried h k star =
    let left : Text = drop (at.pattern + 1) pattern in
    let later : Text = drop (at.path + 1) path in
    let here : drop at.pattern pattern ≡ slice_index pattern at.pattern ∷ left = front pattern at.pattern k in
    let there : drop at.path path ≡ slice_index path at.path ∷ later = front path at.path h in
    let whole : fits (drop at.pattern pattern) (drop at.path path) ≡ (fits left (drop at.path path) || any_end (fits left) later) =
    ap (λ (p : Text). fits p (drop at.path path)) here ∙ fits_star (slice_index pattern at.pattern) left (drop at.path path) star ∙ ap (any_end (fits left)) there ∙ ap (λ (t : Text). fits left t || any_end (fits left) later) (sym there) in
    let covers : fits_later pattern path at.retry ≡ true → any_end (fits left) later ≡ true = λ e. end_twice (fits left) later (sym (end_star (slice_index pattern at.pattern) left later star) ∙ sym (ap (λ (p : Text). any_end (fits p) later) here) ∙ tried.covered e) in
    record {
      pattern_inside = omega arith;
      path_inside = tried.path_inside;
      retry_inside = (omega arith, omega arith);
      same = tried.same ∙ ap (λ (x : Bool). x || fits_later pattern path at.retry) whole ∙ absorbed (fits left (drop at.path path) || any_end (fits left) later) (fits_later pattern path at.retry) (λ e. or_right (fits left (drop at.path path)) (any_end (fits left) later) (covers e));
      covered = λ e. e;
    }

-- a byte that stands for itself is passed
pub try_byte : (pattern path : Text) (at : Try) → IsTry pattern path at → at.path < length path → at.pattern < length pattern → (slice_index pattern at.pattern == 42) ≡ false → slice_index pattern at.pattern ≡ slice_index path at.path → IsTry pattern path (record { pattern = at.pattern + 1; path = at.path + 1; retry = at.retry })
try_byte pattern path at tried h k star e =
    let b : ℕ = slice_index pattern at.pattern in
    let left : Text = drop (at.pattern + 1) pattern in
    let later : Text = drop (at.path + 1) path in
    let here : drop at.pattern pattern ≡ b ∷ left = front pattern at.pattern k in
    let there : drop at.path path ≡ slice_index path at.path ∷ later = front path at.path h in
    let whole : fits (drop at.pattern pattern) (drop at.path path) ≡ fits left later =
    ap (λ (p : Text). fits p (drop at.path path)) here ∙ fits_byte b left (drop at.path path) star ∙ ap (leads b (fits left)) there ∙ ap (λ (x : Bool). x && fits left later) (eq-eqb (slice_index path at.path) b (sym e)) in
    record {
      pattern_inside = omega arith;
      path_inside = omega arith;
      retry_inside = kept at.retry tried.retry_inside;
      same = tried.same ∙ ap (λ (x : Bool). x || fits_later pattern path at.retry) whole;
      covered = λ y. subst (λ (t : Text). any_end (fits left) t ≡ true) (rest_drop path (at.path + 1)) (end_leads b (fits left) later (sym (end_byte b left later star) ∙ sym (ap (λ (p : Text). any_end (fits p) later) here) ∙ tried.covered y));
    }
  where
    kept : (retry : Option Retry) → IsRetry pattern at retry → IsRetry pattern (record { pattern = at.pattern + 1; path = at.path + 1; retry = at.retry }) retry
    kept None h = tt
    kept (Some last) h = (h.0, omega (arith, h.1))

    rest_drop : (t : Text) (n : ℕ) → rest (drop n t) ≡ drop (n + 1) t
    rest_drop t n = elim (drop n t) as (λ (u : Text). drop n t ≡ u → rest u ≡ drop (n + 1) t) [
      | [] ↦ λ g. sym (drop_all (n + 1) t (omega (arith, length-drop n t, ap length g)))
      | c ∷ u ↦ λ g. let s : slice_index t n ∷ drop (n + 1) t ≡ c ∷ u = sym (front t n (omega (arith, length-drop n t, ap length g))) ∙ g in cc
    ] refl

-- what is left of the pattern doesn't fit here
pub record IsMissed (pattern path : Text) (at : Try) : Type 0 where
  pub miss : fits (drop at.pattern pattern) (drop at.path path) ≡ false

pub miss_end : (pattern path : Text) (at : Try) → at.path < length path → length pattern ≤ at.pattern → IsMissed pattern path at
miss_end pattern path at h k = record { miss = ap (λ (p : Text). fits p (drop at.path path)) (drop_all at.pattern pattern k) ∙ ap is_empty (front path at.path h) }

pub miss_byte : (pattern path : Text) (at : Try) → at.path < length path → at.pattern < length pattern → (slice_index pattern at.pattern == 42) ≡ false → slice_index pattern at.pattern ≢ slice_index path at.path → IsMissed pattern path at
miss_byte pattern path at h k star e =
    let b : ℕ = slice_index pattern at.pattern in
    let left : Text = drop (at.pattern + 1) pattern in
    let later : Text = drop (at.path + 1) path in
    record { miss = ap (λ (p : Text). fits p (drop at.path path)) (front pattern at.pattern k) ∙ fits_byte b left (drop at.path path) star ∙ ap (leads b (fits left)) (front path at.path h) ∙ ap (λ (x : Bool). x && fits left later) (ne_eqb (slice_index path at.path) b (λ g. e (sym g))) }

-- without a star before, the pattern doesn't fit
pub no_retry : (pattern path : Text) (at : Try) → IsTry pattern path at → IsMissed pattern path at → at.retry ≡ None → fits pattern path ≡ false
no_retry pattern path at tried missed e = tried.same ∙ ap (λ (x : Bool). x || fits_later pattern path at.retry) missed.miss ∙ ap (fits_later pattern path) e

end_or : (p : Text → Bool) (t : Text) (n : ℕ) → any_end p (drop n t) ≡ (p (drop n t) || any_end p (drop (n + 1) t))
end_or p t n = elim (drop n t) as (λ (u : Text). drop n t ≡ u → any_end p u ≡ (p u || any_end p (drop (n + 1) t))) [
  | [] ↦ λ g. sym (ap (λ (u : Text). p [] || any_end p u) (drop_all (n + 1) t (omega (arith, length-drop n t, ap length g))) ∙ or_self (p []))
  | c ∷ u ↦ λ g. let s : slice_index t n ∷ drop (n + 1) t ≡ c ∷ u = sym (front t n (omega (arith, length-drop n t, ap length g))) ∙ g in let k : u ≡ drop (n + 1) t = cc in ap (λ (v : Text). p (c ∷ u) || any_end p v) k
] refl

pub try_again : (pattern path : Text) (at : Try) (last : Retry) → IsTry pattern path at → at.path < length path → IsMissed pattern path at → at.retry ≡ Some last → IsTry pattern path (record { pattern = last.pattern; path = last.path + 1; retry = Some (record { pattern = last.pattern; path = last.path + 1 }) })
try_again pattern path at last tried h missed e =
    let inside : IsRetry pattern at (Some last) = subst (IsRetry pattern at) e tried.retry_inside in
    record {
      pattern_inside = inside.0;
      path_inside = omega (arith, inside.1);
      retry_inside = (inside.0, omega arith);
      same = tried.same ∙ ap (λ (x : Bool). x || fits_later pattern path at.retry) missed.miss ∙ ap (fits_later pattern path) e ∙ end_or (fits (drop last.pattern pattern)) path (last.path + 1);
      covered = λ g. g;
    }

pub try_end : (pattern path : Text) (at : Try) → IsTry pattern path at → length path ≤ at.path → fits pattern path ≡ list_all (λ b. b == 42) (drop at.pattern pattern)
try_end pattern path at tried h =
    let left : Text = drop at.pattern pattern in
    let none : drop at.path path ≡ [] = drop_all at.path path h in
    let later : drop (at.path + 1) path ≡ [] = drop_all (at.path + 1) path (omega arith) in
    tried.same ∙ absorbed (fits left (drop at.path path)) (fits_later pattern path at.retry) (λ e. ap (fits left) none ∙ sym (ap (any_end (fits left)) later) ∙ tried.covered e) ∙ ap (fits left) none ∙ fits_nothing left

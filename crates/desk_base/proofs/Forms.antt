-- The form at the front of a text, and the first byte that begins none.
use Rattle.std.proofs.Common.{◌≡◌, ℕ, zero, suc, ◌+◌, ◌<◌, ◌≤◌, Bool, true, false, cond, List, [], ◌∷◌, length, drop, get_or, Some, None, refl, sym, ap, subst, ◌∙◌, arith, add-one}
use Rattle.std.proofs.lemmas.List.{length-drop, drop_all, drop_more}
use Rattle.std.proofs.Math.Seq.{drop-drop}
use Rattle.desk_base.specs.Utf8.{is_single, is_pair, is_triple, bad_from, bad_form, form_size, AreSingle}

abbrev chosen : Bool → ℕ → ℕ → ℕ
chosen b m n = cond b m n

size_one : (s : Bool) (at : ℕ) → chosen s 1 0 ≡ 0 → cond s None (Some at) ≡ Some at
size_one true at h = absurd (omega (arith, h))
size_one false at h = refl

-- where a form has no bytes, its first byte is the place
pub bad_here : (at : ℕ) (t : List ℕ) → 0 < length t → form_size t ≡ 0 → bad_from at t ≡ Some at
unfolding bad_from
bad_here at [] some h = absurd (omega arith)
bad_here at (a ∷ []) some h = size_one (is_single a) at h
bad_here at (a ∷ b ∷ []) some h = pick (is_single a) (is_pair a b) h
  where
    pick : (s p : Bool) → chosen s 1 (chosen p 2 0) ≡ 0 → cond s (bad_from (at + 1) (b ∷ [])) (cond p None (Some at)) ≡ Some at
    pick true p h = absurd (omega arith)
    pick false true h = absurd (omega arith)
    pick false false h = refl
bad_here at (a ∷ b ∷ c ∷ t) some h = pick (is_single a) (is_pair a b) (is_triple a b c) h
  where
    pick : (s p r : Bool) → chosen s 1 (chosen p 2 (chosen r 3 0)) ≡ 0 → cond s (bad_from (at + 1) (b ∷ c ∷ t)) (cond p (bad_from (at + 2) (c ∷ t)) (cond r (bad_from (at + 3) t) (Some at))) ≡ Some at
    pick true p r h = absurd (omega arith)
    pick false true r h = absurd (omega arith)
    pick false false true h = absurd (omega arith)
    pick false false false h = refl

-- a form is passed whole
pub bad_past : (at : ℕ) (t : List ℕ) → 0 < form_size t → bad_from at t ≡ bad_from (at + form_size t) (drop (form_size t) t)
unfolding bad_from
bad_past at [] h = absurd (omega arith)
bad_past at (a ∷ []) h = pick (is_single a) h
  where
    pick : (s : Bool) → 0 < chosen s 1 0 → cond s None (Some at) ≡ bad_from (at + chosen s 1 0) (drop (chosen s 1 0) (a ∷ []))
    pick true h = refl
    pick false h = absurd (omega arith)
bad_past at (a ∷ b ∷ []) h = pick (is_single a) (is_pair a b) h
  where
    pick : (s p : Bool) → 0 < chosen s 1 (chosen p 2 0) → cond s (bad_from (at + 1) (b ∷ [])) (cond p None (Some at)) ≡ bad_from (at + chosen s 1 (chosen p 2 0)) (drop (chosen s 1 (chosen p 2 0)) (a ∷ b ∷ []))
    pick true p h = refl
    pick false true h = refl
    pick false false h = absurd (omega arith)
bad_past at (a ∷ b ∷ c ∷ t) h = pick (is_single a) (is_pair a b) (is_triple a b c) h
  where
    pick : (s p r : Bool) → 0 < chosen s 1 (chosen p 2 (chosen r 3 0)) → cond s (bad_from (at + 1) (b ∷ c ∷ t)) (cond p (bad_from (at + 2) (c ∷ t)) (cond r (bad_from (at + 3) t) (Some at))) ≡ bad_from (at + chosen s 1 (chosen p 2 (chosen r 3 0))) (drop (chosen s 1 (chosen p 2 (chosen r 3 0))) (a ∷ b ∷ c ∷ t))
    pick true p r h = refl
    pick false true r h = refl
    pick false false true h = refl
    pick false false false h = absurd (omega arith)

-- a form lies within its text
pub size_within : (t : List ℕ) → form_size t ≤ length t
size_within [] = omega arith
size_within (a ∷ []) = pick (is_single a)
  where
    pick : (s : Bool) → chosen s 1 0 ≤ 1
    pick true = omega arith
    pick false = omega arith
size_within (a ∷ b ∷ []) = pick (is_single a) (is_pair a b)
  where
    pick : (s p : Bool) → chosen s 1 (chosen p 2 0) ≤ 2
    pick true p = omega arith
    pick false true = omega arith
    pick false false = omega arith
size_within (a ∷ b ∷ c ∷ t) = pick (is_single a) (is_pair a b) (is_triple a b c)
  where
    pick : (s p r : Bool) → chosen s 1 (chosen p 2 (chosen r 3 0)) ≤ length (a ∷ b ∷ c ∷ t)
    pick true p r = omega arith
    pick false true r = omega arith
    pick false false true = omega arith
    pick false false false = omega arith

-- the first bad place from a place of a text on: at the end, at a byte that begins no form, and past a form

pub bad_end : (at : ℕ) (bytes : List ℕ) → length bytes ≤ at → bad_from at (drop at bytes) ≡ None
unfolding bad_from
bad_end at bytes h = rw (drop_all at bytes h) refl

pub bad_stop : (at : ℕ) (bytes : List ℕ) → at < length bytes → form_size (drop at bytes) ≡ 0 → bad_from at (drop at bytes) ≡ Some at
bad_stop at bytes h k = bad_here at (drop at bytes) (omega (arith, length-drop at bytes)) k

pub bad_step : (at : ℕ) (bytes : List ℕ) → 0 < form_size (drop at bytes) → bad_from (at + form_size (drop at bytes)) (drop (at + form_size (drop at bytes)) bytes) ≡ bad_from at (drop at bytes)
bad_step at bytes h = rw (← drop-drop) (sym (bad_past at (drop at bytes) h))

pub step_within : (at : ℕ) (bytes : List ℕ) → at ≤ length bytes → at + form_size (drop at bytes) ≤ length bytes
step_within at bytes h = omega (arith, size_within (drop at bytes), length-drop at bytes)

-- bytes in front that are forms by themselves are passed

single_size : (a : ℕ) (t : List ℕ) → is_single a ≡ true → form_size (a ∷ t) ≡ 1
single_size a [] h = ap (λ (s : Bool). chosen s 1 0) h
single_size a (b ∷ []) h = ap (λ (s : Bool). chosen s 1 (chosen (is_pair a b) 2 0)) h
single_size a (b ∷ c ∷ t) h = ap (λ (s : Bool). chosen s 1 (chosen (is_pair a b) 2 (chosen (is_triple a b c) 3 0))) h

single_step : (at : ℕ) (bytes : List ℕ) → at < length bytes → is_single (get_or bytes at 0) ≡ true → bad_from (at + 1) (drop (at + 1) bytes) ≡ bad_from at (drop at bytes)
single_step at bytes h s =
    let one : form_size (drop at bytes) ≡ 1 = ap form_size (drop_more bytes at 0 h) ∙ single_size (get_or bytes at 0) (drop (at + 1) bytes) s in
    subst (λ (n : ℕ). bad_from (at + n) (drop (at + n) bytes) ≡ bad_from at (drop at bytes)) one (bad_step at bytes (omega (arith, one)))

pub singles_passed : (n : ℕ) (bytes : List ℕ) → n ≤ length bytes → AreSingle bytes 0 n → bad_from n (drop n bytes) ≡ bad_form bytes
singles_passed zero bytes h s = refl
singles_passed (suc n) bytes h s =
    subst (λ (m : ℕ). bad_from m (drop m bytes) ≡ bad_form bytes) (add-one n)
    (single_step n bytes (omega arith) (s n (omega arith) (omega arith)) ∙ singles_passed n bytes (omega arith) (λ k p q. s k p (omega arith)))

-- Blanks at the ends of texts.
use Rattle.std.proofs.Common.{◌≡◌, ◌<◌, ◌≤◌, ◌+◌, ◌-◌, ℕ, zero, suc, Bool, true, false, cond, not, ◌&&◌, ◌||◌, [], ◌∷◌, ◌++◌, length, take, get_or, refl, ap, sym, ◌∙◌, arith, length-append}
use Rattle.std.specs.List.{list_all, list_any}
use Rattle.std.proofs.lemmas.Bool.{and_parts, and_from, not-true, not-false, and_right}
use Rattle.std.proofs.lemmas.List.{take_more}
use Rattle.desk_base.specs.Names.{Text, is_empty}
use Rattle.desk_base.proofs.Lists.{all_weaker}
use Rattle.desk_lines.specs.Cuts.{onward, stops}
use Rattle.desk_lines.specs.Blanks.{is_blank, not_blank, trimmed_end, trailing_blanks, leading_blanks, trimmed, IsTrimmed}
use Rattle.desk_lines.proofs.Cuts.{until-onward, fails-until, stops-onward}

pub trimmed-trailing : (t : Text) → trimmed_end t ++ trailing_blanks t ≡ t
trimmed-trailing [] = refl
trimmed-trailing (b ∷ t) = elim (is_blank b && is_empty (trimmed_end t)) as (λ (c : Bool). cond c [] (b ∷ trimmed_end t) ++ cond c (b ∷ t) (trailing_blanks t) ≡ b ∷ t) [
  | true ↦ refl
  | false ↦ ap (λ (s : Text). b ∷ s) (trimmed-trailing t)
]

empty_front : (x y : Text) → is_empty x ≡ true → x ++ y ≡ y
empty_front [] y h = refl
empty_front (b ∷ x) y h = absurd cc

pub all_blank : (t : Text) → list_all is_blank (trailing_blanks t) ≡ true
all_blank [] = refl
all_blank (b ∷ t) = elim (is_blank b && is_empty (trimmed_end t)) as (λ (c : Bool). (is_blank b && is_empty (trimmed_end t)) ≡ c → list_all is_blank (cond c (b ∷ t) (trailing_blanks t)) ≡ true) [
  | true ↦ λ h.
      let same : trailing_blanks t ≡ t = sym (empty_front (trimmed_end t) (trailing_blanks t) (and_parts _ _ h).1) ∙ trimmed-trailing t in
      and_from _ _ (and_parts _ _ h).0 (ap (list_all is_blank) (sym same) ∙ all_blank t)
  | false ↦ λ h. all_blank t
] refl

trimmed_blank : (w : Text) → list_all is_blank w ≡ true → trimmed_end w ≡ []
trimmed_blank [] h = refl
trimmed_blank (b ∷ w) h = ap (λ (c : Bool). cond c [] (b ∷ trimmed_end w)) (and_from _ _ (and_parts _ _ h).0 (ap is_empty (trimmed_blank w (and_parts _ _ h).1)))

trailing_blank : (w : Text) → list_all is_blank w ≡ true → trailing_blanks w ≡ w
trailing_blank w h = sym (empty_front (trimmed_end w) (trailing_blanks w) (ap is_empty (trimmed_blank w h))) ∙ trimmed-trailing w

pub trimmed_end-append : (n w : Text) → list_all not_blank n ≡ true → list_all is_blank w ≡ true → trimmed_end (n ++ w) ≡ n
trimmed_end-append [] w h g = trimmed_blank w g
trimmed_end-append (b ∷ n) w h g =
    ap (λ (c : Bool). cond (c && is_empty (trimmed_end (n ++ w))) [] (b ∷ trimmed_end (n ++ w))) (not-true (is_blank b) (and_parts _ _ h).0)
    ∙ ap (λ (s : Text). b ∷ s) (trimmed_end-append n w (and_parts _ _ h).1 g)

pub trailing-append : (n w : Text) → list_all not_blank n ≡ true → list_all is_blank w ≡ true → trailing_blanks (n ++ w) ≡ w
trailing-append [] w h g = trailing_blank w g
trailing-append (b ∷ n) w h g =
    ap (λ (c : Bool). cond (c && is_empty (trimmed_end (n ++ w))) (b ∷ (n ++ w)) (trailing_blanks (n ++ w))) (not-true (is_blank b) (and_parts _ _ h).0)
    ∙ trailing-append n w (and_parts _ _ h).1 g

pub trimmed_end_within : (t : Text) → length (trimmed_end t) ≤ length t
trimmed_end_within t = omega (arith, sym (length-append (trimmed_end t) (trailing_blanks t)) ∙ ap length (trimmed-trailing t))

-- a blank at the end goes
pub trimmed_blank_end : (t : Text) (b : ℕ) → is_blank b ≡ true → trimmed_end (t ++ b ∷ []) ≡ trimmed_end t
trimmed_blank_end [] b h = ap (λ (c : Bool). cond c [] (b ∷ [])) (and_from _ _ h refl)
trimmed_blank_end (a ∷ t) b h = ap (λ (s : Text). cond (is_blank a && is_empty s) [] (a ∷ s)) (trimmed_blank_end t b h)

filled_end : (t : Text) (b : ℕ) → is_empty (t ++ b ∷ []) ≡ false
filled_end [] b = refl
filled_end (a ∷ t) b = refl

-- any other byte there keeps the text
pub trimmed_other_end : (t : Text) (b : ℕ) → is_blank b ≡ false → trimmed_end (t ++ b ∷ []) ≡ t ++ b ∷ []
trimmed_other_end [] b h = ap (λ (c : Bool). cond c [] (b ∷ [])) (ap (λ (c : Bool). c && true) h)
trimmed_other_end (a ∷ t) b h =
    ap (λ (s : Text). cond (is_blank a && is_empty s) [] (a ∷ s)) (trimmed_other_end t b h)
    ∙ ap (λ (c : Bool). cond c [] (a ∷ (t ++ b ∷ []))) (and_right (is_blank a) _ (filled_end t b))

end_of : (text : Text) (end : ℕ) → 0 < end → end ≤ length text → take end text ≡ take (end - 1) text ++ get_or text (end - 1) 0 ∷ []
end_of text zero some within = absurd (omega arith)
end_of text (suc n) some within =
    let one : suc n - 1 ≡ n = omega arith in
    let next : n + 1 ≡ suc n = omega arith in
    ap (λ (m : ℕ). take m text) (sym next) ∙ take_more text n 0 (omega arith) ∙ ap (λ (m : ℕ). take m text ++ get_or text m 0 ∷ []) (sym one)

pub trim_more : (text : Text) (end : ℕ) → 0 < end → end ≤ length text → is_blank (get_or text (end - 1) 0) ≡ true → trimmed_end (take end text) ≡ trimmed_end text → trimmed_end (take (end - 1) text) ≡ trimmed_end text
trim_more text end some within blank so_far = sym (trimmed_blank_end (take (end - 1) text) (get_or text (end - 1) 0) blank) ∙ ap trimmed_end (sym (end_of text end some within)) ∙ so_far

pub trim_done : (text : Text) (end : ℕ) → 0 < end → end ≤ length text → is_blank (get_or text (end - 1) 0) ≡ false → trimmed_end (take end text) ≡ trimmed_end text → take end text ≡ trimmed_end text
trim_done text end some within inked so_far =
    end_of text end some within ∙ sym (trimmed_other_end (take (end - 1) text) (get_or text (end - 1) 0) inked) ∙ ap trimmed_end (sym (end_of text end some within)) ∙ so_far

pub trim_none : (text : Text) (end : ℕ) → end ≤ 0 → trimmed_end (take end text) ≡ trimmed_end text → take end text ≡ trimmed_end text
trim_none text zero none so_far = so_far
trim_none text (suc n) none so_far = absurd (omega arith)

-- ---- trimmed texts

pub blank_from_not : (b : ℕ) → not (not_blank b) ≡ true → is_blank b ≡ true
blank_from_not b h = not-false _ (not-true _ h)

begins_same : (t : Text) → stops not_blank t ≡ true → stops not_blank (trimmed_end t) ≡ true
begins_same [] h = refl
begins_same (b ∷ t) h = ap (λ (c : Bool). stops not_blank (cond (c && is_empty (trimmed_end t)) [] (b ∷ trimmed_end t))) (not-true (is_blank b) h) ∙ h

trimmed_again : (t : Text) → trimmed_end (trimmed_end t) ≡ trimmed_end t
trimmed_again [] = refl
trimmed_again (b ∷ t) =
    elim (is_blank b && is_empty (trimmed_end t)) as (λ (c : Bool). (is_blank b && is_empty (trimmed_end t)) ≡ c → trimmed_end (cond c [] (b ∷ trimmed_end t)) ≡ cond c [] (b ∷ trimmed_end t)) [
      | true ↦ λ h. refl
      | false ↦ λ h. ap (λ (s : Text). cond (is_blank b && is_empty s) [] (b ∷ s)) (trimmed_again t) ∙ ap (λ (c : Bool). cond c [] (b ∷ trimmed_end t)) h
    ] refl

pub is_trimmed : (t : Text) → IsTrimmed t (trimmed t)
is_trimmed t = record {
  front = leading_blanks t;
  back = trailing_blanks (onward not_blank t);
  whole = ap (λ (s : Text). leading_blanks t ++ s) (trimmed-trailing (onward not_blank t)) ∙ until-onward not_blank t;
  front_blank = all_weaker (λ b. not (not_blank b)) is_blank blank_from_not (leading_blanks t) (fails-until not_blank t);
  back_blank = all_blank (onward not_blank t);
  begins = begins_same (onward not_blank t) (stops-onward not_blank t);
  ends = trimmed_again (onward not_blank t);
}

-- a text holds a blank, or all its bytes are others
pub any_blank : (t : Text) → list_any is_blank t ≡ not (list_all not_blank t)
any_blank [] = refl
any_blank (b ∷ t) = elim (is_blank b) as (λ (c : Bool). (c || list_any is_blank t) ≡ not (not c && list_all not_blank t)) [
  | true ↦ refl
  | false ↦ any_blank t
]

-- A text between the blanks of another.
use Rattle.std.proofs.Common.{◌≡◌, Bool, true, cond, not, ◌&&◌, [], ◌∷◌, ◌++◌, refl, sym, ap, ◌∙◌}
use Rattle.std.specs.List.{list_all}
use Rattle.std.proofs.lemmas.Bool.{and_parts, not-true}
use Rattle.desk_base.specs.Names.{Text, is_empty}
use Rattle.desk_base.proofs.Lists.{all_weaker}
use Rattle.desk_lines.specs.Cuts.{onward, stops}
use Rattle.desk_lines.specs.Blanks.{is_blank, not_blank, leading_blanks, trailing_blanks, trimmed_end, trimmed}
use Rattle.desk_lines.proofs.Cuts.{fails-until}
use Rattle.desk_lines.proofs.Trimming.{all_blank, trimmed_end-append, blank_from_not}
use Rattle.desk_clauses.specs.Grammar.{between_blanks}
use Rattle.desk_clauses.proofs.Between.{between_own}

pub leading_blank : (t : Text) → list_all is_blank (leading_blanks t) ≡ true
leading_blank t = all_weaker (λ b. not (not_blank b)) is_blank blank_from_not (leading_blanks t) (fails-until not_blank t)

onward_behind : (w t : Text) → list_all is_blank w ≡ true → onward not_blank (w ++ t) ≡ onward not_blank t
onward_behind [] t h = refl
onward_behind (b ∷ w) t h =
    ap (λ (c : Bool). cond (not c) (b ∷ (w ++ t)) (onward not_blank (w ++ t))) (and_parts _ _ h).0 ∙ onward_behind w t (and_parts _ _ h).1

onward_none : (w : Text) → list_all is_blank w ≡ true → onward not_blank w ≡ []
onward_none [] h = refl
onward_none (b ∷ w) h = ap (λ (c : Bool). cond (not c) (b ∷ w) (onward not_blank w)) (and_parts _ _ h).0 ∙ onward_none w (and_parts _ _ h).1

trimmed_before : (x w : Text) → list_all is_blank w ≡ true → trimmed_end (x ++ w) ≡ trimmed_end x
trimmed_before [] w h = trimmed_end-append [] w refl h
trimmed_before (b ∷ x) w h = ap (λ (s : Text). cond (is_blank b && is_empty s) [] (b ∷ s)) (trimmed_before x w h)

core : (x w : Text) → stops not_blank x ≡ true → trimmed_end x ≡ x → list_all is_blank w ≡ true → trimmed_end (onward not_blank (x ++ w)) ≡ x
core [] w b e h = ap trimmed_end (onward_none w h)
core (c ∷ x) w b e h = ap (λ (k : Bool). trimmed_end (cond k (c ∷ (x ++ w)) (onward not_blank (x ++ w)))) b ∙ trimmed_before (c ∷ x) w h ∙ e

-- a text that neither begins nor ends with a blank, between blanks
pub trimmed-between : (x t : Text) → stops not_blank x ≡ true → trimmed_end x ≡ x → trimmed (between_blanks x t) ≡ x
trimmed-between x t b e =
    ap trimmed_end (onward_behind (leading_blanks t) (x ++ trailing_blanks (onward not_blank t)) (leading_blank t))
    ∙ core x (trailing_blanks (onward not_blank t)) b e (all_blank (onward not_blank t))

-- put between the same blanks once more it stays
pub between_again : (x t : Text) → stops not_blank x ≡ true → trimmed_end x ≡ x → between_blanks x (between_blanks x t) ≡ between_blanks x t
between_again x t b e = ap (λ (y : Text). between_blanks y (between_blanks x t)) (sym (trimmed-between x t b e)) ∙ between_own (between_blanks x t)

-- a text without blanks is trimmed
pub unblank_trimmed : (x : Text) → list_all not_blank x ≡ true → (stops not_blank x ≡ true) × (trimmed_end x ≡ x)
unblank_trimmed [] h = (refl, refl)
unblank_trimmed (b ∷ x) h = ((and_parts _ _ h).0, ap (λ (k : Bool). cond (k && is_empty (trimmed_end x)) [] (b ∷ trimmed_end x)) (not-true (is_blank b) (and_parts _ _ h).0) ∙ ap (λ (s : Text). b ∷ s) (unblank_trimmed x (and_parts _ _ h).1).1)

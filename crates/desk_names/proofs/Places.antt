-- Parts cut at places.
use Rattle.std.proofs.Common.{◌≡◌, ℕ, suc, ◌+◌, ◌<◌, ◌≤◌, Bool, true, false, ◌==◌, List, [], ◌∷◌, ◌++◌, length, take, drop, refl, sym, ap, subst, ◌∙◌, arith, append_assoc, append-nil, add-one}
use Rattle.std.proofs.lemmas.List.{drop_all}
use Rattle.std.specs.Prelude.{if◌then◌else◌}
use Rattle.std.proofs.lemmas.Bool.{eqb-true}
use Rattle.desk_base.specs.Names.{Text}
use Rattle.desk_names.specs.Pieces.{Piece, class_piece, last_piece, cut, place_of}

pub name_ends : (seen t : Text) → place_of 59 t < length t → cut true seen t ≡ class_piece (seen ++ take (place_of 59 t) t) ∷ cut false [] (drop (place_of 59 t) t)
unfolding cut place_of
name_ends seen [] h = absurd (omega arith)
name_ends seen (b ∷ t) h = go (b == 59) refl h (name_ends (seen ++ b ∷ []) t)
  where
    go : (c : Bool) → (b == 59) ≡ c → (if c then 0 else suc (place_of 59 t)) < suc (length t)
        → (place_of 59 t < length t → cut true (seen ++ b ∷ []) t ≡ class_piece ((seen ++ b ∷ []) ++ take (place_of 59 t) t) ∷ cut false [] (drop (place_of 59 t) t))
        → (if c then class_piece seen ∷ cut false (b ∷ []) t else cut true (seen ++ b ∷ []) t) ≡ class_piece (seen ++ take (if c then 0 else suc (place_of 59 t)) (b ∷ t)) ∷ cut false [] (drop (if c then 0 else suc (place_of 59 t)) (b ∷ t))
    go true e l f =
        ap (λ (x : ℕ). class_piece seen ∷ cut false (x ∷ []) t) (eqb-true b 59 e)
        ∙ ap (λ (n : Text). class_piece n ∷ cut false [] (59 ∷ t)) (sym (append-nil seen))
        ∙ ap (λ (x : ℕ). class_piece (seen ++ []) ∷ cut false [] (x ∷ t)) (sym (eqb-true b 59 e))
    go false e l f = f (omega arith) ∙ ap (λ (n : Text). class_piece n ∷ cut false [] (drop (place_of 59 t) t)) (append_assoc seen (b ∷ []) (take (place_of 59 t) t))

ends_other : (seen t : Text) → place_of 76 t < length t → cut false seen t ≡ Piece.other (seen ++ take (suc (place_of 76 t)) t) ∷ cut true [] (drop (suc (place_of 76 t)) t)
unfolding cut place_of
ends_other seen [] h = absurd (omega arith)
ends_other seen (b ∷ t) h = go (b == 76) h (ends_other (seen ++ b ∷ []) t)
  where
    go : (c : Bool) → (if c then 0 else suc (place_of 76 t)) < suc (length t)
        → (place_of 76 t < length t → cut false (seen ++ b ∷ []) t ≡ Piece.other ((seen ++ b ∷ []) ++ take (suc (place_of 76 t)) t) ∷ cut true [] (drop (suc (place_of 76 t)) t))
        → (if c then Piece.other (seen ++ b ∷ []) ∷ cut true [] t else cut false (seen ++ b ∷ []) t) ≡ Piece.other (seen ++ take (suc (if c then 0 else suc (place_of 76 t))) (b ∷ t)) ∷ cut true [] (drop (suc (if c then 0 else suc (place_of 76 t))) (b ∷ t))
    go true l f = refl
    go false l f = f (omega arith) ∙ ap (λ (n : Text). Piece.other n ∷ cut true [] (drop (suc (place_of 76 t)) t)) (append_assoc seen (b ∷ []) (take (suc (place_of 76 t)) t))

pub other_ends : (seen t : Text) → place_of 76 t < length t → cut false seen t ≡ Piece.other (seen ++ take (place_of 76 t + 1) t) ∷ cut true [] (drop (place_of 76 t + 1) t)
other_ends seen t h = rw add-one (ends_other seen t h)

pub all_name : (seen t : Text) → length t ≤ place_of 59 t → cut true seen t ≡ last_piece (seen ++ t)
unfolding cut place_of
all_name seen [] h = ap last_piece (sym (append-nil seen))
all_name seen (b ∷ t) h = go (b == 59) h (all_name (seen ++ b ∷ []) t)
  where
    go : (c : Bool) → suc (length t) ≤ (if c then 0 else suc (place_of 59 t)) → (length t ≤ place_of 59 t → cut true (seen ++ b ∷ []) t ≡ last_piece ((seen ++ b ∷ []) ++ t)) → (if c then class_piece seen ∷ cut false (b ∷ []) t else cut true (seen ++ b ∷ []) t) ≡ last_piece (seen ++ b ∷ t)
    go true l f = absurd (omega arith)
    go false l f = f (omega arith) ∙ ap last_piece (append_assoc seen (b ∷ []) t)

pub all_other : (seen t : Text) → length t ≤ place_of 76 t → cut false seen t ≡ last_piece (seen ++ t)
unfolding cut place_of
all_other seen [] h = ap last_piece (sym (append-nil seen))
all_other seen (b ∷ t) h = go (b == 76) h (all_other (seen ++ b ∷ []) t)
  where
    go : (c : Bool) → suc (length t) ≤ (if c then 0 else suc (place_of 76 t)) → (length t ≤ place_of 76 t → cut false (seen ++ b ∷ []) t ≡ last_piece ((seen ++ b ∷ []) ++ t)) → (if c then Piece.other (seen ++ b ∷ []) ∷ cut true [] t else cut false (seen ++ b ∷ []) t) ≡ last_piece (seen ++ b ∷ t)
    go true l f = absurd (omega arith)
    go false l f = f (omega arith) ∙ ap last_piece (append_assoc seen (b ∷ []) t)

all_last : (t : Text) → 0 < length t → last_piece t ≡ Piece.other t ∷ []
all_last [] h = absurd (omega arith)
all_last (b ∷ t) h = refl

nothing : (i : Bool) → cut i [] [] ≡ []
unfolding cut
nothing true = refl
nothing false = refl

none_behind : (i : Bool) (t : Text) (n : ℕ) → length t ≤ n → cut i [] (drop n t) ≡ []
none_behind i t n h = ap (cut i []) (drop_all n t h) ∙ nothing i

pub name_first : (t : Text) (n : ℕ) → n ≡ place_of 59 t → n < length t → cut true [] t ≡ class_piece (take n t) ∷ cut false [] (drop n t)
name_first t n e h = subst (λ (m : ℕ). m < length t → cut true [] t ≡ class_piece (take m t) ∷ cut false [] (drop m t)) (sym e) (name_ends [] t) h

pub name_last : (t : Text) (n : ℕ) → n ≡ place_of 59 t → length t ≤ n → 0 < length t → cut true [] t ≡ Piece.other t ∷ cut false [] (drop n t)
name_last t n e h f = all_name [] t (omega (arith, e, h)) ∙ all_last t f ∙ ap (λ (ps : List Piece). Piece.other t ∷ ps) (sym (none_behind false t n h))

pub other_first : (t : Text) (n : ℕ) → n ≡ place_of 76 t → n < length t → cut false [] t ≡ Piece.other (take (n + 1) t) ∷ cut true [] (drop (n + 1) t)
other_first t n e h = subst (λ (m : ℕ). m < length t → cut false [] t ≡ Piece.other (take (m + 1) t) ∷ cut true [] (drop (m + 1) t)) (sym e) (other_ends [] t) h

pub other_last : (t : Text) (n : ℕ) → n ≡ place_of 76 t → length t ≤ n → 0 < length t → cut false [] t ≡ Piece.other t ∷ cut false [] (drop n t)
other_last t n e h f = all_other [] t (omega (arith, e, h)) ∙ all_last t f ∙ ap (λ (ps : List Piece). Piece.other t ∷ ps) (sym (none_behind false t n h))

pub none_left : (i : Bool) (t : Text) → length t ≡ 0 → cut i [] t ≡ []
none_left i [] h = nothing i
none_left i (b ∷ t) h = absurd (omega (arith, h))

pub left_at : (i j : Bool) (t : Text) (ps : List Piece) → i ≡ j → cut j [] t ≡ ps → cut i [] t ≡ ps
left_at i j t ps e h = ap (λ (k : Bool). cut k [] t) e ∙ h

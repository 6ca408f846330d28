-- Parts of signatures cut at places.
use Rattle.std.proofs.Common.{◌≡◌, ℕ, suc, ◌+◌, ◌-◌, ◌<◌, ◌≤◌, Bool, true, false, get_or, List, [], ◌∷◌, ◌++◌, length, take, drop, refl, sym, ap, subst, ◌∙◌, arith, append_assoc, append-nil, add-one}
use Rattle.std.specs.Prelude.{if◌then◌else◌}
use Rattle.std.proofs.lemmas.List.{length-drop, drop_all, take_all, take_more}
use Rattle.std.proofs.Math.Seq.{drop-cons}
use Rattle.desk_names.specs.declared.signatures.RefPlace.{RefPlace}
use Rattle.desk_names.specs.declared.signatures.Spot.TheVariants as spots
use Rattle.desk_names.specs.declared.signatures.RefState.TheVariants as ref_states
use Rattle.desk_names.specs.declared.signatures.SigState.{SigState}
use Rattle.desk_names.specs.declared.signatures.SigState.TheVariants as sig_states
use Rattle.desk_base.specs.Names.{Text}
use Rattle.desk_names.specs.Pieces.{Piece, class_piece, last_piece}
use Rattle.desk_names.specs.SignatureScan.{sig_step}
use Rattle.desk_names.specs.SignaturePieces.{is_naming, ends_name, named, name_end, sig_cut}
use Rattle.desk_names.proofs.SigPieces.{cut_plain, name_stop}

nothing : (st : SigState) → sig_cut st [] [] ≡ []
unfolding sig_cut
nothing st = refl

all_last : (t : Text) → 0 < length t → last_piece t ≡ Piece.other t ∷ []
all_last [] h = absurd (omega arith)
all_last (b ∷ t) h = refl

none_behind : (st : SigState) (t : Text) (n : ℕ) → length t ≤ n → sig_cut st [] (drop n t) ≡ []
none_behind st t n h = ap (sig_cut st []) (drop_all n t h) ∙ nothing st

module _ (place : RefPlace) (d : ℕ) (i : Bool) where
  ends_at : (seen t : Text) → name_end t < length t → sig_cut (sig_states.In place (ref_states.Class d (spots.Package i))) seen t ≡ class_piece (seen ++ take (name_end t) t) ∷ sig_cut (sig_states.In place (ref_states.Class d (spots.Inner true))) [] (drop (name_end t) t)
  unfolding sig_cut name_end
  ends_at seen [] h = absurd (omega arith)
  ends_at seen (b ∷ t) h = go (ends_name b) refl h (ends_at (seen ++ b ∷ []) t)
    where
      go : (c : Bool) → ends_name b ≡ c → (if c then 0 else suc (name_end t)) < suc (length t)
          → (name_end t < length t → sig_cut (sig_states.In place (ref_states.Class d (spots.Package i))) (seen ++ b ∷ []) t ≡ class_piece ((seen ++ b ∷ []) ++ take (name_end t) t) ∷ sig_cut (sig_states.In place (ref_states.Class d (spots.Inner true))) [] (drop (name_end t) t))
          → sig_cut (sig_states.In place (ref_states.Class d (spots.Package i))) seen (b ∷ t) ≡ class_piece (seen ++ take (if c then 0 else suc (name_end t)) (b ∷ t)) ∷ sig_cut (sig_states.In place (ref_states.Class d (spots.Inner true))) [] (drop (if c then 0 else suc (name_end t)) (b ∷ t))
      go true e l f = name_stop place d i seen b t e ∙ ap (λ (n : Text). class_piece n ∷ sig_cut (sig_states.In place (ref_states.Class d (spots.Inner true))) [] (b ∷ t)) (sym (append-nil seen))
      go false e l f = ap (λ (c : Bool). if c then class_piece seen ∷ sig_cut (sig_step (sig_states.In place (ref_states.Class d (spots.Inner true))) b t) (b ∷ []) t else sig_cut (sig_states.In place (ref_states.Class d (spots.Package i))) (seen ++ b ∷ []) t) e ∙ f (omega arith) ∙ ap (λ (n : Text). class_piece n ∷ sig_cut (sig_states.In place (ref_states.Class d (spots.Inner true))) [] (drop (name_end t) t)) (append_assoc seen (b ∷ []) (take (name_end t) t))

  all_named : (seen t : Text) → length t ≤ name_end t → sig_cut (sig_states.In place (ref_states.Class d (spots.Package i))) seen t ≡ last_piece (seen ++ t)
  unfolding sig_cut name_end
  all_named seen [] h = ap last_piece (sym (append-nil seen))
  all_named seen (b ∷ t) h = go (ends_name b) refl h (all_named (seen ++ b ∷ []) t)
    where
      go : (c : Bool) → ends_name b ≡ c → suc (length t) ≤ (if c then 0 else suc (name_end t)) → (length t ≤ name_end t → sig_cut (sig_states.In place (ref_states.Class d (spots.Package i))) (seen ++ b ∷ []) t ≡ last_piece ((seen ++ b ∷ []) ++ t)) → sig_cut (sig_states.In place (ref_states.Class d (spots.Package i))) seen (b ∷ t) ≡ last_piece (seen ++ b ∷ t)
      go true e l f = absurd (omega arith)
      go false e l f = ap (λ (c : Bool). if c then class_piece seen ∷ sig_cut (sig_step (sig_states.In place (ref_states.Class d (spots.Inner true))) b t) (b ∷ []) t else sig_cut (sig_states.In place (ref_states.Class d (spots.Package i))) (seen ++ b ∷ []) t) e ∙ f (omega arith) ∙ ap last_piece (append_assoc seen (b ∷ []) t)

pub sig_name_first : (st : SigState) (t : Text) (n : ℕ) → is_naming st ≡ true → n ≡ name_end t → n < length t → sig_cut st [] t ≡ class_piece (take n t) ∷ sig_cut (named st) [] (drop n t)
sig_name_first (sig_states.In place (ref_states.Class d (spots.Package i))) t n w e h = subst (λ (m : ℕ). m < length t → sig_cut (sig_states.In place (ref_states.Class d (spots.Package i))) [] t ≡ class_piece (take m t) ∷ sig_cut (sig_states.In place (ref_states.Class d (spots.Inner true))) [] (drop m t)) (sym e) (ends_at place d i [] t) h
sig_name_first _ t n w e h = absurd cc

pub sig_name_last : (st : SigState) (t : Text) (n : ℕ) → is_naming st ≡ true → n ≡ name_end t → length t ≤ n → 0 < length t → sig_cut st [] t ≡ Piece.other t ∷ sig_cut st [] (drop n t)
sig_name_last (sig_states.In place (ref_states.Class d (spots.Package i))) t n w e h f = all_named place d i [] t (omega (arith, e, h)) ∙ all_last t f ∙ ap (λ (ps : List Piece). Piece.other t ∷ ps) (sym (none_behind _ t n h))
sig_name_last _ t n w e h f = absurd cc

-- one byte further in what is no class name
step_more : (st st0 : SigState) (t : Text) (n : ℕ) → n < length t → is_naming st ≡ false → is_naming (sig_step st (get_or t n 0) (drop (n + 1) t)) ≡ false → sig_cut st (take n t) (drop n t) ≡ sig_cut st0 [] t → sig_cut (sig_step st (get_or t n 0) (drop (n + 1) t)) (take (n + 1) t) (drop (n + 1) t) ≡ sig_cut st0 [] t
step_more st st0 t n l h k e =
    sym (ap (sig_cut st (take n t)) (drop-cons t n 0 l ∙ ap (λ (m : ℕ). get_or t n 0 ∷ drop m t) (sym (add-one n)))
    ∙ cut_plain st (take n t) (get_or t n 0) (drop (n + 1) t) h
    ∙ ap (λ (c : Bool). if c then Piece.other (take n t ++ get_or t n 0 ∷ []) ∷ sig_cut (sig_step st (get_or t n 0) (drop (n + 1) t)) [] (drop (n + 1) t) else sig_cut (sig_step st (get_or t n 0) (drop (n + 1) t)) (take n t ++ get_or t n 0 ∷ []) (drop (n + 1) t)) k
    ∙ ap (λ (s : Text). sig_cut (sig_step st (get_or t n 0) (drop (n + 1) t)) s (drop (n + 1) t)) (sym (take_more t n 0 l))) ∙ e

-- a class name begins behind the next byte
step_ends : (st st0 : SigState) (t : Text) (n : ℕ) → n < length t → is_naming st ≡ false → is_naming (sig_step st (get_or t n 0) (drop (n + 1) t)) ≡ true → sig_cut st (take n t) (drop n t) ≡ sig_cut st0 [] t → sig_cut st0 [] t ≡ Piece.other (take (n + 1) t) ∷ sig_cut (sig_step st (get_or t n 0) (drop (n + 1) t)) [] (drop (n + 1) t)
step_ends st st0 t n l h k e =
    sym e
    ∙ ap (sig_cut st (take n t)) (drop-cons t n 0 l ∙ ap (λ (m : ℕ). get_or t n 0 ∷ drop m t) (sym (add-one n)))
    ∙ cut_plain st (take n t) (get_or t n 0) (drop (n + 1) t) h
    ∙ ap (λ (c : Bool). if c then Piece.other (take n t ++ get_or t n 0 ∷ []) ∷ sig_cut (sig_step st (get_or t n 0) (drop (n + 1) t)) [] (drop (n + 1) t) else sig_cut (sig_step st (get_or t n 0) (drop (n + 1) t)) (take n t ++ get_or t n 0 ∷ []) (drop (n + 1) t)) k
    ∙ ap (λ (s : Text). Piece.other s ∷ sig_cut (sig_step st (get_or t n 0) (drop (n + 1) t)) [] (drop (n + 1) t)) (sym (take_more t n 0 l))

-- the same, with the state as the code gets it
rest_is : (t : Text) (n : ℕ) → take (length t - n) (drop n t) ≡ drop n t
rest_is t n = take_all (length t - n) (drop n t) (omega (arith, length-drop n t))

pub other_more : (st st0 r : SigState) (t : Text) (n : ℕ) → n < length t → is_naming st ≡ false → r ≡ sig_step st (get_or t n 0) (take (length t - (n + 1)) (drop (n + 1) t)) → is_naming r ≡ false → sig_cut st (take n t) (drop n t) ≡ sig_cut st0 [] t → sig_cut r (take (n + 1) t) (drop (n + 1) t) ≡ sig_cut st0 [] t
other_more st st0 r t n l h w k e =
    let same : r ≡ sig_step st (get_or t n 0) (drop (n + 1) t) = w ∙ ap (sig_step st (get_or t n 0)) (rest_is t (n + 1)) in
    ap (λ (s : SigState). sig_cut s (take (n + 1) t) (drop (n + 1) t)) same ∙ step_more st st0 t n l h (ap is_naming (sym same) ∙ k) e

pub other_ends : (st st0 r : SigState) (t : Text) (n : ℕ) → n < length t → is_naming st ≡ false → r ≡ sig_step st (get_or t n 0) (take (length t - (n + 1)) (drop (n + 1) t)) → is_naming r ≡ true → sig_cut st (take n t) (drop n t) ≡ sig_cut st0 [] t → sig_cut st0 [] t ≡ Piece.other (take (n + 1) t) ∷ sig_cut r [] (drop (n + 1) t)
other_ends st st0 r t n l h w k e =
    let same : r ≡ sig_step st (get_or t n 0) (drop (n + 1) t) = w ∙ ap (sig_step st (get_or t n 0)) (rest_is t (n + 1)) in
    step_ends st st0 t n l h (ap is_naming (sym same) ∙ k) e ∙ ap (λ (s : SigState). Piece.other (take (n + 1) t) ∷ sig_cut s [] (drop (n + 1) t)) (sym same)

-- nothing is left
pub other_last : (st st0 : SigState) (t : Text) (n : ℕ) → length t ≤ n → 0 < length t → sig_cut st (take n t) (drop n t) ≡ sig_cut st0 [] t → sig_cut st0 [] t ≡ Piece.other (take n t) ∷ sig_cut st [] (drop n t)
unfolding sig_cut
other_last st st0 t n l f e =
    let whole : take n t ≡ t = take_all n t l in
    sym e ∙ ap (sig_cut st (take n t)) (drop_all n t l) ∙ ap last_piece whole ∙ all_last t f ∙ ap (λ (s : Text). Piece.other s ∷ []) (sym whole) ∙ ap (λ (ps : List Piece). Piece.other (take n t) ∷ ps) (sym (none_behind st t n l))

pub sig_none_left : (st : SigState) (t : Text) → length t ≡ 0 → sig_cut st [] t ≡ []
sig_none_left st [] h = nothing st
sig_none_left st (b ∷ t) h = absurd (omega (arith, h))

pub sig_left_at : (a b : SigState) (t : Text) (ps : List Piece) → a ≡ b → sig_cut b [] t ≡ ps → sig_cut a [] t ≡ ps
sig_left_at a b t ps e h = ap (λ (k : SigState). sig_cut k [] t) e ∙ h

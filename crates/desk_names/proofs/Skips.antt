-- Names are passed whole.
use Rattle.std.proofs.Common.{◌≡◌, ℕ, suc, ◌+◌, ◌-◌, ◌<◌, ◌≤◌, Bool, true, false, not, ◌==◌, get_or, [], ◌∷◌, ◌++◌, length, take, drop, refl, sym, ap, ◌∙◌, arith, append_assoc, append-nil, add-one}
use Rattle.std.specs.Prelude.{if◌then◌else◌}
use Rattle.std.proofs.lemmas.List.{length-drop, drop_all, take_all, drop_more}
use Rattle.std.proofs.Math.Seq.{drop-drop, take-add}
use Rattle.desk_names.specs.declared.signatures.Spot.TheVariants as spots
use Rattle.desk_names.specs.declared.signatures.RefState.TheVariants as ref_states
use Rattle.desk_names.specs.declared.signatures.SigState.{SigState}
use Rattle.desk_names.specs.declared.signatures.SigState.TheVariants as sig_states
use Rattle.desk_base.specs.Names.{Text}
use Rattle.desk_base.specs.Signatures.{is_mark}
use Rattle.desk_names.specs.Pieces.{Piece}
use Rattle.desk_names.specs.SignatureScan.{ref_behind, in_class, ref_step, at_place, first_bound, sig_step, sig_run, is_within, mark_place}
use Rattle.desk_names.specs.SignaturePieces.{is_naming, sig_cut}
use Rattle.desk_names.proofs.SigPieces.{cut_plain}

-- within a name a byte that is no mark changes nothing
stays : (st : SigState) (b : ℕ) (t : Text) → is_within st ≡ true → is_mark b ≡ false → sig_step st b t ≡ st
unfolding sig_step ref_step
stays (sig_states.In place (ref_states.Class d (spots.Package true))) b t w h = ap (λ (m : Bool). at_place place (if not m then ref_states.Class d (spots.Package true) else if b == 47 then ref_states.Class d (spots.Package false) else in_class d true b)) h
stays (sig_states.In place (ref_states.Class d (spots.Inner true))) b t w h = ap (λ (m : Bool). at_place place (if not m then ref_states.Class d (spots.Inner true) else in_class d true b)) h
stays (sig_states.In place (ref_states.Variable d true)) b t w h = ap (λ (m : Bool). at_place place (if not m then ref_states.Variable d true else if b == 59 then ref_behind d else ref_states.Wrong)) h
stays (sig_states.ParamName o true) b t w h = ap (λ (m : Bool). if not m then sig_states.ParamName o true else if b == 58 then first_bound o t else sig_states.Wrong) h
stays _ b t w h = absurd cc

run_by : (st : SigState) (b : ℕ) (t : Text) (c : Bool) → is_mark b ≡ c → is_within st ≡ true → sig_run st t ≡ sig_run st (drop (mark_place t) t) → sig_run st (b ∷ t) ≡ sig_run st (drop (if c then 0 else suc (mark_place t)) (b ∷ t))
unfolding sig_run
run_by st b t true e w h = refl
run_by st b t false e w h = ap (λ (s : SigState). sig_run s t) (stays st b t w e) ∙ h

run_skips : (st : SigState) (t : Text) → is_within st ≡ true → sig_run st t ≡ sig_run st (drop (mark_place t) t)
unfolding mark_place
run_skips st [] w = refl
run_skips st (b ∷ t) w = run_by st b t (is_mark b) refl w (run_skips st t w)

cut_by : (st : SigState) (seen : Text) (b : ℕ) (t : Text) (c : Bool) → is_mark b ≡ c → is_within st ≡ true → is_naming st ≡ false → sig_cut st (seen ++ b ∷ []) t ≡ sig_cut st ((seen ++ b ∷ []) ++ take (mark_place t) t) (drop (mark_place t) t) → sig_cut st seen (b ∷ t) ≡ sig_cut st (seen ++ take (if c then 0 else suc (mark_place t)) (b ∷ t)) (drop (if c then 0 else suc (mark_place t)) (b ∷ t))
cut_by st seen b t true e w n h = ap (λ (s : Text). sig_cut st s (b ∷ t)) (sym (append-nil seen))
cut_by st seen b t false e w n h =
    cut_plain st seen b t n
    ∙ ap (λ (s : SigState). if is_naming s then Piece.other (seen ++ b ∷ []) ∷ sig_cut s [] t else sig_cut s (seen ++ b ∷ []) t) (stays st b t w e)
    ∙ ap (λ (c : Bool). if c then Piece.other (seen ++ b ∷ []) ∷ sig_cut st [] t else sig_cut st (seen ++ b ∷ []) t) n
    ∙ h ∙ ap (λ (s : Text). sig_cut st s (drop (mark_place t) t)) (append_assoc seen (b ∷ []) (take (mark_place t) t))

cut_skips : (st : SigState) (seen t : Text) → is_within st ≡ true → is_naming st ≡ false → sig_cut st seen t ≡ sig_cut st (seen ++ take (mark_place t) t) (drop (mark_place t) t)
unfolding mark_place
cut_skips st seen [] w n = ap (λ (s : Text). sig_cut st s []) (sym (append-nil seen))
cut_skips st seen (b ∷ t) w n = cut_by st seen b t (is_mark b) refl w n (cut_skips st (seen ++ b ∷ []) t w n)

-- the same at places of a text

pub run_at : (st : SigState) (text : Text) (at end : ℕ) → is_within st ≡ true → end ≡ at + mark_place (drop at text) → sig_run st (drop end text) ≡ sig_run st (drop at text)
run_at st text at end w e =
    ap (λ (n : ℕ). sig_run st (drop n text)) e ∙ ap (sig_run st) (sym (drop-drop (mark_place (drop at text)) at text)) ∙ sym (run_skips st (drop at text) w)

pub cut_at : (st st0 : SigState) (text : Text) (at end : ℕ) → is_within st ≡ true → is_naming st ≡ false → end ≡ at + mark_place (drop at text) → sig_cut st (take at text) (drop at text) ≡ sig_cut st0 [] text → sig_cut st (take end text) (drop end text) ≡ sig_cut st0 [] text
cut_at st st0 text at end w n e h =
    ap (λ (m : ℕ). sig_cut st (take m text) (drop m text)) e
    ∙ ap (λ (s : Text). sig_cut st s (drop (at + mark_place (drop at text)) text)) (take-add at (mark_place (drop at text)) text)
    ∙ ap (sig_cut st (take at text ++ take (mark_place (drop at text)) (drop at text))) (sym (drop-drop (mark_place (drop at text)) at text))
    ∙ sym (cut_skips st (take at text) (drop at text) w n) ∙ h

-- where the first mark stands

pub mark_none : (t : Text) (n : ℕ) → length t ≤ n → mark_place (drop n t) ≡ 0
unfolding mark_place
mark_none t n h = ap mark_place (drop_all n t h)

mark_front : (b : ℕ) (t : Text) (c : Bool) → is_mark b ≡ c → mark_place (b ∷ t) ≡ (if c then 0 else suc (mark_place t))
unfolding mark_place
mark_front b t c e = ap (λ (m : Bool). if m then 0 else suc (mark_place t)) e

pub mark_here : (t : Text) (n : ℕ) → n < length t → is_mark (get_or t n 0) ≡ true → mark_place (drop n t) ≡ 0
mark_here t n h e = ap mark_place (drop_more t n 0 h) ∙ mark_front (get_or t n 0) (drop (n + 1) t) true e

pub mark_more : (t : Text) (n : ℕ) → n < length t → is_mark (get_or t n 0) ≡ false → mark_place (drop n t) ≡ mark_place (drop (n + 1) t) + 1
mark_more t n h e = ap mark_place (drop_more t n 0 h) ∙ mark_front (get_or t n 0) (drop (n + 1) t) false e ∙ sym (add-one (mark_place (drop (n + 1) t)))

-- one byte further, with the state as the code gets it
run_front : (st : SigState) (b : ℕ) (t : Text) → sig_run st (b ∷ t) ≡ sig_run (sig_step st b t) t
unfolding sig_run
run_front st b t = refl

pub run_more : (st r : SigState) (text : Text) (at : ℕ) → at < length text → r ≡ sig_step st (get_or text at 0) (take (length text - (at + 1)) (drop (at + 1) text)) → sig_run r (drop (at + 1) text) ≡ sig_run st (drop at text)
run_more st r text at h e =
    let same : r ≡ sig_step st (get_or text at 0) (drop (at + 1) text) = e ∙ ap (sig_step st (get_or text at 0)) (take_all (length text - (at + 1)) (drop (at + 1) text) (omega (arith, length-drop (at + 1) text))) in
    ap (λ (s : SigState). sig_run s (drop (at + 1) text)) same ∙ sym (ap (sig_run st) (drop_more text at 0 h) ∙ run_front st (get_or text at 0) (drop (at + 1) text))

-- A folded text, written piece by piece.
use Rattle.std.proofs.Common.{◌≡◌, ℕ, zero, suc, ◌-◌, ◌<◌, ◌≤◌, Bool, true, false, cond, nat_le, List, [], ◌∷◌, ◌++◌, length, take, drop, refl, ap, sym, ◌∙◌, arith, length-drop, append_assoc, le_refl}
use Rattle.std.proofs.lemmas.Bool.{le-leb, lt-leb}
use Rattle.desk_base.specs.Names.{Text, is_empty}
use Rattle.desk_sections.specs.Folding.{cut_place, pieces, folded_bytes}
use Rattle.desk_sections.proofs.Cutting.{cut_to}

pub pieces_short : (count limit : ℕ) (t : Text) → length t ≤ limit → pieces count limit t ≡ t ∷ []
pieces_short zero limit t h = refl
pieces_short (suc count) limit t h = ap (λ (c : Bool). cond c (t ∷ []) (take (cut_place limit t) t ∷ pieces count 71 (drop (cut_place limit t) t))) (le-leb (length t) limit h)

pub pieces_long : (count limit : ℕ) (t : Text) → limit < length t → pieces (suc count) limit t ≡ take (cut_place limit t) t ∷ pieces count 71 (drop (cut_place limit t) t)
pieces_long count limit t h = ap (λ (c : Bool). cond c (t ∷ []) (take (cut_place limit t) t ∷ pieces count 71 (drop (cut_place limit t) t))) (lt-leb (length t) limit h)

-- enough cuts are enough
pub pieces_enough : (c d limit : ℕ) (t : Text) → length t ≤ c → length t ≤ d → 1 ≤ limit → pieces c limit t ≡ pieces d limit t
pieces_enough zero d limit t h g k = sym (pieces_short d limit t (omega (arith, h, k)))
pieces_enough (suc c) zero limit t h g k = pieces_short (suc c) limit t (omega (arith, g, k))
pieces_enough (suc c) (suc d) limit t h g k =
    let cut : (1 ≤ cut_place limit t) × (cut_place limit t ≤ limit) = cut_to limit t k in
    ap (λ (ps : List Text). cond (nat_le (length t) limit) (t ∷ []) (take (cut_place limit t) t ∷ ps))
    (pieces_enough c d 71 (drop (cut_place limit t) t) (rw (length-drop (cut_place limit t) t) (omega (arith, cut.0, h))) (rw (length-drop (cut_place limit t) t) (omega (arith, cut.0, g))) (omega arith))

-- the first line of a text that is too long, and what follows it
pub pieces_step : (limit : ℕ) (t : Text) → limit < length t → 1 ≤ limit → pieces (length t) limit t ≡ take (cut_place limit t) t ∷ pieces (length (drop (cut_place limit t) t)) 71 (drop (cut_place limit t) t)
pieces_step limit t h k =
    let cut : (1 ≤ cut_place limit t) × (cut_place limit t ≤ limit) = cut_to limit t k in
    ap (λ (c : ℕ). pieces c limit t) (one_more (length t) (omega (arith, h)))
    ∙ pieces_long (length t - 1) limit t h
    ∙ ap (λ (ps : List Text). take (cut_place limit t) t ∷ ps)
    (pieces_enough (length t - 1) (length (drop (cut_place limit t) t)) 71 (drop (cut_place limit t) t) (rw (length-drop (cut_place limit t) t) (omega (arith, cut.0))) (le_refl (length (drop (cut_place limit t) t))) (omega arith))
  where
    one_more : (m : ℕ) → 1 ≤ m → m ≡ suc (m - 1)
    one_more m h = omega (arith, h)

bytes_more : (between last p : Text) (ps : List Text) → is_empty ps ≡ false → folded_bytes between last (p ∷ ps) ≡ p ++ (between ++ (32 ∷ folded_bytes between last ps))
bytes_more between last p [] h = absurd cc
bytes_more between last p (q ∷ ps) h = refl

pieces_filled : (count limit : ℕ) (t : Text) → is_empty (pieces count limit t) ≡ false
pieces_filled zero limit t = refl
pieces_filled (suc count) limit t = elim (nat_le (length t) limit) as (λ (c : Bool). is_empty (cond c (t ∷ []) (take (cut_place limit t) t ∷ pieces count 71 (drop (cut_place limit t) t))) ≡ false) [ true ↦ refl | false ↦ refl ]

pub bytes_step : (between last t : Text) (limit : ℕ) → limit < length t → 1 ≤ limit → folded_bytes between last (pieces (length t) limit t) ≡ take (cut_place limit t) t ++ (between ++ (32 ∷ folded_bytes between last (pieces (length (drop (cut_place limit t) t)) 71 (drop (cut_place limit t) t))))
bytes_step between last t limit h k = ap (folded_bytes between last) (pieces_step limit t h k) ∙ bytes_more between last (take (cut_place limit t) t) (pieces (length (drop (cut_place limit t) t)) 71 (drop (cut_place limit t) t)) (pieces_filled (length (drop (cut_place limit t) t)) 71 (drop (cut_place limit t) t))

pub assoc4 : (o a b c : Text) → o ++ (a ++ (b ++ (32 ∷ c))) ≡ (((o ++ a) ++ b) ++ (32 ∷ [])) ++ c
assoc4 o a b c =
    sym (append_assoc o a (b ++ (32 ∷ c))) ∙ sym (append_assoc (o ++ a) b (32 ∷ c)) ∙ sym (append_assoc ((o ++ a) ++ b) (32 ∷ []) c)

pub written_step : (all out between last rest : Text) (limit place : ℕ) (a b d r : Text) → all ≡ out ++ folded_bytes between last (pieces (length rest) limit rest) → limit < length rest → 1 ≤ limit → place ≡ cut_place limit rest → a ≡ out ++ take place rest → b ≡ a ++ between → d ≡ b ++ (32 ∷ []) → r ≡ drop place rest → all ≡ d ++ folded_bytes between last (pieces (length r) 71 r)
written_step all out between last rest limit place a b d r e h k p ea eb ed er =
    e ∙ ap (λ (s : Text). out ++ s) (bytes_step between last rest limit h k)
    ∙ ap (λ (i : ℕ). out ++ (take i rest ++ (between ++ (32 ∷ folded_bytes between last (pieces (length (drop i rest)) 71 (drop i rest)))))) (sym p)
    ∙ ap (λ (s : Text). out ++ (take place rest ++ (between ++ (32 ∷ folded_bytes between last (pieces (length s) 71 s))))) (sym er)
    ∙ assoc4 out (take place rest) between (folded_bytes between last (pieces (length r) 71 r))
    ∙ ap (λ (s : Text). ((s ++ between) ++ (32 ∷ [])) ++ folded_bytes between last (pieces (length r) 71 r)) (sym ea)
    ∙ ap (λ (s : Text). (s ++ (32 ∷ [])) ++ folded_bytes between last (pieces (length r) 71 r)) (sym eb)
    ∙ ap (λ (s : Text). s ++ folded_bytes between last (pieces (length r) 71 r)) (sym ed)

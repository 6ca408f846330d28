-- Writing a package behind a text, segment by segment.
use Rattle.std.proofs.Common.{◌≡◌, ◌≤◌, ◌<◌, ◌+◌, ℕ, [], ◌∷◌, ◌++◌, length, take, get_or, refl, sym, ap, ◌∙◌, arith}
use Rattle.std.proofs.lemmas.List.{append_assoc, append-nil, take_more, length-take-le}
use Rattle.desk_base.specs.Names.{Text, Package, written}

-- one more segment
pub written_first : (s : ℕ) (ps : Package) (d : Text) → 0 < length ps → written s (take (0 + 1) ps) ≡ get_or ps 0 d
written_first s [] d h = absurd (omega arith)
written_first s (p ∷ ps) d h = refl

pub written_push : (s : ℕ) (ps : Package) (x : Text) → 0 < length ps → written s (ps ++ x ∷ []) ≡ (written s ps ++ s ∷ []) ++ x
written_push s [] x h = absurd (omega arith)
written_push s (p ∷ []) x h = sym (append_assoc p (s ∷ []) x)
written_push s (p ∷ q ∷ ps) x h = ap (λ (t : Text). p ++ s ∷ t) (written_push s (q ∷ ps) x (omega arith))
    ∙ sym (ap (λ (t : Text). t ++ x) (append_assoc p (s ∷ written s (q ∷ ps)) (s ∷ [])) ∙ append_assoc p (s ∷ written s (q ∷ ps) ++ s ∷ []) x)

take_some : (i : ℕ) (segs : Package) → 0 < i → i < length segs → 0 < length (take i segs)
take_some i segs h k = omega (arith, length-take-le i segs (omega arith))

-- a step of writing a package behind a text
pub appended_more : (s : ℕ) (segs : Package) (i : ℕ) (first before after last x : Text) → 0 < i → i < length segs → before ≡ first ++ written s (take i segs) → after ≡ before ++ s ∷ [] → last ≡ after ++ x → x ≡ get_or segs i x → last ≡ first ++ written s (take (i + 1) segs)
appended_more s segs i first before after last x some within e1 e2 e3 e4 =
    let w = written s (take i segs) in
    let next : written s (take (i + 1) segs) ≡ (w ++ s ∷ []) ++ x =
    ap (written s) (take_more segs i x within ∙ ap (λ (y : Text). take i segs ++ y ∷ []) (sym e4)) ∙ written_push s (take i segs) x (take_some i segs some within) in
    e3 ∙ ap (λ (t : Text). t ++ x) (e2 ∙ ap (λ (t : Text). t ++ s ∷ []) e1 ∙ append_assoc first w (s ∷ [])) ∙ append_assoc first (w ++ s ∷ []) x ∙ ap (λ (t : Text). first ++ t) (sym next)

pub appended_first : (s : ℕ) (segs : Package) (i : ℕ) (first before last x : Text) → i ≤ 0 → i < length segs → before ≡ first ++ written s (take i segs) → last ≡ before ++ x → x ≡ get_or segs i x → last ≡ first ++ written s (take (i + 1) segs)
appended_first s segs i first before last x none within e1 e3 e4 =
    let zero_i : i ≡ 0 = omega arith in
    let start : before ≡ first = e1 ∙ ap (λ (n : ℕ). first ++ written s (take n segs)) zero_i ∙ append-nil first in
    let next : written s (take (i + 1) segs) ≡ x = ap (λ (n : ℕ). written s (take (n + 1) segs)) zero_i ∙ written_first s segs x (omega arith) ∙ ap (λ (n : ℕ). get_or segs n x) (sym zero_i) ∙ sym e4 in
    e3 ∙ ap (λ (t : Text). t ++ x) start ∙ ap (λ (t : Text). first ++ t) (sym next)

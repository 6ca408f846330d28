-- The class names of a descriptor's text stand between an `L` and the next `;`.
use Rattle.std.proofs.Common.{◌≡◌, ℕ, zero, suc, ◌<◌, Bool, true, false, ◌==◌, List, [], ◌∷◌, ◌++◌, length, take, drop, refl, sym, ap, ◌∙◌, append_assoc, append-nil, arith, if◌then◌else◌}
use Rattle.std.proofs.lemmas.Bool.{false_from_ne_true, eqb-true}
use Rattle.memchr.specs.Find.{Nowhere, Passes, is_byte}
use Rattle.desk_base.specs.Names.{Text}
use Rattle.desk_class.specs.Standing.{standing, standing_in}

-- the first byte isn't it, and the others behind it are as before
not_first : (a b : ℕ) (t : Text) (k : ℕ) → Nowhere (Passes (is_byte a) (b ∷ t)) 0 (suc k) → (b == a) ≡ false
not_first a b t k none = false_from_ne_true (b == a) (λ e. none 0 (omega arith) (omega arith) e)

behind : (a b : ℕ) (t : Text) (k : ℕ) → Nowhere (Passes (is_byte a) (b ∷ t)) 0 (suc k) → Nowhere (Passes (is_byte a) t) 0 k
behind a b t k none j low high p = none (suc j) (omega arith) (omega arith) p

pub name_begins : (t : Text) (k : ℕ) → k < length t → Nowhere (Passes (is_byte 76) t) 0 k → Passes (is_byte 76) t k → standing_in t ≡ standing true [] (drop (suc k) t)
unfolding standing
name_begins [] k h none p = absurd (omega arith)
name_begins (b ∷ t) zero h none p = ap (λ (c : Bool). if c then standing true [] t else standing false [] t) p
name_begins (b ∷ t) (suc k) h none p =
    ap (λ (c : Bool). if c then standing true [] t else standing false [] t) (not_first 76 b t k none)
    ∙ name_begins t k (omega arith) (behind 76 b t k none) p

pub no_name : (t : Text) → Nowhere (Passes (is_byte 76) t) 0 (length t) → standing_in t ≡ []
unfolding standing
no_name [] none = refl
no_name (b ∷ t) none =
    ap (λ (c : Bool). if c then standing true [] t else standing false [] t) (not_first 76 b t (length t) none)
    ∙ no_name t (behind 76 b t (length t) none)

-- behind a name, its `;` is in none
skip : (b : ℕ) (t : Text) → (b == 59) ≡ true → standing_in (b ∷ t) ≡ standing_in t
unfolding standing
skip b t e = ap (λ (x : ℕ). standing_in (x ∷ t)) (eqb-true b 59 e)

pub name_ends : (seen t : Text) (k : ℕ) → k < length t → Nowhere (Passes (is_byte 59) t) 0 k → Passes (is_byte 59) t k → standing true seen t ≡ (seen ++ take k t) ∷ standing_in (drop k t)
unfolding standing
name_ends seen [] k h none p = absurd (omega arith)
name_ends seen (b ∷ t) zero h none p =
    ap (λ (c : Bool). if c then seen ∷ standing false [] t else standing true (seen ++ b ∷ []) t) p
    ∙ ap (λ (n : Text). n ∷ standing_in t) (sym (append-nil seen))
    ∙ ap (λ (ns : List Text). (seen ++ []) ∷ ns) (sym (skip b t p))
name_ends seen (b ∷ t) (suc k) h none p =
    ap (λ (c : Bool). if c then seen ∷ standing false [] t else standing true (seen ++ b ∷ []) t) (not_first 59 b t k none)
    ∙ name_ends (seen ++ b ∷ []) t k (omega arith) (behind 59 b t k none) p
    ∙ ap (λ (n : Text). n ∷ standing_in (drop k t)) (append_assoc seen (b ∷ []) (take k t))

pub name_open : (seen t : Text) → Nowhere (Passes (is_byte 59) t) 0 (length t) → standing true seen t ≡ []
unfolding standing
name_open seen [] none = refl
name_open seen (b ∷ t) none =
    ap (λ (c : Bool). if c then seen ∷ standing false [] t else standing true (seen ++ b ∷ []) t) (not_first 59 b t (length t) none)
    ∙ name_open (seen ++ b ∷ []) t (behind 59 b t (length t) none)

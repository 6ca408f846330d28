-- A path cut at its last slash.
use Rattle.std.proofs.Common.{◌≡◌, ◌≢◌, ℕ, zero, suc, ◌+◌, ◌-◌, ◌<◌, length, get_or, take, drop, Some, None, Option, Bor, refl, sym, ap, ◌∙◌, ⊎_elim, ne_eqb, arith, length-drop, get_or-drop}
use Rattle.std.specs.Prelude.{option_map}
use Rattle.std.specs.Option.{MatchOption}
use Rattle.std.specs.Str.Pattern.{RFindsChar, SplitsAroundMatch}
use Rattle.std.specs.Path.{rfind_below, rsplit_once}
use Rattle.std.proofs.lemmas.Bool.{cases_eq, cond-true, cond-false, eq-eqb}
use Rattle.std.proofs.lemmas.Str.{len_utf8_ascii}
use Rattle.std.proofs.lemmas.Str.Pattern.{NoCharPasses-char}
use Rattle.desk_base.specs.Names.{Text, slash}

-- no byte of the first so many is a slash
no_last : (text : Text) (n : ℕ) → ((i : ℕ) → i < n → get_or text i 0 ≢ slash) → rfind_below slash text n ≡ None
no_last text zero h = refl
no_last text (suc n) h = cond-false _ _ _ (ne_eqb _ slash (h n (omega arith))) ∙ no_last text n (λ i l. h i (omega arith))

-- a slash behind which none follows is the last
last_at : (text : Text) (k n : ℕ) → k < n → get_or text k 0 ≡ slash → ((i : ℕ) → k < i → i < n → get_or text i 0 ≢ slash) → rfind_below slash text n ≡ Some k
last_at text k zero l at h = absurd (omega arith)
last_at text k (suc n) l at h =
    ⊎_elim
    (λ e. cond-true _ _ _ (eq-eqb _ slash (ap (λ j. get_or text j 0) (sym e) ∙ at)) ∙ ap (λ (j : ℕ). Some j) (sym e))
    (λ other. cond-false _ _ _ (ne_eqb _ slash (h n (omega arith) (omega arith))) ∙ last_at text k n (omega arith) at (λ i a b. h i a (omega arith)))
    (cases_eq k n)

-- what the search from the end answers is that cut
pub cut_at_last : (text : Text) (r : Option (Bor Text × Bor Text)) → MatchOption r (RFindsChar slash text None) (λ x. SplitsAroundMatch (RFindsChar slash) text x.0.now x.1.now)
    → option_map (λ x. (x.0.now, x.1.now)) r ≡ rsplit_once slash text
unfolding rsplit_once
cut_at_last text None h =
    sym (ap (option_map (λ i. (take i text, drop (i + 1) text))) (no_last text (length text) (λ i l. NoCharPasses-char slash text i h (omega arith) l)))
cut_at_last text (Some x) h =
    let i = h.0 in
    let j = h.1 in
    let next : j ≡ i + 1 = omega (arith, h.2.1.ends, len_utf8_ascii slash (omega arith)) in
    let later : (k : ℕ) → i < k → k < length text → get_or text k 0 ≢ slash = λ k a l e.
    let back : j + (k - j) ≡ k = omega arith in
    NoCharPasses-char slash (drop j text) (k - j) h.2.0 (omega arith) (omega (arith, length-drop j text)) (get_or-drop j text (k - j) 0 ∙ ap (λ n. get_or text n 0) back ∙ e) in
    let found = last_at text i (length text) (omega (arith, h.7)) (h.2.1.byte (omega arith)) later in
    let second = h.4 ∙ ap (λ n. drop n text) next in
    (λ t. Some (h.3 t, second t)) ∙ sym (ap (option_map (λ k. (take k text, drop (k + 1) text))) found)

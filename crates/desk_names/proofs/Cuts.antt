-- Where a name ends in a text.
use Rattle.std.proofs.Common.{◌≡◌, ℕ, Bool, true, false, not, ◌&&◌, ◌==◌, [], ◌∷◌, ◌++◌, get_or, drop, refl, sym, ap, ◌∙◌}
use Rattle.std.specs.Prelude.{if◌then◌else◌}
use Rattle.std.proofs.lemmas.Bool.{and_parts, not-true, both_ways}
use Rattle.desk_base.specs.Names.{Text}
use Rattle.desk_names.proofs.Bytes.{name_from}

-- two texts in one: what stands first is the same, and what is left
pub record Same (A : Type 0) (a b : A) (s t : Text) : Type 0 where
  pub first : a ≡ b
  pub left : s ≡ t

pub head_is : (a b : ℕ) (s t : Text) → a ∷ s ≡ b ∷ t → a ≡ b
head_is a b s t e = ap (λ (l : Text). get_or l 0 0) e

pub tail_is : (a b : ℕ) (s t : Text) → a ∷ s ≡ b ∷ t → s ≡ t
tail_is a b s t e = ap (λ (l : Text). drop 1 l) e

pub record Goes (stop : ℕ → Bool) (b : ℕ) (t : Text) : Type 0 where
  pub inside : Bool
  pub more : name_from stop inside t ≡ true
  pub on : (x : ℕ) → stop x ≡ true → (x == 47) ≡ false → b ≡ x → ⊥

goes_by : (stop : ℕ → Bool) (i : Bool) (b : ℕ) (t : Text) (c : Bool) → (b == 47) ≡ c → (if c then i && name_from stop false t else not (stop b) && name_from stop true t) ≡ true → Goes stop b t
goes_by stop i b t true e h = record { inside = false; more = (and_parts _ _ h).1; on = λ x sx nx bx. both_ways (x == 47) nx (ap (λ (y : ℕ). y == 47) (sym bx) ∙ e) }
goes_by stop i b t false e h = record { inside = true; more = (and_parts _ _ h).1; on = λ x sx nx bx. both_ways (stop b) (not-true _ (and_parts _ _ h).0) (ap stop bx ∙ sx) }

pub goes : (stop : ℕ → Bool) (i : Bool) (b : ℕ) (t : Text) → name_from stop i (b ∷ t) ≡ true → Goes stop b t
unfolding name_from
goes stop i b t h = goes_by stop i b t (b == 47) refl h

-- names that end at a stop
pub cut : (stop : ℕ → Bool) (i j : Bool) (n m : Text) (x y : ℕ) (s t : Text) → name_from stop i n ≡ true → name_from stop j m ≡ true → stop x ≡ true → (x == 47) ≡ false → stop y ≡ true → (y == 47) ≡ false → n ++ x ∷ s ≡ m ++ y ∷ t → Same Text n m (x ∷ s) (y ∷ t)
cut stop i j [] [] x y s t hn hm sx nx sy ny e = record { first = refl; left = e }
cut stop i j [] (c ∷ m) x y s t hn hm sx nx sy ny e = absurd ((goes stop j c m hm).on x sx nx (sym (head_is _ _ _ _ e)))
cut stop i j (b ∷ n) [] x y s t hn hm sx nx sy ny e = absurd ((goes stop i b n hn).on y sy ny (head_is _ _ _ _ e))
cut stop i j (b ∷ n) (c ∷ m) x y s t hn hm sx nx sy ny e =
    let g = goes stop i b n hn in
    let k = goes stop j c m hm in
    let r : Same Text n m (x ∷ s) (y ∷ t) = cut stop g.inside k.inside n m x y s t g.more k.more sx nx sy ny (tail_is b c _ _ e) in
    record { first = ap (λ (z : ℕ). z ∷ n) (head_is b c _ _ e) ∙ ap (λ (l : Text). c ∷ l) r.first; left = r.left }

-- Modified UTF-8, byte by byte: texts that are cut at a byte below 0x80 and put together again.
use Rattle.std.proofs.Common.{◌≡◌, ℕ, ◌+◌, Bool, true, false, cond, ◌&&◌, nat_le, [], ◌∷◌, ◌++◌, Option, Some, None, refl, sym, ap, ◌∙◌}
use Rattle.desk_base.specs.Names.{Text}
use Rattle.desk_base.specs.Utf8.{is_single, is_continuation, is_pair, bad_from, bad_form}

-- how many continuations are awaited, or that a byte was wrong
pub data Awaits : Type 0 where
  clean : Awaits
  one : Awaits
  two : Awaits
  wrong : Awaits

abbrev pub leads_pair : ℕ → Bool
leads_pair a = nat_le 192 a && nat_le a 223

abbrev pub leads_triple : ℕ → Bool
leads_triple a = nat_le 224 a && nat_le a 239

abbrev begun : Bool → Bool → Bool → Awaits
begun s p q = cond s Awaits.clean (cond p Awaits.one (cond q Awaits.two Awaits.wrong))

abbrev pub reads : Awaits → ℕ → Awaits
reads Awaits.clean a = begun (is_single a) (leads_pair a) (leads_triple a)
reads Awaits.one a = cond (is_continuation a) Awaits.clean Awaits.wrong
reads Awaits.two a = cond (is_continuation a) Awaits.one Awaits.wrong
reads Awaits.wrong a = Awaits.wrong

abbrev pub behind : Awaits → Text → Awaits
behind w [] = w
behind w (a ∷ t) = behind (reads w a) t

pub behind-append : (w : Awaits) (t u : Text) → behind w (t ++ u) ≡ behind (behind w t) u
behind-append w [] u = refl
behind-append w (a ∷ t) u = behind-append (reads w a) t u

wrong_stays : (t : Text) → behind Awaits.wrong t ≡ Awaits.wrong
wrong_stays [] = refl
wrong_stays (a ∷ t) = wrong_stays t

-- a text of whole forms
abbrev pub IsWhole : Text → Type 0
IsWhole t = behind Awaits.clean t ≡ Awaits.clean

-- ---- the same as the first bad form

single_on : (a : ℕ) (t : Text) → is_single a ≡ true → behind Awaits.clean (a ∷ t) ≡ behind Awaits.clean t
single_on a t s = ap (λ (b : Bool). behind (begun b (leads_pair a) (leads_triple a)) t) s

pair_begins : (a : ℕ) → is_single a ≡ false → leads_pair a ≡ true → reads Awaits.clean a ≡ Awaits.one
pair_begins a s p = ap (λ (b : Bool). begun b (leads_pair a) (leads_triple a)) s ∙ ap (λ (b : Bool). begun false b (leads_triple a)) p

triple_begins : (a : ℕ) → is_single a ≡ false → leads_pair a ≡ false → leads_triple a ≡ true → reads Awaits.clean a ≡ Awaits.two
triple_begins a s p q = ap (λ (b : Bool). begun b (leads_pair a) (leads_triple a)) s ∙ ap (λ (b : Bool). begun false b (leads_triple a)) p ∙ ap (λ (b : Bool). begun false false b) q

nothing_begins : (a : ℕ) → is_single a ≡ false → leads_pair a ≡ false → leads_triple a ≡ false → reads Awaits.clean a ≡ Awaits.wrong
nothing_begins a s p q = ap (λ (b : Bool). begun b (leads_pair a) (leads_triple a)) s ∙ ap (λ (b : Bool). begun false b (leads_triple a)) p ∙ ap (λ (b : Bool). begun false false b) q

-- behind a byte of each class, with what follows
by_pair : (a b : ℕ) (t : Text) → is_single a ≡ false → leads_pair a ≡ true → behind Awaits.clean (a ∷ b ∷ t) ≡ behind (cond (is_continuation b) Awaits.clean Awaits.wrong) t
by_pair a b t s p = ap (λ (w : Awaits). behind (reads w b) t) (pair_begins a s p)

by_triple : (a b c : ℕ) (t : Text) → is_single a ≡ false → leads_pair a ≡ false → leads_triple a ≡ true → behind Awaits.clean (a ∷ b ∷ c ∷ t) ≡ behind (reads (cond (is_continuation b) Awaits.one Awaits.wrong) c) t
by_triple a b c t s p q = ap (λ (w : Awaits). behind (reads (reads w b) c) t) (triple_begins a s p q)

by_none : (a : ℕ) (t : Text) → is_single a ≡ false → leads_pair a ≡ false → leads_triple a ≡ false → behind Awaits.clean (a ∷ t) ≡ Awaits.wrong
by_none a t s p q = ap (λ (w : Awaits). behind w t) (nothing_begins a s p q) ∙ wrong_stays t

-- a bad form and a run, by the tests of the bytes
abbrev bad_by : Bool → Bool → Bool → Bool → Bool → Option ℕ → Option ℕ → Option ℕ → ℕ → Option ℕ
bad_by s p q x y u v w at = cond s u (cond (p && x) v (cond (q && (x && y)) w (Some at)))

abbrev run_by : Bool → Bool → Bool → Bool → Bool → Awaits → Awaits → Awaits → Awaits
run_by s p q x y u v w = cond s u (cond p (cond x v Awaits.wrong) (cond q (cond x (cond y w Awaits.wrong) Awaits.wrong) Awaits.wrong))

bad_is : (at a b c : ℕ) (t : Text) (s p q x y : Bool) → is_single a ≡ s → leads_pair a ≡ p → leads_triple a ≡ q → is_continuation b ≡ x → is_continuation c ≡ y
    → bad_from at (a ∷ b ∷ c ∷ t) ≡ bad_by s p q x y (bad_from (at + 1) (b ∷ c ∷ t)) (bad_from (at + 2) (c ∷ t)) (bad_from (at + 3) t) at
unfolding bad_from
bad_is at a b c t s p q x y es ep eq ex ey =
    let u = bad_from (at + 1) (b ∷ c ∷ t) in
    let v = bad_from (at + 2) (c ∷ t) in
    let w = bad_from (at + 3) t in
    ap (λ (i : Bool). bad_by i (leads_pair a) (leads_triple a) (is_continuation b) (is_continuation c) u v w at) es
    ∙ ap (λ (i : Bool). bad_by s i (leads_triple a) (is_continuation b) (is_continuation c) u v w at) ep
    ∙ ap (λ (i : Bool). bad_by s p i (is_continuation b) (is_continuation c) u v w at) eq
    ∙ ap (λ (i : Bool). bad_by s p q i (is_continuation c) u v w at) ex
    ∙ ap (λ (i : Bool). bad_by s p q x i u v w at) ey

run_is : (a b c : ℕ) (t : Text) (s p q x y : Bool) → is_single a ≡ s → leads_pair a ≡ p → leads_triple a ≡ q → is_continuation b ≡ x → is_continuation c ≡ y
    → behind Awaits.clean (a ∷ b ∷ c ∷ t) ≡ run_by s p q x y (behind Awaits.clean (b ∷ c ∷ t)) (behind Awaits.clean (c ∷ t)) (behind Awaits.clean t)
run_is a b c t true p q x y es ep eq ex ey = single_on a (b ∷ c ∷ t) es
run_is a b c t false true q true y es ep eq ex ey = by_pair a b (c ∷ t) es ep ∙ ap (λ (i : Bool). behind (cond i Awaits.clean Awaits.wrong) (c ∷ t)) ex
run_is a b c t false true q false y es ep eq ex ey = by_pair a b (c ∷ t) es ep ∙ ap (λ (i : Bool). behind (cond i Awaits.clean Awaits.wrong) (c ∷ t)) ex ∙ wrong_stays (c ∷ t)
run_is a b c t false false true true true es ep eq ex ey =
    by_triple a b c t es ep eq ∙ ap (λ (i : Bool). behind (reads (cond i Awaits.one Awaits.wrong) c) t) ex ∙ ap (λ (i : Bool). behind (cond i Awaits.clean Awaits.wrong) t) ey
run_is a b c t false false true true false es ep eq ex ey =
    by_triple a b c t es ep eq ∙ ap (λ (i : Bool). behind (reads (cond i Awaits.one Awaits.wrong) c) t) ex ∙ ap (λ (i : Bool). behind (cond i Awaits.clean Awaits.wrong) t) ey ∙ wrong_stays t
run_is a b c t false false true false y es ep eq ex ey =
    by_triple a b c t es ep eq ∙ ap (λ (i : Bool). behind (reads (cond i Awaits.one Awaits.wrong) c) t) ex ∙ wrong_stays t
run_is a b c t false false false x y es ep eq ex ey = by_none a (b ∷ c ∷ t) es ep eq

-- no bad form where the run is whole, and the other way round
abbrev pub Both : Option ℕ → Awaits → Type 0
Both bad run = ((bad ≡ None) → run ≡ Awaits.clean) × (run ≡ Awaits.clean → bad ≡ None)

both_by : (s p q x y : Bool) (u v w : Option ℕ) (i j k : Awaits) (at : ℕ) → Both u i → Both v j → Both w k → Both (bad_by s p q x y u v w at) (run_by s p q x y i j k)
both_by true p q x y u v w i j k at f g h = f
both_by false true q true y u v w i j k at f g h = g
both_by false true true false y u v w i j k at f g h = (λ e. absurd cc, λ e. absurd cc)
both_by false true false false y u v w i j k at f g h = (λ e. absurd cc, λ e. absurd cc)
both_by false false true true true u v w i j k at f g h = h
both_by false false true true false u v w i j k at f g h = (λ e. absurd cc, λ e. absurd cc)
both_by false false true false y u v w i j k at f g h = (λ e. absurd cc, λ e. absurd cc)
both_by false false false x y u v w i j k at f g h = (λ e. absurd cc, λ e. absurd cc)

both_along : (bad other : Option ℕ) (run again : Awaits) → bad ≡ other → run ≡ again → Both other again → Both bad run
both_along bad other run again e f h = (λ k. f ∙ h.0 (sym e ∙ k), λ k. e ∙ h.1 (sym f ∙ k))

one_byte : (at a : ℕ) (s p q : Bool) → is_single a ≡ s → leads_pair a ≡ p → leads_triple a ≡ q → Both (bad_from at (a ∷ [])) (behind Awaits.clean (a ∷ []))
unfolding bad_from
one_byte at a s p q es ep eq =
    both_along _ (cond s None (Some at)) _ (begun s p q) (ap (λ (i : Bool). cond i None (Some at)) es)
    (ap (λ (i : Bool). begun i (leads_pair a) (leads_triple a)) es ∙ ap (λ (i : Bool). begun s i (leads_triple a)) ep ∙ ap (λ (i : Bool). begun s p i) eq) (by_tests s p q)
  where
    by_tests : (s p q : Bool) → Both (cond s None (Some at)) (begun s p q)
    by_tests true p q = (λ e. refl, λ e. refl)
    by_tests false true q = (λ e. absurd cc, λ e. absurd cc)
    by_tests false false true = (λ e. absurd cc, λ e. absurd cc)
    by_tests false false false = (λ e. absurd cc, λ e. absurd cc)

bad_two : (at a b : ℕ) (p x : Bool) → is_single a ≡ false → leads_pair a ≡ p → is_continuation b ≡ x → bad_from at (a ∷ b ∷ []) ≡ cond (p && x) None (Some at)
unfolding bad_from
bad_two at a b p x es ep ex =
    ap (λ (i : Bool). cond i (bad_from (at + 1) (b ∷ [])) (cond (leads_pair a && is_continuation b) None (Some at))) es
    ∙ ap (λ (i : Bool). cond (i && is_continuation b) None (Some at)) ep
    ∙ ap (λ (i : Bool). cond (p && i) None (Some at)) ex

two_bytes : (at a b : ℕ) (s p q x : Bool) → is_single a ≡ s → leads_pair a ≡ p → leads_triple a ≡ q → is_continuation b ≡ x → Both (bad_from (at + 1) (b ∷ [])) (behind Awaits.clean (b ∷ [])) → Both (bad_from at (a ∷ b ∷ [])) (behind Awaits.clean (a ∷ b ∷ []))
unfolding bad_from
two_bytes at a b true p q x es ep eq ex f =
    both_along _ (bad_from (at + 1) (b ∷ [])) _ (behind Awaits.clean (b ∷ []))
    (ap (λ (i : Bool). cond i (bad_from (at + 1) (b ∷ [])) (cond (is_pair a b) None (Some at))) es) (single_on a (b ∷ []) es) f
two_bytes at a b false true q true es ep eq ex f =
    both_along _ None _ Awaits.clean (bad_two at a b true true es ep ex) (by_pair a b [] es ep ∙ ap (λ (i : Bool). cond i Awaits.clean Awaits.wrong) ex) (λ e. refl, λ e. refl)
two_bytes at a b false true q false es ep eq ex f =
    both_along _ (Some at) _ Awaits.wrong (bad_two at a b true false es ep ex) (by_pair a b [] es ep ∙ ap (λ (i : Bool). cond i Awaits.clean Awaits.wrong) ex) (λ e. absurd cc, λ e. absurd cc)
two_bytes at a b false false true x es ep eq ex f =
    both_along _ (Some at) _ (cond x Awaits.one Awaits.wrong) (bad_two at a b false x es ep ex)
    (ap (λ (w : Awaits). reads w b) (triple_begins a es ep eq) ∙ ap (λ (i : Bool). cond i Awaits.one Awaits.wrong) ex) (never x)
  where
    never : (x : Bool) → Both (Some at) (cond x Awaits.one Awaits.wrong)
    never true = (λ e. absurd cc, λ e. absurd cc)
    never false = (λ e. absurd cc, λ e. absurd cc)
two_bytes at a b false false false x es ep eq ex f =
    both_along _ (Some at) _ Awaits.wrong (bad_two at a b false x es ep ex) (by_none a (b ∷ []) es ep eq) (λ e. absurd cc, λ e. absurd cc)

pub both : (at : ℕ) (t : Text) → Both (bad_from at t) (behind Awaits.clean t)
unfolding bad_from
both at [] = (λ e. refl, λ e. refl)
both at (a ∷ []) = one_byte at a (is_single a) (leads_pair a) (leads_triple a) refl refl refl
both at (a ∷ b ∷ []) = two_bytes at a b (is_single a) (leads_pair a) (leads_triple a) (is_continuation b) refl refl refl refl (both (at + 1) (b ∷ []))
both at (a ∷ b ∷ c ∷ t) =
    both_along _ _ _ _
    (bad_is at a b c t (is_single a) (leads_pair a) (leads_triple a) (is_continuation b) (is_continuation c) refl refl refl refl refl)
    (run_is a b c t (is_single a) (leads_pair a) (leads_triple a) (is_continuation b) (is_continuation c) refl refl refl refl refl)
    (both_by (is_single a) (leads_pair a) (leads_triple a) (is_continuation b) (is_continuation c) _ _ _ _ _ _ at (both (at + 1) (b ∷ c ∷ t)) (both (at + 2) (c ∷ t)) (both (at + 3) t))

pub whole_from : (t : Text) → bad_form t ≡ None → IsWhole t
whole_from t = (both 0 t).0

pub good_from : (t : Text) → IsWhole t → bad_form t ≡ None
good_from t = (both 0 t).1

-- ---- cut at a byte below 0x80, and joined

-- a byte that is a form by itself and continues none
pub record IsPlain (c : ℕ) : Type 0 where
  pub single : is_single c ≡ true
  pub first : is_continuation c ≡ false

cut_by : (c : ℕ) → IsPlain c → (w : Awaits) (b : Text) → behind (reads w c) b ≡ Awaits.clean → (w ≡ Awaits.clean) × IsWhole b
cut_by c plain Awaits.clean b h = (refl, sym (single_on c b plain.single) ∙ h)
cut_by c plain Awaits.one b h = let e : behind Awaits.wrong b ≡ Awaits.clean = sym (ap (λ (i : Bool). behind (cond i Awaits.clean Awaits.wrong) b) plain.first) ∙ h in let f = wrong_stays b in absurd cc
cut_by c plain Awaits.two b h = let e : behind Awaits.wrong b ≡ Awaits.clean = sym (ap (λ (i : Bool). behind (cond i Awaits.one Awaits.wrong) b) plain.first) ∙ h in let f = wrong_stays b in absurd cc
cut_by c plain Awaits.wrong b h = let f = wrong_stays b in absurd cc

pub cut_plain : (c : ℕ) → IsPlain c → (a b : Text) → IsWhole (a ++ c ∷ b) → IsWhole a × IsWhole b
cut_plain c plain a b h = cut_by c plain (behind Awaits.clean a) b (sym (behind-append Awaits.clean a (c ∷ b)) ∙ h)

pub join_whole : (a b : Text) → IsWhole a → IsWhole b → IsWhole (a ++ b)
join_whole a b h k = behind-append Awaits.clean a b ∙ ap (λ (w : Awaits). behind w b) h ∙ k

pub before_plain : (c : ℕ) → IsPlain c → (b : Text) → IsWhole b → IsWhole (c ∷ b)
before_plain c plain b k = single_on c b plain.single ∙ k

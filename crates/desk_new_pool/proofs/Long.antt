-- Texts that are too long, from the last use to the first.
use Rattle.std.proofs.Common.{◌≡◌, ◌≢◌, ℕ, ◌+◌, ◌-◌, ◌<◌, ◌≤◌, ◌^◌, Bool, true, false, cond, ◌||◌, List, ◌∷◌, length, get_or, drop, max, min, Option, Some, None, refl, ap, sym, ◌∙◌, nat_eq, ltb, subst, All, arith}
use denote.Ref.{Bor}
use Rattle.std.specs.List.{slice_get}
use Rattle.std.proofs.lemmas.List.{drop_more}
use Rattle.std.proofs.lemmas.Bool.{le-ltb, ltb-true, ltb-false, eq-eqb, ne_eqb, or_right}
use Rattle.desk_base.specs.Names.{Text}
use Rattle.desk_base.specs.Entries.{Pool, text_at}
use Rattle.desk_format.specs.Split.{Want, wanted}
use Rattle.desk_format.specs.NewClass.{is_long, any_long, greatest_length}
use Rattle.desk_new_pool.specs.Wants.{image_or, image_is_long, want_of, wants_of, IsWanted}
use Rattle.desk_new_pool.specs.Refusals.{IsLeastLong, lesser}
use Rattle.desk_new_pool.specs.declared.wants.WantedText.{WantedText}
use Rattle.desk_new_pool.proofs.Wanted.{want_at, place_within, held_at}

-- ---- one use before the others

any_by : (b : Bool) (t : Text) (ts : List Text) → any_long (cond b (t ∷ ts) ts) ≡ (cond b (is_long t) false || any_long ts)
any_by true t ts = refl
any_by false t ts = refl

any_at : (j : ℕ) (w : Want) (ws : List Want) → any_long (wanted j (w ∷ ws)) ≡ (cond (nat_eq w.index j) (is_long w.text) false || any_long (wanted j ws))
any_at j w ws = any_by (nat_eq w.index j) w.text (wanted j ws)

short_here : (b c : Bool) → c ≡ false → cond b c false ≡ false
short_here true c h = h
short_here false c h = refl

any_short : (j : ℕ) (w : Want) (ws : List Want) → is_long w.text ≡ false → any_long (wanted j (w ∷ ws)) ≡ any_long (wanted j ws)
any_short j w ws h = any_at j w ws ∙ ap (λ (b : Bool). b || any_long (wanted j ws)) (short_here (nat_eq w.index j) (is_long w.text) h)

pub least_short : (w : Want) (ws : List Want) (o : Option ℕ) → is_long w.text ≡ false → IsLeastLong ws o → IsLeastLong (w ∷ ws) o
least_short w ws None h k = λ i. any_short i w ws h ∙ k i
least_short w ws (Some i) h k = (any_short i w ws h ∙ k.0, λ j lt. any_short j w ws h ∙ k.1 j lt)

any_here : (w : Want) (ws : List Want) → is_long w.text ≡ true → any_long (wanted w.index (w ∷ ws)) ≡ true
any_here w ws h =
    any_at w.index w ws ∙ ap (λ (b : Bool). cond b (is_long w.text) false || any_long (wanted w.index ws)) (eq-eqb w.index w.index refl)
    ∙ ap (λ (b : Bool). b || any_long (wanted w.index ws)) h

any_other : (j : ℕ) (w : Want) (ws : List Want) → w.index ≢ j → any_long (wanted j (w ∷ ws)) ≡ any_long (wanted j ws)
any_other j w ws h = any_at j w ws ∙ ap (λ (b : Bool). cond b (is_long w.text) false || any_long (wanted j ws)) (ne_eqb w.index j h)

any_before : (j : ℕ) (w : Want) (ws : List Want) → any_long (wanted j ws) ≡ true → any_long (wanted j (w ∷ ws)) ≡ true
any_before j w ws h = any_at j w ws ∙ or_right (cond (nat_eq w.index j) (is_long w.text) false) (any_long (wanted j ws)) h

least_by : (w : Want) (ws : List Want) (i : ℕ) (b : Bool) → ltb w.index i ≡ b → is_long w.text ≡ true → IsLeastLong ws (Some i) → IsLeastLong (w ∷ ws) (Some (min i w.index))
least_by w ws i true e h k =
    let less : w.index < i = ltb-true w.index i e in
    let same : w.index ≡ min i w.index = omega arith in
    subst (λ (n : ℕ). IsLeastLong (w ∷ ws) (Some n)) same (any_here w ws h, λ j lt. any_other j w ws (λ is. omega arith) ∙ k.1 j (omega arith))
least_by w ws i false e h k =
    let le : i ≤ w.index = ltb-false w.index i e in
    let same : i ≡ min i w.index = omega arith in
    subst (λ (n : ℕ). IsLeastLong (w ∷ ws) (Some n)) same (any_before i w ws k.0, λ j lt. any_other j w ws (λ is. omega arith) ∙ k.1 j lt)

least_one : (w : Want) (ws : List Want) (o : Option ℕ) → is_long w.text ≡ true → IsLeastLong ws o → IsLeastLong (w ∷ ws) (Some (lesser o w.index))
least_one w ws None h k = (any_here w ws h, λ j lt. any_other j w ws (λ is. omega arith) ∙ k j)
least_one w ws (Some i) h k = least_by w ws i (ltb w.index i) refl h k

-- ---- the image of a use

long_image : (own : Text) (image : Option (Bor Text)) → length own < 2 ^ 16 → is_long (image_or own image) ≡ image_is_long image
long_image own None h = le-ltb 65535 (length own) (omega arith)
long_image own (Some t) h = refl

pub long_want : (pool : Pool) (w : WantedText) → IsWanted pool w → is_long (want_of pool w).text ≡ image_is_long w.image
long_want pool w h = long_image (text_at pool w.used.index) w.image h.short

from_one : (ws : List WantedText) (p : ℕ) (d : WantedText) → 0 < p → p ≤ length ws → drop (p - 1) ws ≡ get_or ws (p - 1) d ∷ drop p ws
from_one ws p d pos le =
    let one : (p - 1) + 1 ≡ p = omega arith in
    drop_more ws (p - 1) d (omega arith) ∙ ap (λ (n : ℕ). get_or ws (p - 1) d ∷ drop n ws) one

-- the wants from a place on
pub from_place : (ws : List WantedText) (p : ℕ) (w : WantedText) → 0 < p → slice_get ws (p - 1) ≡ Some w → drop (p - 1) ws ≡ w ∷ drop p ws
from_place ws p w pos at =
    let within : p - 1 < length ws = place_within ws (p - 1) w at in
    from_one ws p w pos (omega arith) ∙ ap (λ (v : WantedText). v ∷ drop p ws) (want_at ws (p - 1) w at)

module _ (pool : Pool) (ws : List WantedText) (p : ℕ) (w : WantedText) (pos : 0 < p) (at : slice_get ws (p - 1) ≡ Some w) where
  pub long_passed : (o : Option ℕ) → All (IsWanted pool) ws → image_is_long w.image ≡ false → IsLeastLong (wants_of pool (drop p ws)) o → IsLeastLong (wants_of pool (drop (p - 1) ws)) o
  long_passed o all h k =
      subst (λ (l : List WantedText). IsLeastLong (wants_of pool l) o) (sym (from_place ws p w pos at))
      (least_short (want_of pool w) (wants_of pool (drop p ws)) o (long_want pool w (held_at (IsWanted pool) ws (p - 1) w at all) ∙ h) k)

  pub long_found : (o : Option ℕ) (i : ℕ) → All (IsWanted pool) ws → image_is_long w.image ≡ true → i ≡ lesser o w.used.index → IsLeastLong (wants_of pool (drop p ws)) o → IsLeastLong (wants_of pool (drop (p - 1) ws)) (Some i)
  long_found o i all h e k =
      subst (λ (n : ℕ). IsLeastLong (wants_of pool (drop (p - 1) ws)) (Some n)) (sym e)
      (subst (λ (l : List WantedText). IsLeastLong (wants_of pool l) (Some (lesser o w.used.index))) (sym (from_place ws p w pos at))
      (least_one (want_of pool w) (wants_of pool (drop p ws)) o (long_want pool w (held_at (IsWanted pool) ws (p - 1) w at all) ∙ h) k))

  -- ---- the greatest length

  pub greatest_passed : (i n : ℕ) → w.used.index ≢ i → n ≡ greatest_length (wanted i (wants_of pool (drop p ws))) → n ≡ greatest_length (wanted i (wants_of pool (drop (p - 1) ws)))
  greatest_passed i n other h =
      h ∙ sym (ap (λ (l : List WantedText). greatest_length (wanted i (wants_of pool l))) (from_place ws p w pos at)
      ∙ ap (λ (b : Bool). greatest_length (cond b ((want_of pool w).text ∷ wanted i (wants_of pool (drop p ws))) (wanted i (wants_of pool (drop p ws))))) (ne_eqb w.used.index i other))

  pub greatest_found : (i m n : ℕ) (own : Text) → w.used.index ≡ i → text_at pool i ≡ own → m ≡ length (image_or own w.image) → n ≡ greatest_length (wanted i (wants_of pool (drop p ws)))
      → max m n ≡ greatest_length (wanted i (wants_of pool (drop (p - 1) ws)))
  greatest_found i m n own same is e h =
      let text : length (want_of pool w).text ≡ m =
      ap (λ (j : ℕ). length (image_or (text_at pool j) w.image)) same ∙ ap (λ (t : Text). length (image_or t w.image)) is ∙ sym e in
      sym (ap (λ (l : List WantedText). greatest_length (wanted i (wants_of pool l))) (from_place ws p w pos at)
      ∙ ap (λ (b : Bool). greatest_length (cond b ((want_of pool w).text ∷ wanted i (wants_of pool (drop p ws))) (wanted i (wants_of pool (drop p ws))))) (eq-eqb w.used.index i same)
      ∙ ap (λ (k : ℕ). max k (greatest_length (wanted i (wants_of pool (drop p ws))))) text
      ∙ ap (max m) (sym h))

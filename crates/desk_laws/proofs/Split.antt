-- A chosen index leads to the wanted text.
use Rattle.std.proofs.Common.{◌≡◌, ℕ, suc, ◌<◌, ◌≤◌, Bool, true, false, cond, ◌||◌, ◌⊎◌, List, [], ◌∷◌, ◌++◌, map, length, get_or, Option, Some, None, refl, ap, sym, ◌∙◌, bytes_eq, inl, inr, arith}
use Rattle.std.specs.Ordering.{nat_cmp, is_lt}
use Rattle.std.specs.Cmp.Lexicographic.{slice_cmp}
use Rattle.std.proofs.lemmas.Slice.Eq.{bytes_eq-Decides}
use Rattle.std.proofs.lemmas.Bool.{or_right}
use Rattle.desk_base.specs.Entries.{Entry, utf8}
use Rattle.desk_base.specs.Entries.{Pool, entry_at, text_at, text_in}
use Rattle.desk_base.proofs.Bools.{or_weaker}
use Rattle.desk_format.specs.Split.{Want, is_text, has_text, add, missing, entry_of, split, kept, place_of, chosen}

has_text-append : (t : List ℕ) (a b : Pool) → has_text t a ≡ true → has_text t (a ++ b) ≡ true
has_text-append t [] b h = absurd cc
has_text-append t (e ∷ es) b h = or_weaker (is_text t e) (has_text t es) (has_text t (es ++ b)) (λ k. has_text-append t es b k) h

has_text-behind : (t : List ℕ) (a b : Pool) → has_text t b ≡ true → has_text t (a ++ b) ≡ true
has_text-behind t [] b h = h
has_text-behind t (e ∷ es) b h = or_right (is_text t e) (has_text t (es ++ b)) (has_text-behind t es b h)

is_text-is : (t : List ℕ) (slot : Option Entry) → is_text t slot ≡ true → slot ≡ Some (utf8 t)
is_text-is t (Some (utf8 s)) h = ap (λ (u : List ℕ). Some (utf8 u)) ((bytes_eq-Decides s t).0 h)
is_text-is t (Some _) h = absurd cc
is_text-is t None h = absurd cc

found_there : (t : List ℕ) (e : Option Entry) (es : Pool) (x : Bool) → is_text t e ≡ x → (x || has_text t es) ≡ true → (has_text t es ≡ true → get_or es (place_of t es) None ≡ Some (utf8 t)) → get_or (e ∷ es) (cond x 0 (suc (place_of t es))) None ≡ Some (utf8 t)
found_there t e es true p h k = is_text-is t e p
found_there t e es false p h k = k h

found : (t : List ℕ) (es : Pool) → has_text t es ≡ true → get_or es (place_of t es) None ≡ Some (utf8 t)
found t [] h = absurd cc
found t (e ∷ es) h = found_there t e es (is_text t e) refl h (λ k. found t es k)

within : (t : List ℕ) (es : Pool) (x : Bool) → (x || has_text t es) ≡ true → (has_text t es ≡ true → place_of t es < length es) → cond x 0 (suc (place_of t es)) < suc (length es)
within t es true h k = omega arith
within t es false h k = let l : place_of t es < length es = k h in omega arith

place_small : (t : List ℕ) (es : Pool) → has_text t es ≡ true → place_of t es < length es
place_small t [] h = absurd cc
place_small t (e ∷ es) h = within t es (is_text t e) h (λ k. place_small t es k)

-- one of the wants
abbrev pub IsWant : List Want → Want → Type 0
IsWant [] w = ⊥
IsWant (v ∷ vs) w = (v ≡ w) ⊎ IsWant vs w

-- ---- a text among texts in order

abbrev texts : List (List ℕ) → Pool
texts ts = map entry_of ts

add_own : (t s : List ℕ) (ss : List (List ℕ)) (same less : Bool) → bytes_eq s t ≡ same → (has_text t (texts (add t ss)) ≡ true) → has_text t (texts (cond same (s ∷ ss) (cond less (t ∷ (s ∷ ss)) (s ∷ add t ss)))) ≡ true
add_own t s ss true less p h = rw p refl
add_own t s ss false true p h = rw ((bytes_eq-Decides t t).1 refl) refl
add_own t s ss false false p h = rw p h

add_has : (t : List ℕ) (ss : List (List ℕ)) → has_text t (texts (add t ss)) ≡ true
add_has t [] = rw ((bytes_eq-Decides t t).1 refl) refl
add_has t (s ∷ ss) = add_own t s ss (bytes_eq s t) (is_lt (slice_cmp nat_cmp t s)) refl (add_has t ss)

add_other : (t u s : List ℕ) (ss : List (List ℕ)) (same less : Bool) → (bytes_eq s u || has_text u (texts ss)) ≡ true → (has_text u (texts ss) ≡ true → has_text u (texts (add t ss)) ≡ true) → has_text u (texts (cond same (s ∷ ss) (cond less (t ∷ (s ∷ ss)) (s ∷ add t ss)))) ≡ true
add_other t u s ss true less h k = h
add_other t u s ss false true h k = or_right (bytes_eq t u) _ h
add_other t u s ss false false h k = or_weaker (bytes_eq s u) _ _ k h

add_keeps : (t u : List ℕ) (ss : List (List ℕ)) → has_text u (texts ss) ≡ true → has_text u (texts (add t ss)) ≡ true
add_keeps t u [] h = absurd cc
add_keeps t u (s ∷ ss) h = add_other t u s ss (bytes_eq s t) (is_lt (slice_cmp nat_cmp t s)) h (λ k. add_keeps t u ss k)

missing_holds : (pool : Pool) (v : Want) (vs : List Want) (t : List ℕ) (x : Bool) → has_text t (texts (missing pool vs)) ≡ true → has_text t (texts (cond x (missing pool vs) (add v.text (missing pool vs)))) ≡ true
missing_holds pool v vs t true h = h
missing_holds pool v vs t false h = add_keeps v.text t (missing pool vs) h

missing_has : (pool : Pool) (ws : List Want) (w : Want) → IsWant ws w → has_text w.text pool ≡ false → has_text w.text (texts (missing pool ws)) ≡ true
missing_has pool [] w is without = absurd is
missing_has pool (v ∷ vs) w (inl e) without =
    let same : v.text ≡ w.text = ap (λ (x : Want). x.text) e in
    let out : has_text v.text pool ≡ false = ap (λ (t : List ℕ). has_text t pool) same ∙ without in
    rw out (ap (λ (t : List ℕ). has_text w.text (texts (add t (missing pool vs)))) same ∙ add_has w.text (missing pool vs))
missing_has pool (v ∷ vs) w (inr is) without = missing_holds pool v vs w.text (has_text v.text pool) (missing_has pool vs w is without)

split_cases : (pool : Pool) (ws : List Want) (w : Want) → IsWant ws w → (x : Bool) → has_text w.text pool ≡ x → has_text w.text (pool ++ texts (missing pool ws)) ≡ true
split_cases pool ws w is true p = has_text-append w.text pool (texts (missing pool ws)) p
split_cases pool ws w is false p = has_text-behind w.text pool (texts (missing pool ws)) (missing_has pool ws w is p)

-- each wanted text stands in the new pool
pub split_has : (ws : List Want) (pool : Pool) (w : Want) → IsWant ws w → has_text w.text (split ws pool) ≡ true
split_has ws pool w is = split_cases (kept ws 1 pool) ws w is (has_text w.text (kept ws 1 pool)) refl

-- a chosen index names the wanted text
pub record Leads (new : Pool) (i : ℕ) (t : List ℕ) : Type 0 where
  pub names : entry_at new i ≡ Some (utf8 t)
  pub within : i ≤ length new

text_in-is : (o : Option Entry) (s t : List ℕ) → o ≡ Some (utf8 s) → text_in o ≡ t → o ≡ Some (utf8 t)
text_in-is o s t p q = p ∙ ap (λ (u : List ℕ). Some (utf8 u)) (sym (ap text_in p) ∙ q)

chosen_case : (new : Pool) (w : Want) (own : List ℕ) (x : Bool) → bytes_eq (text_at new w.index) w.text ≡ x → entry_at new w.index ≡ Some (utf8 own) → w.index ≤ length new → has_text w.text new ≡ true → Leads new (cond x w.index (suc (place_of w.text new))) w.text
chosen_case new w own true p is le h = record { names = text_in-is (entry_at new w.index) own w.text is ((bytes_eq-Decides (text_at new w.index) w.text).0 p); within = le }
chosen_case new w own false p is le h = let l : place_of w.text new < length new = place_small w.text new h in record { names = found w.text new h; within = omega arith }

pub chosen_leads : (ws : List Want) (pool : Pool) (w : Want) (own : List ℕ) → IsWant ws w → entry_at (split ws pool) w.index ≡ Some (utf8 own) → w.index ≤ length (split ws pool) → Leads (split ws pool) (chosen (split ws pool) w) w.text
chosen_leads ws pool w own is names le = chosen_case (split ws pool) w own (bytes_eq (text_at (split ws pool) w.index) w.text) refl names le (split_has ws pool w is)

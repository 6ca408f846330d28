-- What is known of an entry's text, use by use.
use Rattle.std.proofs.Common.{◌≡◌, ℕ, suc, ◌+◌, ◌<◌, ◌≢◌, Bool, true, false, cond, ◌||◌, List, [], ◌∷◌, ◌++◌, length, get_or, take, Option, Some, None, option_map, map, refl, ap, sym, ◌∙◌, subst, bytes_eq, nat_eq, set, zero, All, get_or-set_same, get_or-set_other, one-add}
use denote.Ref.{Bor}
use mathlib.Core.Bool.{or-false, or-true, or_assoc}
use Rattle.std.proofs.lemmas.Slice.Eq.{bytes_eq-Decides}
use Rattle.desk_base.specs.Names.{Text}
use Rattle.desk_base.specs.Entries.{Entry, utf8, Pool, utf8_at, utf8_in, text_at}
use Rattle.desk_format.specs.Split.{Want, wanted, holds, keep, kept, kept_entry}
use Rattle.desk_laws.proofs.Slots.{kept-at}
use Rattle.desk_new_pool.specs.Keeps.{Keeps}
use Rattle.desk_new_pool.specs.Wants.{image_or, Differs, IsWanted, want_of, wants_of}
use Rattle.desk_new_pool.specs.declared.wants.WantedText.{WantedText}
use Rattle.std.specs.List.{slice_get}
use Rattle.std.proofs.lemmas.List.{map_more}
use Rattle.std.proofs.lemmas.List.Elements.{All-more}
use Rattle.std.proofs.lemmas.Option.{get_or_from_slice_get, slice_get_within}
use Rattle.std.proofs.lemmas.Bool.{eqb-true, eqb-false, or_from}
use Rattle.std.proofs.lemmas.Cmp.{nat_list_eq_equiv}
use Rattle.desk_new_pool.specs.declared.keeps.Keep.{Keep}
use Rattle.desk_new_pool.specs.declared.keeps.Keep.TheVariants as keeps

-- ---- the want at a place

pub want_at : (ws : List WantedText) (k : ℕ) (w : WantedText) → slice_get ws k ≡ Some w → get_or ws k w ≡ w
want_at ws k w at = get_or_from_slice_get ws k w w at

pub place_within : (ws : List WantedText) (k : ℕ) (w : WantedText) → slice_get ws k ≡ Some w → k < length ws
place_within ws k w at = slice_get_within ws k w at

-- what holds of each want holds of that at a place
pub held_at : (P : WantedText → Type 0) (ws : List WantedText) (k : ℕ) (w : WantedText) → slice_get ws k ≡ Some w → All P ws → P w
held_at P ws k w at all = subst P (want_at ws k w at) (all k w (place_within ws k w at))

-- one want more that it holds of
pub held_more : (P : WantedText → Type 0) (ws : List WantedText) (k : ℕ) (w : WantedText) → slice_get ws k ≡ Some w → P w → All P (take k ws) → All P (take (k + 1) ws)
held_more P ws k w at h all = All-more P ws k w (place_within ws k w at) all (subst P (sym (want_at ws k w at)) h)

-- what is made of one want more
pub made_more : (f : WantedText → ℕ) (ws : List WantedText) (k : ℕ) (w : WantedText) (ns ms : List ℕ) → slice_get ws k ≡ Some w → ns ≡ map f (take k ws) → ms ≡ ns ++ f w ∷ [] → ms ≡ map f (take (k + 1) ws)
made_more f ws k w ns ms at h e =
    e ∙ ap (λ (l : List ℕ). l ++ f w ∷ []) h ∙ ap (λ (v : WantedText). map f (take k ws) ++ f v ∷ []) (sym (want_at ws k w at))
    ∙ sym (map_more f ws k w (place_within ws k w at))

-- ---- one more use

holds-push : (ts : List Text) (t own : Text) → holds (ts ++ t ∷ []) own ≡ (holds ts own || bytes_eq t own)
holds-push [] t own = or-false (bytes_eq t own)
holds-push (s ∷ ss) t own = ap (λ (b : Bool). bytes_eq s own || b) (holds-push ss t own) ∙ sym (or_assoc (bytes_eq s own) (holds ss own) (bytes_eq t own))

other_by : (b : Bool) (t own : Text) → bytes_eq t own ≡ b → t ≢ own → b ≡ false
other_by true t own e ne = absurd (ne ((bytes_eq-Decides t own).0 e))
other_by false t own e ne = refl

pub other : (t own : Text) → t ≢ own → bytes_eq t own ≡ false
other t own ne = other_by (bytes_eq t own) t own refl ne

-- a use that wants the entry's own text
pub own_wanted : (ts : List Text) (own : Text) → holds (ts ++ own ∷ []) own ≡ true
own_wanted ts own = holds-push ts own own ∙ ap (λ (b : Bool). holds ts own || b) (nat_list_eq_equiv.refl own) ∙ or-true (holds ts own)

-- an own text that was wanted before
pub own_stays : (ts : List Text) (t own : Text) → holds ts own ≡ true → holds (ts ++ t ∷ []) own ≡ true
own_stays ts t own h = holds-push ts t own ∙ ap (λ (b : Bool). b || bytes_eq t own) h

-- a later use, which wants another text too
pub image_stays : (ts : List Text) (own t : Text) (s : Bor Text) → Keeps own ts (keeps.Image s) → t ≢ own → Keeps own (ts ++ t ∷ []) (keeps.Image s)
image_stays ts own t s h ne =
    (holds-push ts t own ∙ or_from (holds ts own) (bytes_eq t own) h.0 (other t own ne), (h.1.0 ++ t ∷ [], ap (λ (us : List Text). us ++ t ∷ []) h.1.1))

-- ---- all uses

wanted_by : (b : Bool) (x : Text) (xs ys : List Text) (c : Bool) (t : Text) → xs ≡ cond c (ys ++ t ∷ []) ys → cond b (x ∷ xs) xs ≡ cond c (cond b (x ∷ ys) ys ++ t ∷ []) (cond b (x ∷ ys) ys)
wanted_by true x xs ys true t h = ap (λ (zs : List Text). x ∷ zs) h
wanted_by true x xs ys false t h = ap (λ (zs : List Text). x ∷ zs) h
wanted_by false x xs ys c t h = h

pub wanted-push : (i : ℕ) (ws : List Want) (w : Want) → wanted i (ws ++ w ∷ []) ≡ cond (nat_eq w.index i) (wanted i ws ++ w.text ∷ []) (wanted i ws)
wanted-push i [] w = refl
wanted-push i (v ∷ vs) w = wanted_by (nat_eq v.index i) v.text (wanted i (vs ++ w ∷ [])) (wanted i vs) (nat_eq w.index i) w.text (wanted-push i vs w)

-- ---- what is kept

kept_text : (ws : List Want) (i : ℕ) (o : Option Entry) → utf8_in (option_map (kept_entry ws i) o) ≡ option_map (λ own. keep own (wanted i ws)) (utf8_in o)
kept_text ws i None = refl
kept_text ws i (Some (utf8 t)) = refl
kept_text ws i (Some _) = refl

text_at_slot : (ws : List Want) (pool : Pool) (i : ℕ) → utf8_at (kept ws 1 pool) (suc i) ≡ option_map (λ own. keep own (wanted (suc i) ws)) (utf8_at pool (suc i))
text_at_slot ws pool i = ap utf8_in (kept-at ws 1 pool i) ∙ ap (λ (n : ℕ). utf8_in (option_map (kept_entry ws n) (get_or pool i None))) (one-add i) ∙ kept_text ws (suc i) (get_or pool i None)

pub kept_text_at : (ws : List Want) (pool : Pool) (i : ℕ) → utf8_at (kept ws 1 pool) i ≡ option_map (λ own. keep own (wanted i ws)) (utf8_at pool i)
kept_text_at ws pool zero = refl
kept_text_at ws pool (suc i) = text_at_slot ws pool i

-- ---- the steps of the code

pub after_none : (own : Text) (ts : List Text) (image : Option (Bor Text)) → image ≡ None → holds (ts ++ image_or own image ∷ []) own ≡ true
after_none own ts image e = rw e (own_wanted ts own)

pub after_own : (own : Text) (ts : List Text) (image : Option (Bor Text)) (k : Keep) → k ≡ keeps.Own → Keeps own ts k → holds (ts ++ image_or own image ∷ []) own ≡ true
after_own own ts image k is h = own_stays ts (image_or own image) own (rw is at h)

pub after_image : (own : Text) (ts : List Text) (image : Option (Bor Text)) (t s : Bor Text) (k : Keep) → image ≡ Some t → k ≡ keeps.Image s → Differs own image → Keeps own ts k → Keeps own (ts ++ image_or own image ∷ []) k
after_image own ts image t s k e is d h = rw (e, is) (image_stays ts own t.now s (rw is at h) (rw e at d))

step_at : (pool : Pool) (w : WantedText) (ts : List Want) (xs : List Keep) (r : Keep) (i : ℕ) (b : Bool) → nat_eq w.used.index i ≡ b → w.used.index < length xs → Differs (text_at pool w.used.index) w.image
    → ((own : Text) (us : List Text) → Differs own w.image → Keeps own us (get_or xs w.used.index keeps.Unused) → Keeps own (us ++ image_or own w.image ∷ []) r)
    → Keeps (text_at pool i) (wanted i ts) (get_or xs i keeps.Unused)
    → Keeps (text_at pool i) (cond b (wanted i ts ++ (want_of pool w).text ∷ []) (wanted i ts)) (get_or (set xs w.used.index r) i keeps.Unused)
step_at pool w ts xs r i true e lt d f h =
    let is : w.used.index ≡ i = eqb-true w.used.index i e in
    let same : get_or (set xs w.used.index r) i keeps.Unused ≡ r = ap (λ (j : ℕ). get_or (set xs w.used.index r) j keeps.Unused) (sym is) ∙ get_or-set_same xs w.used.index r keeps.Unused lt in
    let here : Keeps (text_at pool w.used.index) (wanted i ts) (get_or xs w.used.index keeps.Unused) = subst (λ (j : ℕ). Keeps (text_at pool j) (wanted i ts) (get_or xs j keeps.Unused)) (sym is) h in
    let new : Keeps (text_at pool w.used.index) (wanted i ts ++ image_or (text_at pool w.used.index) w.image ∷ []) r = f (text_at pool w.used.index) (wanted i ts) d here in
    let at_i : Keeps (text_at pool i) (wanted i ts ++ image_or (text_at pool w.used.index) w.image ∷ []) r = subst (λ (j : ℕ). Keeps (text_at pool j) (wanted i ts ++ image_or (text_at pool w.used.index) w.image ∷ []) r) is new in
    subst (λ (k : Keep). Keeps (text_at pool i) (wanted i ts ++ image_or (text_at pool w.used.index) w.image ∷ []) k) (sym same) at_i
step_at pool w ts xs r i false e lt d f h =
    let ne : i ≢ w.used.index = λ is. eqb-false w.used.index i e (sym is) in
    subst (λ (k : Keep). Keeps (text_at pool i) (wanted i ts) k) (sym (get_or-set_other xs w.used.index i r keeps.Unused ne)) h

pub keeps_step : (pool : Pool) (ws : List WantedText) (k : ℕ) (w : WantedText) (xs : List Keep) (r : Keep) → slice_get ws k ≡ Some w → w.used.index < length xs → All (IsWanted pool) ws
    → ((own : Text) (us : List Text) → Differs own w.image → Keeps own us (get_or xs w.used.index keeps.Unused) → Keeps own (us ++ image_or own w.image ∷ []) r)
    → (i : ℕ) → Keeps (text_at pool i) (wanted i (wants_of pool (take k ws))) (get_or xs i keeps.Unused)
    → Keeps (text_at pool i) (wanted i (wants_of pool (take (k + 1) ws))) (get_or (set xs w.used.index r) i keeps.Unused)
keeps_step pool ws k w xs r at small all f i h =
    let more : wants_of pool (take (k + 1) ws) ≡ wants_of pool (take k ws) ++ want_of pool w ∷ [] =
    map_more (want_of pool) ws k w (place_within ws k w at) ∙ ap (λ (v : WantedText). wants_of pool (take k ws) ++ want_of pool v ∷ []) (want_at ws k w at) in
    let pushed : wanted i (wants_of pool (take (k + 1) ws)) ≡ cond (nat_eq w.used.index i) (wanted i (wants_of pool (take k ws)) ++ (want_of pool w).text ∷ []) (wanted i (wants_of pool (take k ws))) = ap (wanted i) more ∙ wanted-push i (wants_of pool (take k ws)) (want_of pool w) in
    subst (λ (ts : List Text). Keeps (text_at pool i) ts (get_or (set xs w.used.index r) i keeps.Unused)) (sym pushed)
    (step_at pool w (wants_of pool (take k ws)) xs r i (nat_eq w.used.index i) refl small (held_at (IsWanted pool) ws k w at all).differs f h)

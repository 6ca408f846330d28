-- The texts of a new pool have at most 65,535 bytes, where the wanted ones have.
use Rattle.std.proofs.Common.{◌≡◌, ℕ, zero, suc, ◌+◌, ◌<◌, ◌^◌, Bool, true, false, cond, List, [], ◌∷◌, map, length, get_or, Option, Some, None, option_map, ap, sym, ◌∙◌, subst, bytes_eq, nat_eq, All}
use denote.Ref.{Bor}
use Rattle.std.specs.List.{AllByRecursion}
use Rattle.std.specs.Option.{option_copied}
use Rattle.std.specs.Ordering.{nat_cmp, is_lt}
use Rattle.std.specs.Cmp.Lexicographic.{slice_cmp}
use Rattle.std.proofs.lemmas.List.{get_or_default, length-append, length-map}
use Rattle.desk_base.specs.Names.{Text}
use Rattle.desk_base.specs.Entries.{Entry, utf8, is_wide, tag_of, Pool, entry_at, utf8_in}
use Rattle.desk_format.specs.Split.{Want, wanted, holds, keep, kept_entry, kept, has_text, add, missing, entry_of, missing_texts, split}
use Rattle.desk_laws.specs.Sound.{IsTwoBytes, IsSound, IsShaped}
use Rattle.desk_laws.proofs.Bodies.{all_append}
use Rattle.desk_laws.proofs.Slots.{length-kept}
use Rattle.desk_new_pool.specs.Keeps.{TextsAre}
use Rattle.desk_new_pool.specs.Printing.{IsShortText}

abbrev pub IsShort : Text → Type 0
IsShort t = IsTwoBytes (length t)

abbrev pub WantShort : Want → Type 0
WantShort w = IsTwoBytes (length w.text)

-- a slot whose text, if it has one, is short
abbrev pub SlotShort : Option Entry → Type 0
SlotShort (Some (utf8 t)) = IsTwoBytes (length t)
SlotShort _ = Unit {0}

either : (b : Bool) (s t : Text) → IsShort s → IsShort t → IsShort (cond b s t)
either true s t h k = h
either false s t h k = k

-- ---- the old pool

sound_short : (e : Entry) → IsSound e → SlotShort (Some e)
sound_short (utf8 t) h = h.0
sound_short _ h = tt

shaped_short : (second : Bool) (pool : Pool) → IsShaped second pool → AllByRecursion SlotShort pool
shaped_short second [] h = tt
shaped_short true (None ∷ slots) h = (tt, shaped_short false slots h)
shaped_short true (Some e ∷ slots) h = absurd h
shaped_short false (None ∷ slots) h = absurd h
shaped_short false (Some e ∷ slots) h = (sound_short e (h.0), shaped_short (is_wide (tag_of e)) slots (h.1))

-- ---- what its entries keep

wanted_more : (b : Bool) (t : Text) (ts : List Text) → IsShort t → AllByRecursion IsShort ts → AllByRecursion IsShort (cond b (t ∷ ts) ts)
wanted_more true t ts h k = (h, k)
wanted_more false t ts h k = k

wanted_short : (i : ℕ) (ws : List Want) → AllByRecursion WantShort ws → AllByRecursion IsShort (wanted i ws)
wanted_short i [] h = tt
wanted_short i (w ∷ ws) h = wanted_more (nat_eq w.index i) w.text (wanted i ws) (h.0) (wanted_short i ws (h.1))

keep_short : (own : Text) (ts : List Text) → IsShort own → AllByRecursion IsShort ts → IsShort (keep own ts)
keep_short own [] h k = h
keep_short own (t ∷ ts) h k = either (holds (t ∷ ts) own) own t h (k.0)

slot_short : (ws : List Want) (i : ℕ) (slot : Option Entry) → AllByRecursion WantShort ws → SlotShort slot → SlotShort (option_map (kept_entry ws i) slot)
slot_short ws i None w h = tt
slot_short ws i (Some (utf8 own)) w h = keep_short own (wanted i ws) h (wanted_short i ws w)
slot_short ws i (Some _) w h = tt

kept_short : (ws : List Want) (i : ℕ) (slots : Pool) → AllByRecursion WantShort ws → AllByRecursion SlotShort slots → AllByRecursion SlotShort (kept ws i slots)
kept_short ws i [] w h = tt
kept_short ws i (slot ∷ slots) w h = (slot_short ws i slot w (h.0), kept_short ws (suc i) slots w (h.1))

-- ---- the missing texts

add_by : (x y : Bool) (t s : Text) (ss rest : List Text) → IsShort t → AllByRecursion IsShort (s ∷ ss) → AllByRecursion IsShort rest → AllByRecursion IsShort (cond x (s ∷ ss) (cond y (t ∷ (s ∷ ss)) (s ∷ rest)))
add_by true y t s ss rest h k r = k
add_by false true t s ss rest h k r = (h, k)
add_by false false t s ss rest h k r = (k.0, r)

add_short : (t : Text) (ts : List Text) → IsShort t → AllByRecursion IsShort ts → AllByRecursion IsShort (add t ts)
add_short t [] h k = (h, tt)
add_short t (s ∷ ss) h k = add_by (bytes_eq s t) (is_lt (slice_cmp nat_cmp t s)) t s ss (add t ss) h k (add_short t ss h (k.1))

missing_by : (b : Bool) (t : Text) (ts : List Text) → IsShort t → AllByRecursion IsShort ts → AllByRecursion IsShort (cond b ts (add t ts))
missing_by true t ts h k = k
missing_by false t ts h k = add_short t ts h k

missing_short : (pool : Pool) (ws : List Want) → AllByRecursion WantShort ws → AllByRecursion IsShort (missing pool ws)
missing_short pool [] h = tt
missing_short pool (w ∷ ws) h = missing_by (has_text w.text pool) w.text (missing pool ws) (h.0) (missing_short pool ws (h.1))

added_short : (ts : List Text) → AllByRecursion IsShort ts → AllByRecursion SlotShort (map entry_of ts)
added_short [] h = tt
added_short (t ∷ ts) h = (h.0, added_short ts (h.1))

split_short : (ws : List Want) (pool : Pool) → IsShaped false pool → AllByRecursion WantShort ws → AllByRecursion SlotShort (split ws pool)
split_short ws pool shaped h =
    all_append SlotShort (kept ws 1 pool) (map entry_of (missing_texts ws pool)) (kept_short ws 1 pool h (shaped_short false pool shaped)) (added_short (missing_texts ws pool) (missing_short (kept ws 1 pool) ws h))

-- ---- texts by index

slot_at : (slots : Pool) (j : ℕ) → AllByRecursion SlotShort slots → SlotShort (get_or slots j None)
slot_at [] j h = tt
slot_at (slot ∷ slots) zero h = h.0
slot_at (slot ∷ slots) (suc j) h = slot_at slots j (h.1)

entry_short : (slots : Pool) (i : ℕ) → AllByRecursion SlotShort slots → SlotShort (entry_at slots i)
entry_short slots zero h = tt
entry_short slots (suc j) h = slot_at slots j h

text_short : (o : Option (Bor Text)) (slot : Option Entry) → option_copied o ≡ utf8_in slot → SlotShort slot → IsShortText o
text_short None slot e h = tt
text_short (Some t) None e h = absurd cc
text_short (Some t) (Some (utf8 s)) e h = let same : t.now ≡ s = cc in subst (λ (r : Text). length r < 2 ^ 16) (sym same) h
text_short (Some t) (Some _) e h = absurd cc

pub texts_short : (ws : List Want) (pool : Pool) (texts : List (Option (Bor Text))) → IsShaped false pool → AllByRecursion WantShort ws → TextsAre (split ws pool) texts → All IsShortText texts
texts_short ws pool texts shaped h are = λ k d lt.
    subst IsShortText (get_or_default texts k None d lt) (text_short (get_or texts k None) (entry_at (split ws pool) k) (are.each k) (entry_short (split ws pool) k (split_short ws pool shaped h)))

pub length-split : (ws : List Want) (pool : Pool) → length (split ws pool) ≡ length pool + length (missing_texts ws pool)
length-split ws pool =
    length-append (kept ws 1 pool) (map entry_of (missing_texts ws pool)) ∙ ap (λ (n : ℕ). n + length (map entry_of (missing_texts ws pool))) (length-kept ws 1 pool)
    ∙ ap (λ (n : ℕ). length pool + n) (length-map (missing_texts ws pool) entry_of)

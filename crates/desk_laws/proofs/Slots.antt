-- The slots of a new pool, index by index.
use Rattle.std.proofs.Common.{◌≡◌, ℕ, zero, suc, ◌+◌, ◌<◌, ◌≤◌, List, [], ◌∷◌, map, length, drop, get_or, Option, Some, None, option_map, refl, ap, ◌∙◌, arith, length-append}
use Rattle.std.proofs.lemmas.List.{get_or_append_left, drop_at, map-append, length-map}
use Rattle.desk_base.specs.declared.kinds.Tag.{Tag}
use Rattle.desk_base.specs.declared.kinds.Used.{Used}
use Rattle.desk_base.specs.Entries.{Entry, utf8, class, tag_of}
use Rattle.desk_base.specs.Entries.{Pool, entry_at, tag_at}
use Rattle.desk_format.specs.Resolved.{Images}
use Rattle.desk_format.specs.Split.{Want, kept_entry, kept, missing_texts, entry_of, split}
use Rattle.desk_format.specs.NewPool.{Choice, wants, with_texts, new_texts, choice, new_pool, added}

pub length-kept : (ws : List Want) (k : ℕ) (pool : Pool) → length (kept ws k pool) ≡ length pool
length-kept ws k [] = refl
length-kept ws k (slot ∷ slots) = ap suc (length-kept ws (suc k) slots)

pub kept-at : (ws : List Want) (k : ℕ) (pool : Pool) (j : ℕ) → get_or (kept ws k pool) j None ≡ option_map (kept_entry ws (k + j)) (get_or pool j None)
kept-at ws k [] j = refl
kept-at ws k (slot ∷ slots) zero = ap (λ (i : ℕ). option_map (kept_entry ws i) slot) (omega arith)
kept-at ws k (slot ∷ slots) (suc j) = kept-at ws (suc k) slots j ∙ ap (λ (i : ℕ). option_map (kept_entry ws i) (get_or slots j None)) (omega arith)

map-at : (f : Entry → Entry) (pool : Pool) (j : ℕ) → get_or (map (option_map f) pool) j None ≡ option_map f (get_or pool j None)
map-at f [] j = refl
map-at f (slot ∷ slots) zero = refl
map-at f (slot ∷ slots) (suc j) = map-at f slots j

entry_at-map : (f : Entry → Entry) (pool : Pool) (i : ℕ) → entry_at (map (option_map f) pool) i ≡ option_map f (entry_at pool i)
entry_at-map f pool zero = refl
entry_at-map f pool (suc j) = map-at f pool j

entry_at-split : (ws : List Want) (pool : Pool) (i : ℕ) → i ≤ length pool → entry_at (split ws pool) i ≡ option_map (kept_entry ws i) (entry_at pool i)
entry_at-split ws pool zero le = refl
entry_at-split ws pool (suc j) le =
    let inside : j < length (kept ws 1 pool) = omega (arith, length-kept ws 1 pool) in
    get_or_append_left (kept ws 1 pool) (map entry_of (missing_texts ws pool)) None j inside
    ∙ kept-at ws 1 pool j
    ∙ ap (λ (i : ℕ). option_map (kept_entry ws i) (get_or pool j None)) (omega arith)

tag_of-with : (g : Choice) (e : Entry) → tag_of (with_texts g e) ≡ tag_of e
tag_of-with g (class i) = refl
tag_of-with g _ = refl

tag_of-kept : (ws : List Want) (i : ℕ) (e : Entry) → tag_of (kept_entry ws i e) ≡ tag_of e
tag_of-kept ws i (utf8 t) = refl
tag_of-kept ws i _ = refl

-- an entry past the end is none
pub in_range : (pool : Pool) (i : ℕ) (e : Entry) → entry_at pool i ≡ Some e → i ≤ length pool
in_range pool zero e h = omega arith
in_range [] (suc j) e h = absurd cc
in_range (slot ∷ slots) (suc zero) e h = omega arith
in_range (slot ∷ slots) (suc (suc j)) e h = let l : suc j ≤ length slots = in_range slots (suc j) e h in omega arith

-- the new entry at an old index
abbrev pub new_entry : Choice → List Want → ℕ → Entry → Entry
new_entry g ws i e = with_texts g (kept_entry ws i e)

tag_of-new : (g : Choice) (ws : List Want) (i : ℕ) (o : Option Entry) → option_map tag_of (option_map (with_texts g) (option_map (kept_entry ws i) o)) ≡ option_map tag_of o
tag_of-new g ws i None = refl
tag_of-new g ws i (Some e) = ap (λ (t : Tag). Some t) (tag_of-with g (kept_entry ws i e) ∙ tag_of-kept ws i e)

module _ (im : Images) (old : Pool) (us : List Used) where
  pub entry_at-new : (i : ℕ) → i ≤ length old → entry_at (new_pool im old us) i ≡ option_map (with_texts (choice im old us)) (option_map (kept_entry (wants im old us) i) (entry_at old i))
  entry_at-new i le = entry_at-map (with_texts (choice im old us)) (new_texts im old us) i ∙ ap (option_map (with_texts (choice im old us))) (entry_at-split (wants im old us) old i le)

  pub entry_is : (i : ℕ) (e : Entry) → entry_at old i ≡ Some e → entry_at (new_pool im old us) i ≡ Some (new_entry (choice im old us) (wants im old us) i e)
  entry_is i e h = entry_at-new i (in_range old i e h) ∙ ap (λ (o : Option Entry). option_map (with_texts (choice im old us)) (option_map (kept_entry (wants im old us) i) o)) h

  pub same_tag : (i : ℕ) → i ≤ length old → tag_at (new_pool im old us) i ≡ tag_at old i
  same_tag i le = ap (option_map tag_of) (entry_at-new i le) ∙ tag_of-new (choice im old us) (wants im old us) i (entry_at old i)

  -- a text of the new pool, which exchanging indices leaves
  pub text_stays : (i : ℕ) (t : List ℕ) → entry_at (new_texts im old us) i ≡ Some (utf8 t) → entry_at (new_pool im old us) i ≡ Some (utf8 t)
  text_stays i t h = entry_at-map (with_texts (choice im old us)) (new_texts im old us) i ∙ ap (option_map (with_texts (choice im old us))) h

  -- a text of the old pool keeps its index
  pub text_kept : (i : ℕ) (t : List ℕ) → entry_at old i ≡ Some (utf8 t) → (s : List ℕ) × (entry_at (new_texts im old us) i ≡ Some (utf8 s))
  text_kept i t h = (_, entry_at-split (wants im old us) old i (in_range old i (utf8 t) h) ∙ ap (option_map (kept_entry (wants im old us) i)) h)

  pub length-texts : length (new_texts im old us) ≡ length old + length (added im old us)
  length-texts = omega (arith, length-append (kept (wants im old us) 1 old) (map entry_of (added im old us)), length-kept (wants im old us) 1 old, length-map (added im old us) entry_of)

  pub length-new : length (new_pool im old us) ≡ length old + length (added im old us)
  length-new = length-map (new_texts im old us) (option_map (with_texts (choice im old us))) ∙ length-texts

  texts_stay : (ts : List (List ℕ)) → map (option_map (with_texts (choice im old us))) (map entry_of ts) ≡ map entry_of ts
  texts_stay [] = refl
  texts_stay (t ∷ ts) = ap (λ (slots : Pool). entry_of t ∷ slots) (texts_stay ts)

  pub appended_is : drop (length old) (new_pool im old us) ≡ map entry_of (added im old us)
  appended_is =
      let f = option_map (with_texts (choice im old us)) in
      ap (drop (length old)) (map-append f (kept (wants im old us) 1 old) (map entry_of (added im old us)))
      ∙ drop_at (map f (kept (wants im old us) 1 old)) (map f (map entry_of (added im old us))) (length old) (length-map (kept (wants im old us) 1 old) f ∙ length-kept (wants im old us) 1 old)
      ∙ texts_stay (added im old us)

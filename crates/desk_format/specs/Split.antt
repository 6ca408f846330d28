-- Splitting shared texts: which text each Utf8 keeps, which texts are missing, and which index a use takes.
use Rattle.std.specs.Prelude.{ℕ, suc, Bool, false, ◌||◌, List, [], ◌∷◌, ◌++◌, map, Option, Some, option_map, ◌==◌, if◌then◌else◌, bytes_eq}
use Rattle.std.specs.Ordering.{nat_cmp, is_lt}
use Rattle.std.specs.Cmp.Lexicographic.{slice_cmp}
use Rattle.desk_base.specs.Names.{Text}
use Rattle.desk_base.specs.Entries.{Entry, utf8, Pool, text_at}

-- what a use wants: its entry, and the image of its text
pub record Want : Type 0 where
  pub index : ℕ
  pub text : Text

-- the images that the uses of an entry want, in the order of the uses
abbrev pub wanted : ℕ → List Want → List Text
wanted i [] = []
wanted i (w ∷ ws) = if w.index == i then w.text ∷ wanted i ws else wanted i ws

abbrev pub holds : List Text → Text → Bool
holds [] t = false
holds (s ∷ ss) t = bytes_eq s t || holds ss t

-- An entry keeps its own text where that is wanted or nothing is, and else the first that is wanted.
abbrev pub keep : Text → List Text → Text
keep own [] = own
keep own (t ∷ ts) = if holds (t ∷ ts) own then own else t

abbrev pub kept_entry : List Want → ℕ → Entry → Entry
kept_entry ws i (utf8 own) = utf8 (keep own (wanted i ws))
kept_entry ws i e = e

-- what the indices from i on name, each Utf8 with the text that it keeps
abbrev pub kept : List Want → ℕ → Pool → Pool
kept ws i [] = []
kept ws i (slot ∷ slots) = option_map (kept_entry ws i) slot ∷ kept ws (suc i) slots

abbrev pub is_text : Text → Option Entry → Bool
is_text t (Some (utf8 s)) = bytes_eq s t
is_text t _ = false

abbrev pub has_text : Text → Pool → Bool
has_text t [] = false
has_text t (slot ∷ slots) = is_text t slot || has_text t slots

-- a text among texts in byte order, once
abbrev pub add : Text → List Text → List Text
add t [] = t ∷ []
add t (s ∷ ss) =
    if bytes_eq s t then s ∷ ss
    else if is_lt (slice_cmp nat_cmp t s) then t ∷ (s ∷ ss)
    else s ∷ add t ss

-- the wanted texts that no entry keeps, in byte order
abbrev pub missing : Pool → List Want → List Text
missing pool [] = []
missing pool (w ∷ ws) = if has_text w.text pool then missing pool ws else add w.text (missing pool ws)

abbrev pub entry_of : Text → Option Entry
entry_of t = Some (utf8 t)

abbrev pub missing_texts : List Want → Pool → List Text
missing_texts ws pool = missing (kept ws 1 pool) ws

-- the pool with the texts that its entries keep, and behind them the missing ones
abbrev pub split : List Want → Pool → Pool
split ws pool = kept ws 1 pool ++ map entry_of (missing_texts ws pool)

-- how many indices stand before the least that names a text
abbrev pub place_of : Text → Pool → ℕ
place_of t [] = 0
place_of t (slot ∷ slots) = if is_text t slot then 0 else suc (place_of t slots)

-- A use keeps its index where the entry keeps its image, and else takes the least index of that text.
abbrev pub chosen : Pool → Want → ℕ
chosen new w = if bytes_eq (text_at new w.index) w.text then w.index else suc (place_of w.text new)

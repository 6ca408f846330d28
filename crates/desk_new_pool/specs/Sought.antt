-- The images of the uses whose entries keep other texts.
use Rattle.std.specs.Prelude.{◌≡◌, ◌%◌, Bool, true, false, List, [], ◌∷◌, Option, Some, None, length, slice_index_or}
use denote.Ref.{Bor}
use Rattle.desk_base.specs.Names.{Text}
use Rattle.desk_format.specs.Split.{add, holds}
use Rattle.desk_new_pool.specs.Places.{not_kept}
use Rattle.desk_new_pool.specs.declared.wants.WantedText.{WantedText}

abbrev pub with_sought : Option Text → List Text → List Text
with_sought None ts = ts
with_sought (Some t) ts = add t ts

-- the images of the uses whose entries keep other texts, in byte order
abbrev pub sought_among : List (Option (Bor Text)) → List WantedText → List Text
sought_among texts [] = []
sought_among texts (w ∷ ws) = with_sought (not_kept texts w) (sought_among texts ws)

-- ---- by lengths

-- whether a table has the length of a text, up to multiples of 256
abbrev pub has_length : List Bool → Text → Bool
has_length table t = slice_index_or table (length t % 256) false

-- a table has the length of each of these texts
pub record KnowsLengths (table : List Bool) (ts : List Text) : Type 0 where
  pub count : length table ≡ 256
  pub known : (t : Text) → holds ts t ≡ true → has_length table t ≡ true

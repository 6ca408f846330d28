-- A body whose indices of texts are exchanged, and that moves as the constant pool before it grows or shrinks.
use Rattle.std.specs.Prelude.{◌≡◌, ℕ, ◌+◌, ◌-◌, ◌<◌, ◌^◌, Option, Some, None, List, [], ◌∷◌, ◌++◌, take, drop}
use Rattle.std.specs.Int.{w16, to_be_bytes}
use Rattle.desk_base.specs.declared.kinds.Used.{Used}
use Rattle.desk_base.specs.Entries.{Pool}
use Rattle.desk_base.specs.Misfits.{misfit}
use Rattle.desk_format.specs.Trees.{Tree, Use, map_tree, text_use}
use Rattle.desk_format.specs.Reading.{name_under}

-- the new index of each use, and the offset at which the body begins, before and after
pub record Change : Type 0 where
  pub index : Used → ℕ
  pub from : ℕ
  pub to : ℕ

-- an offset in the body, after
abbrev pub moved : Change → ℕ → ℕ
moved g at = g.to + (at - g.from)

-- An index that names a text is exchanged; any other stays.
abbrev pub index_or : (Used → ℕ) → ℕ → Option Used → ℕ
index_or g own None = own
index_or g own (Some u) = g u

abbrev pub new_index : (Used → ℕ) → Use → ℕ
new_index g u = index_or g u.index (text_use u)

abbrev pub exchanged : Change → Use → Use
exchanged g u = record { at = moved g u.at; kind = u.kind; index = new_index g.index u }

abbrev pub exchange : Change → Tree Use → Tree Use
exchange g = map_tree (exchanged g)

-- A new index fits its use kind, and the name of an attribute stays the same text.
pub record Suits (old new : Pool) (g : Change) (u : Use) : Type 0 where
  pub small : new_index g.index u < 2 ^ 16
  pub fits : misfit new u.kind (new_index g.index u) ≡ None
  pub name : name_under new u.kind (new_index g.index u) ≡ name_under old u.kind u.index

-- what an index of a tree that was read fits
pub record Fits (pool : Pool) (u : Use) : Type 0 where
  pub small : u.index < 2 ^ 16
  pub fits : misfit pool u.kind u.index ≡ None

-- bytes with two of them exchanged for those of a number
abbrev pub put_two : ℕ → ℕ → List ℕ → List ℕ
put_two i n bytes = take i bytes ++ to_be_bytes w16 n ++ drop (i + 2) bytes

-- The bytes, which begin at an offset, with the new index at the place of each use; all other bytes stay.
abbrev pub patch : (Used → ℕ) → ℕ → List Used → List ℕ → List ℕ
patch g from [] bytes = bytes
patch g from (u ∷ us) bytes = patch g from us (put_two (u.at - from) (g u) bytes)

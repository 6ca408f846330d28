-- A walk that gathers code arrays.
use Rattle.std.specs.Prelude.{ℕ, ◌+◌, ◌==◌, nat_le, List, [], ◌∷◌, ◌++◌, length, take, drop, Option, Some, None, if◌then◌else◌}
use Rattle.std.specs.Int.{Width, w16, byte_len, from_be_bytes}
use Rattle.desk_base.specs.Entries.{Pool, text_at}
use Rattle.desk_format.specs.Trees.{Tree, Use, print}
use Rattle.desk_parts.specs.Steps.{Steps}
use Rattle.desk_code.specs.declared.places.CodeAt.{CodeAt}

-- ---- what is gathered

-- a code array: the place of the field or method that it belongs to, which is the last that begins before it, its own place,
-- and its bytes
pub record MemberCode : Type 0 where
  pub member : ℕ
  pub at : ℕ
  pub code : List ℕ

-- the code arrays so far, and the place of the last field or method
pub record Found : Type 0 where
  pub member : ℕ
  pub codes : List MemberCode

abbrev pub none_found : Found
none_found = record { member = 0; codes = [] }

abbrev pub with_code : Found → ℕ → List ℕ → Found
with_code f at code = record { member = f.member; codes = f.codes ++ record { member = f.member; at = at; code = code } ∷ [] }

-- and those of a tree that begins at an offset
abbrev pub found_in : Found → ℕ → Tree Use → Found
found_in f at Tree.nothing = f
found_in f at (Tree.number bytes) = f
found_in f at (Tree.raw bytes) = f
found_in f at (Tree.code bytes) = with_code f at bytes
found_in f at (Tree.used u) = f
found_in f at (Tree.both a b) = found_in (found_in f at a) (at + length (print a)) b
found_in f at (Tree.member a) = found_in (record { member = at; codes = f.codes }) at a

-- ---- names and descriptors

-- the two-byte number behind so many bytes
abbrev pub number_behind : ℕ → List ℕ → ℕ
number_behind n bytes = from_be_bytes w16 (take 2 (drop n bytes))

-- name and descriptor stand behind the access flags of a field or method (JVMS 4.5, 4.6)
abbrev pub placed_code : List ℕ → MemberCode → CodeAt
placed_code bytes c = record { member = c.member; name = number_behind (c.member + 2) bytes; descriptor = number_behind (c.member + 4) bytes; at = c.at; length = length c.code }

-- ---- the walk

-- where it stands, and what it found
pub record Gather : Type 0 where
  pub at : ℕ
  pub left : List ℕ
  pub found : Found

abbrev pub gather : ℕ → List ℕ → Found → Gather
gather at left found = record { at = at; left = left; found = found }

abbrev pub past : ℕ → Found → Gather → Option Gather
past n found g = if nat_le n (length g.left) then Some (gather (g.at + n) (drop n g.left) found) else None

abbrev pub number_ahead : Width → Gather → ℕ
number_ahead w g = from_be_bytes w (take (byte_len w) g.left)

abbrev pub gathering : Pool → Steps Gather
gathering pool = record {
  bytes = λ n g. past n g.found g;
  ahead = number_ahead;
  index = λ kind g. past 2 g.found g;
  code = λ n g. past n (with_code g.found g.at (take n g.left)) g;
  name = λ g. text_at pool (number_ahead w16 g);
  enter = λ n g. if nat_le n (length g.left) then Some (gather g.at (take n g.left) g.found) else None;
  behind = λ n g. record { at = g.at + n; left = drop n g.left };
  leave = λ spot inner. if length inner.left == 0 then Some (gather spot.at spot.left inner.found) else None;
  member = λ g. gather g.at g.left (record { member = g.at; codes = g.found.codes });
}

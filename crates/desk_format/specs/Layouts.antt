-- The layouts of the structures of a class file, as data (JVMS 4.1, 4.5 to 4.7). A structure is read from its
-- first byte to its last, and numbers are big-endian (JVMS 4).
use Rattle.std.specs.Prelude.{ℕ, Option, None}
use Rattle.std.specs.Int.{Width}
use Rattle.desk_base.specs.Names.{Text}
use Rattle.desk_base.specs.declared.kinds.UseKind.{UseKind}
use Rattle.desk_base.specs.declared.faults.FaultKind.{FaultKind}

-- the fault of a number that is out of its range
abbrev pub Check : Type 0
Check = ℕ → Option FaultKind

abbrev pub any : Check
any n = None

-- number: a number of stated width, in its range.
-- sized: a number, and as many raw bytes behind it.
-- raw: raw bytes, as many as was read before.
-- index: a two-byte index of the constant pool, which names an entry that fits the use kind.
-- nothing: no bytes.
-- row: one layout, and another behind it.
-- table: a number, and as many behind it of one layout.
-- tagged: a one-byte tag in its range, and behind it the layout that the tag selects.
-- attributes: the attribute table of a place (JVMS 4.7): a two-byte count, and as many attributes, each with the
--   index of its name, a four-byte length, and as many bytes, of the layout that length and name select.
-- member: a field or a method.
-- fault: a structure that may not stand here, whatever its bytes.
pub data Layout : Type 0 where
  number : Width → Check → Layout
  sized : Width → Check → Layout
  raw : ℕ → Layout
  index : UseKind → Layout
  nothing : Layout
  row : Layout → Layout → Layout
  table : Width → Layout → Layout
  tagged : Check → (ℕ → Layout) → Layout
  attributes : (ℕ → Text → Layout) → Layout
  member : Layout → Layout
  fault : FaultKind → Layout

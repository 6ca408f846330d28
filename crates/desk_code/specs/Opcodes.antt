-- The opcodes of code (JVMS 6.5), as data: which opcodes, and what stands behind them.
use Rattle.std.specs.Prelude.{ℕ, Bool, true, false, not, ◌&&◌, ◌||◌, nat_le, List, [], ◌∷◌, Option, Some, None, if◌then◌else◌}
use Rattle.desk_base.specs.declared.kinds.Tag.{Tag}
use Rattle.desk_base.specs.declared.kinds.Tag.TheVariants as tags
use Rattle.desk_base.specs.Referents.{is_tag, is_loadable, is_any_method}
use Rattle.desk_code.specs.declared.opcodes.Operand.{Operand}
use Rattle.desk_code.specs.declared.opcodes.Operand.TheVariants as operands
use Rattle.desk_code.specs.declared.opcodes.Shape.{Shape}
use Rattle.desk_code.specs.declared.opcodes.Shape.TheVariants as shapes

-- ---- what an index names

-- the constants that take two places of the operand stack
abbrev pub is_wide : Tag → Bool
is_wide tags.Long = true
is_wide tags.Double = true
is_wide _ = false

abbrev pub names : Operand → Tag → Bool
names operands.Loadable tag = is_loadable tag && not (is_wide tag)
names operands.WideLoadable tag = is_wide tag || is_tag tags.Dynamic tag
names operands.Field tag = is_tag tags.Fieldref tag
names operands.Method tag = is_tag tags.Methodref tag
names operands.AnyMethod tag = is_any_method tag
names operands.InterfaceMethod tag = is_tag tags.InterfaceMethodref tag
names operands.CallSite tag = is_tag tags.InvokeDynamic tag
names operands.Class tag = is_tag tags.Class tag

abbrev pub is_named : Operand → Option Tag → Bool
is_named operand None = false
is_named operand (Some tag) = names operand tag

-- ---- the tables

-- the opcodes from the first to the last, and what stands behind each
pub record Row (A : Type 0) : Type 0 where
  pub first : ℕ
  pub last : ℕ
  pub behind : A

abbrev pub from : {A : Type 0} → ℕ → ℕ → A → Row A
from first last behind = record { first = first; last = last; behind = behind }

abbrev pub at : {A : Type 0} → ℕ → A → Row A
at opcode behind = from opcode opcode behind

abbrev pub find_row : {A : Type 0} → List (Row A) → ℕ → Option A
find_row [] n = None
find_row (r ∷ rs) n = if nat_le r.first n && nat_le n r.last then Some r.behind else find_row rs n

abbrev pub opcodes : List (Row Shape)
opcodes =
    from 0 15 (shapes.Bytes 0)  -- 00 to 0F
    ∷ at 16 (shapes.Bytes 1)  -- 10
    ∷ at 17 (shapes.Bytes 2)  -- 11
    ∷ at 18 (shapes.ByteIndex operands.Loadable)  -- 12
    ∷ at 19 (shapes.Index operands.Loadable 0)  -- 13
    ∷ at 20 (shapes.Index operands.WideLoadable 0)  -- 14
    ∷ from 21 25 (shapes.Bytes 1)  -- 15 to 19
    ∷ from 26 53 (shapes.Bytes 0)  -- 1A to 35
    ∷ from 54 58 (shapes.Bytes 1)  -- 36 to 3A
    ∷ from 59 131 (shapes.Bytes 0)  -- 3B to 83
    ∷ at 132 (shapes.Bytes 2)  -- 84
    ∷ from 133 152 (shapes.Bytes 0)  -- 85 to 98
    ∷ from 153 168 (shapes.Bytes 2)  -- 99 to A8
    ∷ at 169 (shapes.Bytes 1)  -- A9
    ∷ at 170 shapes.TableSwitch  -- AA
    ∷ at 171 shapes.LookupSwitch  -- AB
    ∷ from 172 177 (shapes.Bytes 0)  -- AC to B1
    ∷ from 178 181 (shapes.Index operands.Field 0)  -- B2 to B5
    ∷ at 182 (shapes.Index operands.Method 0)  -- B6
    ∷ from 183 184 (shapes.Index operands.AnyMethod 0)  -- B7, B8
    ∷ at 185 (shapes.Index operands.InterfaceMethod 2)  -- B9
    ∷ at 186 (shapes.Index operands.CallSite 2)  -- BA
    ∷ at 187 (shapes.Index operands.Class 0)  -- BB
    ∷ at 188 (shapes.Bytes 1)  -- BC
    ∷ at 189 (shapes.Index operands.Class 0)  -- BD
    ∷ from 190 191 (shapes.Bytes 0)  -- BE, BF
    ∷ from 192 193 (shapes.Index operands.Class 0)  -- C0, C1
    ∷ from 194 195 (shapes.Bytes 0)  -- C2, C3
    ∷ at 196 shapes.Wide  -- C4
    ∷ at 197 (shapes.Index operands.Class 1)  -- C5
    ∷ from 198 199 (shapes.Bytes 2)  -- C6, C7
    ∷ from 200 201 (shapes.Bytes 4)  -- C8, C9
    ∷ []

-- what stands behind an opcode
unfoldable pub shape_of : ℕ → Option Shape
shape_of = find_row opcodes

-- the opcodes behind C4, and how many bytes stand behind each
abbrev pub wide_opcodes : List (Row ℕ)
wide_opcodes =
    from 21 25 2  -- 15 to 19
    ∷ from 54 58 2  -- 36 to 3A
    ∷ at 169 2  -- A9
    ∷ at 132 4  -- 84
    ∷ []

unfoldable pub wide_size : ℕ → Option ℕ
wide_size = find_row wide_opcodes

-- ---- how many bytes of index stand behind an opcode

abbrev pub index_size : Option Shape → ℕ
index_size (Some (shapes.ByteIndex operand)) = 1
index_size (Some (shapes.Index operand n)) = 2
index_size _ = 0

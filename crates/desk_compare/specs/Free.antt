-- The free class of a class: its versions and its body, with each index of the constant pool exchanged for what it leads to, and each
-- code array for its instructions. So it tells nothing of the order of the pool, of entries that stand twice in it, or of
-- entries that nothing names.
use Rattle.std.specs.Prelude.{ℕ, List, map, Option, Some, None, option_map, Result, Ok, Err}
use Rattle.desk_base.specs.declared.faults.CodeFault.{CodeFault}
use Rattle.desk_base.specs.declared.faults.Malformed.{Malformed}
use Rattle.desk_base.specs.Entries.{Pool}
use Rattle.desk_format.specs.Trees.{Tree, Use}
use Rattle.desk_format.specs.Values.{Value, value_of}
use Rattle.desk_format.specs.Resolved.{value}
use Rattle.desk_format.specs.Classes.{Class, read_class}
use Rattle.desk_code.specs.declared.reader.Instruction.{Instruction}
use Rattle.desk_code.specs.Instructions.{instructions_of, plain_bytes}

-- ---- a code array

-- An instruction with no index left in it: its place, its opcode, the bytes behind the opcode that are no index, and the value
-- of its index if it has one.
pub record FreeInstruction : Type 0 where
  pub at : ℕ
  pub opcode : ℕ
  pub bytes : List ℕ
  pub value : Option Value

abbrev pub free_instruction : Pool → List ℕ → Instruction → FreeInstruction
free_instruction pool code i = record {
  at = i.at;
  opcode = i.opcode;
  bytes = plain_bytes code i;
  value = option_map (value_of pool) i.index;
}

-- what stands in a free tree in place of an index, and of a code array
pub data Leaf : Type 0 where
  index_to : Value → Leaf
  code_of : List FreeInstruction → Leaf

-- A code array that doesn't read to its end stays as it is.
abbrev pub code_or : Pool → List ℕ → List Instruction → Option CodeFault → Tree Leaf
code_or pool bytes is None = Tree.used (Leaf.code_of (map (free_instruction pool bytes) is))
code_or pool bytes is (Some f) = Tree.code bytes

unfoldable pub free_code : Pool → List ℕ → Tree Leaf
free_code pool bytes = code_or pool bytes (instructions_of pool bytes).instructions (instructions_of pool bytes).fault

-- ---- a body and a class

abbrev pub free : Pool → Tree Use → Tree Leaf
free pool Tree.nothing = Tree.nothing
free pool (Tree.number bytes) = Tree.number bytes
free pool (Tree.raw bytes) = Tree.raw bytes
free pool (Tree.code bytes) = free_code pool bytes
free pool (Tree.used u) = Tree.used (Leaf.index_to (value pool u))
free pool (Tree.both a b) = Tree.both (free pool a) (free pool b)
free pool (Tree.member a) = Tree.member (free pool a)

pub record FreeClass : Type 0 where
  pub minor : ℕ
  pub major : ℕ
  pub body : Tree Leaf

abbrev pub free_class : Class → FreeClass
free_class c = record { minor = c.minor; major = c.major; body = free c.pool c.body }

abbrev pub free_of : Result Class Malformed → Option FreeClass
free_of (Ok c) = Some (free_class c)
free_of (Err f) = None

-- the free class of some bytes, where they are a class
abbrev pub free_in : List ℕ → Option FreeClass
free_in bytes = free_of (read_class bytes)

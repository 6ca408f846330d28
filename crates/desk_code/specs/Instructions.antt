-- A code array cut into instructions, from its first byte on (JVMS 4.9, 6.5).
use Rattle.std.specs.Prelude.{ℕ, zero, suc, ◌+◌, ◌-◌, ◌*◌, ◌%◌, List, [], ◌∷◌, length, take, drop, Option, Some, None, option_map, Result, Ok, Err, nat_lt, nat_le, if◌then◌else◌, map}
use Rattle.std.specs.Int.{w8, w16, w32, from_be_bytes}
use Rattle.desk_base.specs.Entries.{Pool, tag_at}
use Rattle.desk_format.specs.Values.{Value, value_of}
use Rattle.desk_code.specs.declared.opcodes.Operand.{Operand}
use Rattle.desk_code.specs.declared.opcodes.Shape.{Shape}
use Rattle.desk_code.specs.declared.opcodes.Shape.TheVariants as shapes
use Rattle.desk_code.specs.declared.reader.Instruction.{Instruction}
use Rattle.desk_base.specs.declared.faults.CodeFault.{CodeFault}
use Rattle.desk_base.specs.declared.faults.CodeFault.TheVariants as faults
use Rattle.desk_code.specs.Opcodes.{is_named, shape_of, wide_size, index_size}

-- ---- one instruction

-- an instruction, or the first fault of its bytes
abbrev pub Reading : Type 0
Reading = Result Instruction CodeFault

-- an instruction at a place, with its opcode, so many bytes, and its index if it has one
abbrev pub instruction : ℕ → ℕ → ℕ → Option ℕ → Instruction
instruction at opcode size index = record { at = at; opcode = opcode; size = size; index = index }

-- So many bytes must stand behind the first opcode, which stands at a place.
abbrev pub within : ℕ → ℕ → List ℕ → Reading → Reading
within at n behind reading = if nat_lt (length behind) n then Err (faults.UnexpectedEnd at) else reading

-- the index stands behind the opcode
abbrev pub checked : Pool → Operand → ℕ → ℕ → ℕ → ℕ → Reading
checked pool operand at opcode size index =
    if is_named operand (tag_at pool index) then Ok (instruction at opcode size (Some index)) else Err (faults.Operand (at + 1))

-- by how many bytes the opcode at the place behind C4 has behind it
abbrev pub wide : ℕ → ℕ → List ℕ → Option ℕ → Reading
wide at opcode behind None = Err (faults.Opcode (at + 1))
wide at opcode behind (Some n) = within at n behind (Ok (instruction at opcode (2 + n) None))

-- an opcode behind C4; C4 stands at the place
abbrev pub widened : ℕ → ℕ → List ℕ → Reading
widened at opcode [] = Err (faults.UnexpectedEnd at)
widened at opcode (second ∷ behind) = wide at opcode behind (wide_size second)

-- ---- switches

-- how many bytes stand between the opcode of a switch and the next multiple of four, counted from the start of the code
abbrev pub padding : ℕ → ℕ
padding at = 3 - at % 4

-- the four-byte number in front of so many bytes
abbrev pub four : ℕ → List ℕ → ℕ
four n s = from_be_bytes w32 (take 4 (drop n s))

-- Signed numbers of four bytes go by these, which are in the same order, and as far apart.
abbrev pub ordered : ℕ → ℕ
ordered n = (n + 2147483648) % 4294967296

-- low, high, and the offsets from low to high
abbrev pub tabled : ℕ → ℕ → ℕ → List ℕ → ℕ → ℕ → Reading
tabled at opcode fixed behind low high =
    if nat_lt high low then Err (faults.Switch at)
    else within at (fixed + 4 * (high - low + 1)) behind (Ok (instruction at opcode (1 + (fixed + 4 * (high - low + 1))) None))

-- pairs, of which there are so many
abbrev pub paired : ℕ → ℕ → ℕ → List ℕ → ℕ → Reading
paired at opcode fixed behind n =
    if nat_le 2147483648 n then Err (faults.Switch at)
    else within at (fixed + 8 * n) behind (Ok (instruction at opcode (1 + (fixed + 8 * n)) None))

-- ---- by what stands behind its opcode

abbrev pub shaped : Pool → ℕ → ℕ → List ℕ → Option Shape → Reading
shaped pool at opcode behind None = Err (faults.Opcode at)
shaped pool at opcode behind (Some (shapes.Bytes n)) = within at n behind (Ok (instruction at opcode (1 + n) None))
shaped pool at opcode behind (Some (shapes.ByteIndex operand)) = within at 1 behind (checked pool operand at opcode 2 (from_be_bytes w8 (take 1 behind)))
shaped pool at opcode behind (Some (shapes.Index operand n)) = within at (2 + n) behind (checked pool operand at opcode (3 + n) (from_be_bytes w16 (take 2 behind)))
shaped pool at opcode behind (Some shapes.TableSwitch) =
    within at (padding at + 12) behind (tabled at opcode (padding at + 12) behind (ordered (four (padding at + 4) behind)) (ordered (four (padding at + 8) behind)))
shaped pool at opcode behind (Some shapes.LookupSwitch) =
    within at (padding at + 8) behind (paired at opcode (padding at + 8) behind (four (padding at + 4) behind))
shaped pool at opcode behind (Some shapes.Wide) = widened at opcode behind

unfoldable pub instruction_at : Pool → ℕ → ℕ → List ℕ → Reading
instruction_at pool at opcode behind = shaped pool at opcode behind (shape_of opcode)

-- ---- all of them

-- instructions one behind the other, and the fault that ends them if one does
pub record Instructions : Type 0 where
  pub instructions : List Instruction
  pub fault : Option CodeFault

-- none are left
abbrev pub no_instructions : Instructions
no_instructions = record { instructions = []; fault = None }

-- one, and what is read behind its bytes
abbrev pub goes_on : Reading → (ℕ → Instructions) → Instructions
goes_on (Ok i) rest = record { instructions = i ∷ (rest (i.size - 1)).instructions; fault = (rest (i.size - 1)).fault }
goes_on (Err f) rest = record { instructions = []; fault = Some f }

-- from a place on, where so many bytes there belong to the instruction before
unfoldable pub instructions_from : Pool → ℕ → ℕ → List ℕ → Instructions
instructions_from pool at skip [] = no_instructions
instructions_from pool at (suc skip) (b ∷ s) = instructions_from pool (at + 1) skip s
instructions_from pool at zero (b ∷ s) = goes_on (instruction_at pool at b s) (λ skip. instructions_from pool (at + 1) skip s)

-- all of a code array
abbrev pub instructions_of : Pool → List ℕ → Instructions
instructions_of pool code = instructions_from pool 0 0 code

-- ---- one after the other

-- the first, the fault where no instruction stands before it, or the end
abbrev pub next_of : Instructions → Result (Option Instruction) CodeFault
next_of c = elim (c.instructions) [ [] ↦ elim (c.fault) [ None ↦ Ok None | Some f ↦ Err f ] | i ∷ is ↦ Ok (Some i) ]

-- the first was taken; at the end and at a fault nothing changes
abbrev pub behind_next : Instructions → Instructions
behind_next c = elim (c.instructions) [ [] ↦ c | i ∷ is ↦ record { instructions = is; fault = c.fault } ]

-- ---- what they say

-- the bytes of an instruction behind its opcode that are no index
abbrev pub plain_bytes : List ℕ → Instruction → List ℕ
plain_bytes code i = drop (1 + index_size (shape_of i.opcode)) (take i.size (drop i.at code))

-- the place, the bytes, and the value of the index if there is one
pub record ResolvedInstruction : Type 0 where
  pub at : ℕ
  pub bytes : List ℕ
  pub value : Option Value

abbrev pub resolved_instruction : Pool → List ℕ → Instruction → ResolvedInstruction
resolved_instruction pool code i = record { at = i.at; bytes = take i.size (drop i.at code); value = option_map (value_of pool) i.index }

abbrev pub resolved_or : Pool → List ℕ → List Instruction → Option CodeFault → Result (List ResolvedInstruction) CodeFault
resolved_or pool code is None = Ok (map (resolved_instruction pool code) is)
resolved_or pool code is (Some f) = Err f

-- what a code array says, or its first fault
abbrev pub resolved_code : Pool → List ℕ → Result (List ResolvedInstruction) CodeFault
resolved_code pool code = resolved_or pool code (instructions_of pool code).instructions (instructions_of pool code).fault

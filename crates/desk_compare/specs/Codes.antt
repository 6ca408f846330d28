-- Whether two code arrays have the same instructions, or neither reads to its end and their bytes are the same, as a test.
use Rattle.std.specs.Prelude.{◌≡◌, ℕ, ◌+◌, ◌<◌, ◌≤◌, Bool, true, false, ◌&&◌, ◌==◌, List, [], ◌∷◌, length, drop, Option, Some, None}
use Rattle.std.specs.Str.{bytes_eq}
use Rattle.desk_base.specs.declared.faults.CodeFault.{CodeFault}
use Rattle.desk_base.specs.Entries.{Pool, tag_at}
use Rattle.desk_code.specs.declared.opcodes.Operand.{Operand}
use Rattle.desk_code.specs.declared.reader.Instruction.{Instruction}
use Rattle.desk_code.specs.Opcodes.{is_named}
use Rattle.desk_code.specs.Instructions.{instructions_of, instructions_from, plain_bytes}
use Rattle.desk_compare.specs.Values.{same_value}

-- two indices that lead to the same value, or none
abbrev pub same_index : Pool → Pool → Option ℕ → Option ℕ → Bool
same_index left right None None = true
same_index left right (Some i) (Some j) = same_value left right i j
same_index left right None (Some j) = false
same_index left right (Some i) None = false

-- an instruction of one code array, and one of the other
abbrev pub same_instruction : Pool → Pool → List ℕ → List ℕ → Instruction → Instruction → Bool
same_instruction left right s t i j =
    i.at == j.at && (i.opcode == j.opcode && (bytes_eq (plain_bytes s i) (plain_bytes t j) && same_index left right i.index j.index))

abbrev pub same_instructions : Pool → Pool → List ℕ → List ℕ → List Instruction → List Instruction → Bool
same_instructions left right s t [] [] = true
same_instructions left right s t (i ∷ is) (j ∷ js) = same_instruction left right s t i j && same_instructions left right s t is js
same_instructions left right s t [] (j ∷ js) = false
same_instructions left right s t (i ∷ is) [] = false

-- by the fault that ends the instructions, if one does
abbrev pub reads : Option CodeFault → Bool
reads None = true
reads (Some f) = false

-- whether each reads comes first: instructions before a fault don't count
abbrev pub by_reading : Bool → Bool → Bool → Bool → Bool
by_reading true true instructions bytes = instructions
by_reading false false instructions bytes = bytes
by_reading true false instructions bytes = false
by_reading false true instructions bytes = false

unfoldable pub same_code : Pool → Pool → List ℕ → List ℕ → Bool
same_code left right s t =
    by_reading (reads (instructions_of left s).fault) (reads (instructions_of right t).fault)
    (same_instructions left right s t (instructions_of left s).instructions (instructions_of right t).instructions) (bytes_eq s t)

-- ---- an instruction of both after the other

-- From a place on, both read to their ends, with the same instructions.
unfoldable pub read_alike : Pool → Pool → List ℕ → List ℕ → ℕ → Bool
read_alike left right s t at =
    reads (instructions_from left at 0 (drop at s)).fault
    && (reads (instructions_from right at 0 (drop at t)).fault
    && same_instructions left right s t (instructions_from left at 0 (drop at s)).instructions (instructions_from right at 0 (drop at t)).instructions)

-- two indices that name an operand of the same value
abbrev pub IsOperand : Pool → Pool → Operand → ℕ → ℕ → Type 0
IsOperand left right operand i j = (is_named operand (tag_at left i) ≡ true) × (same_value left right i j ≡ true)

-- What is left of two code arrays begins with the same instruction, of so many bytes.
abbrev pub IsStep : Pool → Pool → List ℕ → List ℕ → ℕ → Type 0
IsStep left right s t n =
    (0 < n) × (n ≤ length s) × (n ≤ length t)
    × ((code other : List ℕ) (at : ℕ) → drop at code ≡ s → drop at other ≡ t → read_alike left right code other (at + n) ≡ true → read_alike left right code other at ≡ true)

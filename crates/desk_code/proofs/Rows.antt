-- Code of worked classes, by the definitions.
use Rattle.std.proofs.Common.{◌≡◌, [], ◌∷◌, Some, None, refl}
use Rattle.desk_base.specs.Entries.{Pool, methodref}
use Rattle.desk_base.specs.declared.faults.CodeFault.TheVariants as faults
use Rattle.desk_code.specs.Opcodes.{shape_of, wide_size}
use Rattle.desk_code.specs.Instructions.{instructions_from, instruction, instruction_at, instructions_of}

abbrev one_method : Pool
one_method = Some (methodref 2 3) ∷ []

pub servlet : instructions_of one_method (42 ∷ 183 ∷ 0 ∷ 1 ∷ 177 ∷ []) ≡ record { instructions = instruction 0 42 1 None ∷ instruction 1 183 3 (Some 1) ∷ instruction 4 177 1 None ∷ []; fault = None }
unfolding instructions_from instruction_at shape_of wide_size
servlet = refl

pub no_opcode : instructions_of one_method (202 ∷ 183 ∷ 0 ∷ 1 ∷ 177 ∷ []) ≡ record { instructions = []; fault = Some (faults.Opcode 0) }
unfolding instructions_from instruction_at shape_of wide_size
no_opcode = refl

pub wide_at_the_end : instructions_of one_method (42 ∷ 196 ∷ []) ≡ record { instructions = instruction 0 42 1 None ∷ []; fault = Some (faults.UnexpectedEnd 1) }
unfolding instructions_from instruction_at shape_of wide_size
wide_at_the_end = refl

-- a table from 1 to 0 at place 1: two bytes of padding
pub low_over_high : instructions_of one_method (0 ∷ 170 ∷ 9 ∷ 9 ∷ 0 ∷ 0 ∷ 0 ∷ 0 ∷ 0 ∷ 0 ∷ 0 ∷ 1 ∷ 0 ∷ 0 ∷ 0 ∷ 0 ∷ []) ≡ record { instructions = instruction 0 0 1 None ∷ []; fault = Some (faults.Switch 1) }
unfolding instructions_from instruction_at shape_of wide_size
low_over_high = refl

-- a table from -1 to 0
pub two_offsets : instructions_of one_method (0 ∷ 170 ∷ 9 ∷ 9 ∷ 0 ∷ 0 ∷ 0 ∷ 0 ∷ 255 ∷ 255 ∷ 255 ∷ 255 ∷ 0 ∷ 0 ∷ 0 ∷ 0 ∷ 1 ∷ 2 ∷ 3 ∷ 4 ∷ 5 ∷ 6 ∷ 7 ∷ 8 ∷ []) ≡ record { instructions = instruction 0 0 1 None ∷ instruction 1 170 23 None ∷ []; fault = None }
unfolding instructions_from instruction_at shape_of wide_size
two_offsets = refl

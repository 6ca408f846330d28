use Rattle.std.proofs.Common.{◌≡◌, ◌≤◌, Some, refl, sym, arith}
use Rattle.desk_code.specs.Opcodes.{shape_of}
use Rattle.desk_code.specs.declared.opcodes.Shape.TheVariants.{Bytes}
use Rattle.desk_code.proofs.Table.{none_beyond, one_of_two}
use Rattle.desk_code.proofs.opcodes.shape_of.Goals as goal

pub returns-in-200 : goal.returns-in-200
unfolding shape_of
returns-in-200 c = one_of_two (λ t. Some (Bytes 4) ≡ shape_of t) 200 c.args.opcode (omega arith) (omega arith) refl refl

pub returns-in_default : goal.returns-in_default
returns-in_default c = let k : 202 ≤ c.args.opcode = omega arith in sym (none_beyond c.args.opcode k)

pub returns-in-17-3 : goal.returns-in-17-3
unfolding shape_of
returns-in-17-3 c = one_of_two (λ t. Some (Bytes 2) ≡ shape_of t) 198 c.args.opcode (omega arith) (omega arith) refl refl

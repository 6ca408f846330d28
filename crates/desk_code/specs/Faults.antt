-- The place of a fault of code.
use Rattle.std.specs.Prelude.{ℕ}
use Rattle.desk_base.specs.declared.faults.CodeFault.{CodeFault}
use Rattle.desk_base.specs.declared.faults.CodeFault.TheVariants as faults

abbrev pub place_of : CodeFault → ℕ
place_of (faults.Opcode at) = at
place_of (faults.UnexpectedEnd at) = at
place_of (faults.Switch at) = at
place_of (faults.Operand at) = at

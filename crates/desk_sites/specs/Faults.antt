-- Why code doesn't read, by its place in the file, and as it is written.
use Rattle.std.specs.Prelude.{ℕ, ◌+◌, codes}
use Rattle.desk_base.specs.Names.{Text}
use Rattle.desk_base.specs.declared.faults.CodeFault.{CodeFault}
use Rattle.desk_base.specs.declared.faults.CodeFault.TheVariants as faults

-- a fault of a code array that begins at an offset
abbrev pub moved_fault : ℕ → CodeFault → CodeFault
moved_fault by (faults.Opcode at) = faults.Opcode (by + at)
moved_fault by (faults.UnexpectedEnd at) = faults.UnexpectedEnd (by + at)
moved_fault by (faults.Switch at) = faults.Switch (by + at)
moved_fault by (faults.Operand at) = faults.Operand (by + at)

abbrev pub fault_name : CodeFault → Text
fault_name (faults.Opcode at) = codes "opcode"
fault_name (faults.UnexpectedEnd at) = codes "short"
fault_name (faults.Switch at) = codes "switch"
fault_name (faults.Operand at) = codes "operand"
